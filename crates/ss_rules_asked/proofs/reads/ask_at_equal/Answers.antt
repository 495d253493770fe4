use Rattle.std.proofs.Common.{◌∙◌, subst, sym}
use Rattle.ss_rules_asked.specs.Numbers.{HasArguments}
use Rattle.ss_rules_asked.specs.declared.asked.Argument.TheVariants as argument
use Rattle.ss_rules_asked.proofs.Grown.{HasArguments-push}
use Rattle.ss_rules_asked.proofs.reads.ask_at_equal.Goals as goal

pub ask-requires-clause-arguments : goal.ask-requires-clause-arguments
ask-requires-clause-arguments c = let h = rw c.in-Some.is at c.equals.ensures in
    subst (HasArguments c.args.bank.now) (sym (c.deref.ensures.value ∙ c.in_ok-push-in-Some.ensures.items)) (HasArguments-push c.args.bank.now c.in_ok-arguments-in-Some.arguments.items (argument.Term c.in-Some.t) c.in_ok-arguments-in-Some.ensures.has h.has)
