use Rattle.std.proofs.Common.{[], ◌∷◌, ◌++◌}
use Rattle.ss_rules_asked.specs.Numbers.{rule_at, argument_at, arguments_at, asked_in, asked_with}
use Rattle.ss_rules_asked.proofs.Grown.{HasArguments-get}
use Rattle.ss_rules_asked_first.proofs.Joining.{one_next}
use Rattle.ss_rules_asked_first.proofs.parts.ask_with_each.Goals as goal

pub ask_with-requires-clause-last : goal.ask_with-requires-clause-last
ask_with-requires-clause-last c = (HasArguments-get c.args.context.now.bank.now c.args.lasts.now c.loop-last.last-index _ c.requires.lasts c.loop-last-test.true, tt)

pub loop-last-preserved : goal.loop-last-preserved
loop-last-preserved c =
    one_next c.args.context.now.bank.now (argument_at c.args.context.now.bank.now) (λ t. asked_with (rule_at c.args.context.now.bank.now c.args.rule) (arguments_at c.args.context.now.bank.now c.args.first.now ++ arguments_at c.args.context.now.bank.now c.args.middle.now ++ t ∷ []))
    (asked_in c.args.context.now.bank.now c.args.asked.now.items) c.loop-last.asked.items c.ask_with.new.asked.items c.args.lasts.now c.loop-last.last-index _ c.loop-last-test.true c.loop-last.invariant c.in_ok-ask_with.ensures
