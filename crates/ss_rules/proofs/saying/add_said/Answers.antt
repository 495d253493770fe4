use Rattle.std.proofs.Common.{subst, sym}
use Rattle.ss_core.specs.View as view
use Rattle.ss_logic.specs.Asked.{said}
use Rattle.ss_rules_asked.specs.Numbers.{asked_at, HasRule, HasArguments}
use Rattle.ss_rules_asked.specs.declared.asked.Asked.{Asked}
use Rattle.ss_rules_asked.proofs.Grown.{HasRule-grown, HasArguments-grown, HasAsked-get}
use Rattle.ss_terms.proofs.Grown.{IsGrown-then}
use Rattle.ss_rules_occurring.specs.Found.{formulas_of, Holds}
use Rattle.ss_rules.specs.Said.{with_said}
use Rattle.ss_rules.proofs.Making.{said_next}
use Rattle.ss_rules.proofs.saying.add_said.Goals as goal

pub loop-one-preserved : goal.loop-one-preserved
loop-one-preserved c = record {
  grown = IsGrown-then c.args.bank.now c.loop-one.bank c.add_one_said.new.bank c.loop-one.invariant.grown c.add_one_said.ensures.grown;
  added = said_next (view.classes c.args.classes.now) c.args.bank.now c.loop-one.bank c.add_one_said.new.bank (formulas_of c.args.bank.now c.args.listed.now.list) c.loop-one.listed.list c.add_one_said.new.listed.list c.args.asked.now c.loop-one.one-index c.one-item.result
      c.loop-one.invariant.grown c.requires.asked c.loop-one-test.true c.loop-one.invariant.added
      (subst (λ x. Holds c.add_one_said.new.bank c.add_one_said.new.listed.list (with_said (formulas_of c.loop-one.bank c.loop-one.listed.list) (said (view.classes c.args.classes.now) (asked_at c.loop-one.bank x)))) c.one-item.is c.in_ok-add_one_said.ensures.added);
  noted = λ premises goal choices h. c.in_ok-add_one_said.ensures.noted premises goal choices (c.loop-one.invariant.noted premises goal choices h);
}

pub add_one_said-requires-clause-rule : goal.add_one_said-requires-clause-rule
add_one_said-requires-clause-rule c =
    subst (λ (x : Asked). HasRule c.loop-one.bank x.rule) (sym c.one-item.is)
    (HasRule-grown c.args.bank.now c.loop-one.bank c.loop-one.invariant.grown _ (HasAsked-get c.args.bank.now c.args.asked.now c.loop-one.one-index c.one-item.result c.requires.asked c.loop-one-test.true).0)

pub add_one_said-requires-clause-arguments : goal.add_one_said-requires-clause-arguments
add_one_said-requires-clause-arguments c =
    subst (λ (x : Asked). HasArguments c.loop-one.bank x.arguments.items) (sym c.one-item.is)
    (HasArguments-grown c.args.bank.now c.loop-one.bank c.loop-one.invariant.grown _ (HasAsked-get c.args.bank.now c.args.asked.now c.loop-one.one-index c.one-item.result c.requires.asked c.loop-one-test.true).1)
