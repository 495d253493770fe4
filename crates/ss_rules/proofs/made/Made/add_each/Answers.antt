use Rattle.std.proofs.Common.{[], ◌∷◌, length, arith, Some, sym, ap, subst, ◌∙◌, length-append}
use Rattle.std.proofs.lemmas.Option.{slice_get-get_or}
use Rattle.ss_core.specs.View as view
use Rattle.ss_logic.specs.Asked.{said}
use Rattle.ss_rules_asked.specs.Numbers.{asked_at, HasRule, HasArguments}
use Rattle.ss_rules_asked.specs.declared.asked.Asked.{Asked}
use Rattle.ss_rules_asked.proofs.Grown.{HasRule-grown, HasArguments-grown, HasAsked-get}
use Rattle.ss_terms.proofs.Grown.{IsGrown-then}
use Rattle.ss_rules_occurring.specs.Found.{formulas_of, Holds}
use Rattle.ss_rules.specs.Said.{with_said}
use Rattle.ss_rules.proofs.Making.{said_next}
use Rattle.ss_rules.proofs.Again.{AreMade-grown, HasAsked-grown, next_number}
use Rattle.ss_rules.proofs.made.Made.add_each.Goals as goal

pub add_one-requires-clause-made : goal.add_one-requires-clause-made
add_one-requires-clause-made c = AreMade-grown (view.classes c.args.context.now.classes.now) c.args.bank.now c.loop-one.bank c.loop-one.invariant.grown c.args.self.now c.requires.made

pub add_one-requires-clause-rule : goal.add_one-requires-clause-rule
add_one-requires-clause-rule c =
    subst (λ (x : Asked). HasRule c.loop-one.bank x.rule) (sym c.one-item.is)
    (HasRule-grown c.args.bank.now c.loop-one.bank c.loop-one.invariant.grown _ (HasAsked-get c.args.bank.now c.args.asked.now c.loop-one.one-index c.one-item.result c.requires.asked c.loop-one-test.true).0)

pub add_one-requires-clause-arguments : goal.add_one-requires-clause-arguments
add_one-requires-clause-arguments c =
    subst (λ (x : Asked). HasArguments c.loop-one.bank x.arguments.items) (sym c.one-item.is)
    (HasArguments-grown c.args.bank.now c.loop-one.bank c.loop-one.invariant.grown _ (HasAsked-get c.args.bank.now c.args.asked.now c.loop-one.one-index c.one-item.result c.requires.asked c.loop-one-test.true).1)

pub loop-one-preserved : goal.loop-one-preserved
loop-one-preserved c =
    let a = c.args in
    let cs = view.classes a.context.now.classes.now in
    let i = c.loop-one.one-index in
    let one = c.one-item.result in
    let pushed = c.in_ok-push.ensures.items in
    record {
      grown = IsGrown-then a.bank.now c.loop-one.bank c.add_one.new.bank c.loop-one.invariant.grown c.add_one.ensures.grown;
      added = said_next cs a.bank.now c.loop-one.bank c.add_one.new.bank (formulas_of a.bank.now a.listed.now.list) c.loop-one.listed.list c.add_one.new.listed.list a.asked.now i one
          c.loop-one.invariant.grown c.requires.asked c.loop-one-test.true c.loop-one.invariant.added
          (subst (λ x. Holds c.add_one.new.bank c.add_one.new.listed.list (with_said (formulas_of c.loop-one.bank c.loop-one.listed.list) (said cs (asked_at c.loop-one.bank x)))) c.one-item.is c.in_ok-found.ensures.added);
      noted = λ premises goal choices h. c.in_ok-found.ensures.noted premises goal choices (c.loop-one.invariant.noted premises goal choices h);
      count = omega (arith, c.loop-one.invariant.count, ap length pushed, length-append c.loop-one.all.items (c.in_ok-found.found ∷ []));
      numbers = next_number cs c.loop-one.bank c.add_one.new.bank c.add_one.ensures.grown a.asked.now c.loop-one.all.items c.push.new.self.items c.in_ok-found.found i one
          (HasAsked-grown a.bank.now c.loop-one.bank c.loop-one.invariant.grown a.asked.now c.requires.asked) c.loop-one.invariant.count
          (slice_get-get_or a.asked.now i one c.loop-one-test.true ∙ ap Some (sym c.one-item.is)) c.loop-one.invariant.numbers pushed c.in_ok-found.ensures.at;
    }
