use Rattle.std.proofs.Common.{◌≡◌, true, false, arith, rules, ap, sym, ◌∙◌}
use Rattle.std.proofs.lemmas.Grind.{common_steps}
use Rattle.std.specs.List.{list_all, list_any}
use Rattle.std.proofs.lemmas.List.{take_all}
use Rattle.ss_logic_countermodels.specs.Refuting.{comes_out}
use Rattle.ss_terms.specs.Forms.{formulas_at}
use Rattle.ss_terms.proofs.Tested.{AreBelow-get}
use Rattle.ss_search_models.specs.Candidates.{model_at}
use Rattle.ss_search_models.proofs.Outcome.{kept_outcome, ok_finds, outcome_of_and, outcome_of_or, outcome_of_literal, outcome_of_forall, outcome_of_exists, all_next, some_next, all_stopped, some_stopped}
use Rattle.ss_search_models.proofs.outcomes.+finding.Goals as goal

pub outcome-returns-then-has : goal.outcome-returns-then-has
outcome-returns-then-has t c =
    let right = c.requires.outcomes.right c.args.f (sym c.if-has.ensures) in
    record { outcomes = c.requires.outcomes; is = first_of (cc, grind (arith, common_steps), search rules) }

pub outcome-returns : goal.outcome-returns
outcome-returns t c =
    kept_outcome c.args.bank.now (model_at c.args.bank.now c.args.candidate.now) c.new_outcome.new.outcomes c.put.new.self c.put-2.new.self c.args.f _ c.in_ok-found.ensures c.in_ok-put.ensures c.in_ok-put-2.ensures

pub new_outcome-returns-in-And : goal.new_outcome-returns-in-And
new_outcome-returns-in-And t c =
    let m = model_at c.args.bank.now c.args.candidate.now in
    ok_finds c.args.bank.now m c.all_come_true.result c.all_come_true.new.outcomes _ _
    (ap (λ xs. list_all (comes_out m) (formulas_at c.args.bank.now xs)) c.deref.ensures.value ∙ outcome_of_and c.args.bank.now m c.args.f c.in-And.parts (rw c.in-And.is at c.formula_node.ensures))
    c.all_come_true.ensures

pub new_outcome-returns-in-Or : goal.new_outcome-returns-in-Or
new_outcome-returns-in-Or t c =
    let m = model_at c.args.bank.now c.args.candidate.now in
    ok_finds c.args.bank.now m c.some_come_true.result c.some_come_true.new.outcomes _ _
    (ap (λ xs. list_any (comes_out m) (formulas_at c.args.bank.now xs)) c.deref-in-Or.ensures.value ∙ outcome_of_or c.args.bank.now m c.args.f c.in-Or.parts (rw c.in-Or.is at c.formula_node.ensures))
    c.some_come_true.ensures

pub new_outcome-returns-in-Literal : goal.new_outcome-returns-in-Literal
new_outcome-returns-in-Literal t c = record {
  outcomes = c.requires.outcomes;
  is = outcome_of_literal c.args.bank.now (model_at c.args.bank.now c.args.candidate.now) c.args.f _ _ _ _ _ (rw c.in-Literal.is at c.formula_node.ensures) c.told_of.ensures.told c.truth.ensures;
}

pub new_outcome-returns-in-Forall : goal.new_outcome-returns-in-Forall
new_outcome-returns-in-Forall t c = record {
  outcomes = c.requires.outcomes;
  is = outcome_of_forall c.args.bank.now (model_at c.args.bank.now c.args.candidate.now) c.args.f _ _ _ (rw c.in-Forall.is at c.formula_node.ensures) c.truth-in-Forall.ensures;
}

pub new_outcome-returns-in-Exists : goal.new_outcome-returns-in-Exists
new_outcome-returns-in-Exists t c = record {
  outcomes = c.requires.outcomes;
  is = outcome_of_exists c.args.bank.now (model_at c.args.bank.now c.args.candidate.now) c.args.f _ _ _ _ (rw c.in-Exists.is at c.formula_node.ensures) c.told_of-in-Exists.ensures.told c.truth-in-Exists.ensures;
}

pub all_come_true-outcome-requires : goal.all_come_true-outcome-requires
all_come_true-outcome-requires t c =
    let small = AreBelow-get c.args.bound c.args.fs.now c.loop-f.f-index (record { 0 = 0 }) c.requires.below c.loop-f-test.true in
    let room = c.requires.in_bank in
    let d = c.decreases in
    (omega arith, (c.requires.candidate, (c.loop-f.invariant.outcomes, omega arith)))

pub some_come_true-outcome-requires : goal.some_come_true-outcome-requires
some_come_true-outcome-requires t c =
    let small = AreBelow-get c.args.bound c.args.fs.now c.loop-f.f-index (record { 0 = 0 }) c.requires.below c.loop-f-test.true in
    let room = c.requires.in_bank in
    let d = c.decreases in
    (omega arith, (c.requires.candidate, (c.loop-f.invariant.outcomes, omega arith)))

pub all_come_true-loop-f-preserved : goal.all_come_true-loop-f-preserved
all_come_true-loop-f-preserved t c =
    let kept : c.in_ok-outcome.field-0 ≡ true = first_of (search rules, grind (arith, common_steps)) in
    record {
      outcomes = c.in_ok-outcome.ensures.outcomes;
      all = all_next c.args.bank.now (model_at c.args.bank.now c.args.candidate.now) c.args.fs.now c.loop-f.f-index (record { 0 = 0 }) c.in_ok-outcome.field-0 c.loop-f-test.true c.loop-f.invariant.all c.in_ok-outcome.ensures.is kept;
    }

pub all_come_true-returns-then-not-branch : goal.all_come_true-returns-then-not-branch
all_come_true-returns-then-not-branch t c =
    let stopped : c.in_ok-outcome.field-0 ≡ false = first_of (search rules, grind (arith, common_steps)) in
    all_stopped c.args.bank.now (model_at c.args.bank.now c.args.candidate.now) c.args.fs.now c.loop-f.f-index (record { 0 = 0 }) c.outcome.new.outcomes c.in_ok-outcome.field-0 c.loop-f-test.true c.in_ok-outcome.ensures stopped

pub all_come_true-returns : goal.all_come_true-returns
all_come_true-returns t c = record {
  outcomes = c.loop-f.invariant.outcomes;
  is = sym c.loop-f.invariant.all
      ∙ ap (λ xs. list_all (comes_out (model_at c.args.bank.now c.args.candidate.now)) (formulas_at c.args.bank.now xs)) (take_all c.loop-f.f-index c.args.fs.now c.loop-f-test.false);
}

pub some_come_true-loop-f-preserved : goal.some_come_true-loop-f-preserved
some_come_true-loop-f-preserved t c =
    let kept : c.in_ok-outcome.field-0 ≡ false = first_of (search rules, grind (arith, common_steps)) in
    record {
      outcomes = c.in_ok-outcome.ensures.outcomes;
      none = some_next c.args.bank.now (model_at c.args.bank.now c.args.candidate.now) c.args.fs.now c.loop-f.f-index (record { 0 = 0 }) c.in_ok-outcome.field-0 c.loop-f-test.true c.loop-f.invariant.none c.in_ok-outcome.ensures.is kept;
    }

pub some_come_true-returns-then-branch : goal.some_come_true-returns-then-branch
some_come_true-returns-then-branch t c =
    let stopped : c.in_ok-outcome.field-0 ≡ true = first_of (search rules, grind (arith, common_steps)) in
    some_stopped c.args.bank.now (model_at c.args.bank.now c.args.candidate.now) c.args.fs.now c.loop-f.f-index (record { 0 = 0 }) c.outcome.new.outcomes c.in_ok-outcome.field-0 c.loop-f-test.true c.in_ok-outcome.ensures stopped

pub some_come_true-returns : goal.some_come_true-returns
some_come_true-returns t c = record {
  outcomes = c.loop-f.invariant.outcomes;
  is = sym c.loop-f.invariant.none
      ∙ ap (λ xs. list_any (comes_out (model_at c.args.bank.now c.args.candidate.now)) (formulas_at c.args.bank.now xs)) (take_all c.loop-f.f-index c.args.fs.now c.loop-f-test.false);
}
