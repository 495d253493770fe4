use Rattle.std.proofs.Common.{sym, ◌∙◌, ◌≡◌, ◌≤◌, ◌+◌, ap, map, length, arith, Some, refl}
use Rattle.std.proofs.lemmas.List.{drop_all, length-map}
use Rattle.std.proofs.lemmas.Bool.{false≢true}
use Rattle.std.proofs.lemmas.Result.{err_from_is_err_and}
use Rattle.ss_core.specs.View.{classes}
use Rattle.ss_logic_means.proofs.Bad.{Derives-no_bad}
use Rattle.ss_logic_means.proofs.Valid.{derived_valid}
use Rattle.ss_terms.specs.Forms.{formula_at, formulas_at}
use Rattle.ss_deriv.specs.Lines.{line_of}
use Rattle.ss_terms.proofs.Grown.{IsBankOf-grown, IsGrown-then, HasFormula-grown, HasFormulas-grown}
use Rattle.ss_check_steps.specs.Stack.{state_of}
use Rattle.ss_check.specs.Delayed.{meant_state}
use Rattle.ss_check.proofs.Meant.{done_meant, not_done_meant}
use Rattle.ss_check.proofs.Runs.{bad_more, bad_here, bad_line, counted, LineWithin-grown, LineWithin-tested}
use Rattle.ss_check.proofs.steps.check_lines.Goals as goal

pub returns-then-not-is_line_within-clause-first : goal.returns-then-not-is_line_within-clause-first
returns-then-not-is_line_within-clause-first c = λ n e.
    let same : c.loop-i.i + 1 ≡ n = cc in
    sym c.loop-i.invariant.goes_on
    ∙ bad_line (classes c.args.classes.now) c.args.bank.now c.loop-i.bank c.loop-i.invariant.grown c.args.premises.now c.requires.premises c.args.goal c.requires.goal
    c.args.lines.now c.loop-i.i c.index-lines-i.result c.loop-i-test.true c.index-lines-i.is (meant_state (classes c.args.classes.now) (state_of c.loop-i.bank c.loop-i.cases.is_open c.loop-i.cases.known.items c.loop-i.cases.waiting.items))
    (c.loop-i.i + 1)
    (counted c.term_count-terms.result c.formula_count-formulas.result _ _ c.index-lines-i.result _ c.term_count-terms.ensures c.formula_count-formulas.ensures c.if-not-is_line_within.ensures)
    ∙ ap Some same

pub returns-then-not-is_line_within-clause-grown : goal.returns-then-not-is_line_within-clause-grown
returns-then-not-is_line_within-clause-grown c = c.loop-i.invariant.grown

pub step_meant-requires-clause-premises : goal.step_meant-requires-clause-premises
step_meant-requires-clause-premises c = HasFormulas-grown c.args.bank.now c.loop-i.bank c.loop-i.invariant.grown c.args.premises.now c.requires.premises

pub step_meant-requires-clause-goal : goal.step_meant-requires-clause-goal
step_meant-requires-clause-goal c = HasFormula-grown c.args.bank.now c.loop-i.bank c.loop-i.invariant.grown c.args.goal c.requires.goal

pub step_meant-requires-clause-line : goal.step_meant-requires-clause-line
step_meant-requires-clause-line c =
    LineWithin-grown c.args.bank.now c.loop-i.bank c.loop-i.invariant.grown c.index-lines-i.result (LineWithin-tested c.args.bank.now c.index-lines-i.result
    (counted c.term_count-terms.result c.formula_count-formulas.result _ _ c.index-lines-i.result _ c.term_count-terms.ensures c.formula_count-formulas.ensures c.if-not-is_line_within.ensures))

pub step_meant-requires-clause-bank : goal.step_meant-requires-clause-bank
step_meant-requires-clause-bank c = IsBankOf-grown (classes c.args.classes.now) c.args.bank.now c.loop-i.bank c.loop-i.invariant.grown c.requires.bank

pub returns-in_err-is_step-clause-first : goal.returns-in_err-is_step-clause-first
returns-in_err-is_step-clause-first c = λ n e.
    let p = err_from_is_err_and c.from_residual.result c.from_residual.ensures.1 in
    absurd (let clash = rw (p.1, p.2) at e in cc)

pub returns-in_err-is_step-clause-grown : goal.returns-in_err-is_step-clause-grown
returns-in_err-is_step-clause-grown c = IsGrown-then c.args.bank.now c.loop-i.bank c.step_meant.new.bank c.loop-i.invariant.grown c.step_meant.ensures.grown

pub returns-then-not-is_step-clause-first : goal.returns-then-not-is_step-clause-first
returns-then-not-is_step-clause-first c = λ n e.
    let same : c.loop-i.i + 1 ≡ n = cc in
    sym c.loop-i.invariant.goes_on
    ∙ bad_here (classes c.args.classes.now) c.args.bank.now c.loop-i.bank c.loop-i.invariant.grown c.args.premises.now c.requires.premises c.args.goal c.requires.goal
    c.args.lines.now c.loop-i.i c.index-lines-i.result c.loop-i-test.true c.index-lines-i.is (meant_state (classes c.args.classes.now) (state_of c.loop-i.bank c.loop-i.cases.is_open c.loop-i.cases.known.items c.loop-i.cases.waiting.items))
    (counted c.term_count-terms.result c.formula_count-formulas.result _ _ c.index-lines-i.result _ c.term_count-terms.ensures c.formula_count-formulas.ensures c.if-not-is_line_within.ensures)
    (c.loop-i.i + 1)
    (rw c.if-not-is_step.true at c.in_ok-is_step.ensures.step)
    ∙ ap Some same

pub returns-then-not-is_step-clause-grown : goal.returns-then-not-is_step-clause-grown
returns-then-not-is_step-clause-grown c = IsGrown-then c.args.bank.now c.loop-i.bank c.step_meant.new.bank c.loop-i.invariant.grown c.step_meant.ensures.grown

pub loop-i-preserved : goal.loop-i-preserved
loop-i-preserved c = record {
  grown = IsGrown-then c.args.bank.now c.loop-i.bank c.step_meant.new.bank c.loop-i.invariant.grown c.step_meant.ensures.grown;
  fine = c.in_ok-is_step.ensures.fine;
  goes_on = sym
      (bad_more (classes c.args.classes.now) c.args.bank.now c.loop-i.bank c.loop-i.invariant.grown c.args.premises.now c.requires.premises c.args.goal c.requires.goal
      c.args.lines.now c.loop-i.i c.index-lines-i.result c.loop-i-test.true c.index-lines-i.is (meant_state (classes c.args.classes.now) (state_of c.loop-i.bank c.loop-i.cases.is_open c.loop-i.cases.known.items c.loop-i.cases.waiting.items))
      (counted c.term_count-terms.result c.formula_count-formulas.result _ _ c.index-lines-i.result _ c.term_count-terms.ensures c.formula_count-formulas.ensures c.if-not-is_line_within.ensures)
      (c.loop-i.i + 1) _
      (rw c.if-not-is_step.false at c.in_ok-is_step.ensures.step))
      ∙ c.loop-i.invariant.goes_on;
}

pub returns-then-not-is_done-clause-first : goal.returns-then-not-is_done-clause-first
returns-then-not-is_done-clause-first c = λ n e.
    let at_last : length (map (line_of c.args.bank.now) c.args.lines.now) ≤ c.loop-i.i = rw length-map c.loop-i-test.false in
    let last = drop_all c.loop-i.i (map (line_of c.args.bank.now) c.args.lines.now) at_last in
    let same : length c.args.lines.now + 1 ≡ n = cc in
    let end : c.loop-i.i + 1 ≡ n = omega arith in
    sym c.loop-i.invariant.goes_on
    ∙ rw last (not_done_meant (classes c.args.classes.now) c.loop-i.bank c.loop-i.cases.is_open c.loop-i.cases.known.items c.loop-i.cases.waiting.items (c.loop-i.i + 1) (λ h. false≢true (c.if-not-is_done.ensures.1 h)))
    ∙ ap Some end

pub returns-clause-derives : goal.returns-clause-derives
returns-clause-derives c =
    let done = c.if-not-is_done.ensures.0 refl in
    let at_last : length (map (line_of c.args.bank.now) c.args.lines.now) ≤ c.loop-i.i = rw length-map c.loop-i-test.false in
    let last = drop_all c.loop-i.i (map (line_of c.args.bank.now) c.args.lines.now) at_last in
    Derives-no_bad (classes c.args.classes.now) (formulas_at c.args.bank.now c.args.premises.now) (formula_at c.args.bank.now c.args.goal) (map (line_of c.args.bank.now) c.args.lines.now)
    (sym c.loop-i.invariant.goes_on ∙ rw last (done_meant (classes c.args.classes.now) c.loop-i.bank c.loop-i.cases.is_open c.loop-i.cases.known.items c.loop-i.cases.waiting.items (c.loop-i.i + 1) done.0 done.1))

pub returns-clause-valid : goal.returns-clause-valid
returns-clause-valid c = λ chain alone are. derived_valid (classes c.args.classes.now) chain alone are _ _ (map (line_of c.args.bank.now) c.args.lines.now) (returns-clause-derives c)
