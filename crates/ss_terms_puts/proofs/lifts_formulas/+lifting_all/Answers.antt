use Rattle.std.proofs.Common.{map, ap, arith, ◌∙◌}
use Rattle.ss_core.specs.View as view
use Rattle.ss_logic.specs.Frames.{lifted}
use Rattle.ss_terms.specs.Forms.{formulas_at}
use Rattle.ss_terms.proofs.Grown.{IsGrown-then, HasFormulas-grown, IsBankOf-grown}
use Rattle.ss_terms_puts.proofs.Putting.{AreBelow-push, formulas_more, formula_equal}
use Rattle.ss_terms.proofs.Tested.{AreBelow-get}
use Rattle.ss_terms_puts.proofs.Lifting.{lift_and, lift_or}
use Rattle.ss_terms_puts.proofs.lifts_formulas.+lifting_all.Goals as goal

pub lift-returns-in_ok-parts-in-And-2-clause-at : goal.lift-returns-in_ok-parts-in-And-2-clause-at
lift-returns-in_ok-parts-in-And-2-clause-at t c =
    formula_equal c.formula.result c.formula.new.self _ _
    (lift_and c.args.n c.args.bank.now c.lift_all.new.bank c.args.f c.in-And.parts c.in_ok-parts-in-And-2.parts.items (rw c.in-And.is at c.formula_node.ensures)
    (c.in_ok-parts-in-And-2.ensures.at ∙ ap (λ xs. map (lifted c.args.n) (formulas_at c.args.bank.now xs)) (c.deref-in-And-2.ensures.value ∙ c.in_ok-parts-in-And.ensures.items ∙ c.deref-in-And.ensures.value)))
    c.formula.ensures.at

pub lift-returns-in_ok-parts-in-Or-2-clause-at : goal.lift-returns-in_ok-parts-in-Or-2-clause-at
lift-returns-in_ok-parts-in-Or-2-clause-at t c =
    formula_equal c.formula-in-Or.result c.formula-in-Or.new.self _ _
    (lift_or c.args.n c.args.bank.now c.lift_all-in-Or.new.bank c.args.f c.in-Or.parts c.in_ok-parts-in-Or-2.parts.items (rw c.in-Or.is at c.formula_node.ensures)
    (c.in_ok-parts-in-Or-2.ensures.at ∙ ap (λ xs. map (lifted c.args.n) (formulas_at c.args.bank.now xs)) (c.deref-in-Or-2.ensures.value ∙ c.in_ok-parts-in-Or.ensures.items ∙ c.deref-in-Or.ensures.value)))
    c.formula-in-Or.ensures.at

pub lift_all-lift-requires : goal.lift_all-lift-requires
lift_all-lift-requires t c =
    let small = AreBelow-get c.args.bound c.args.fs.now c.loop-f.f-index (record { 0 = 0 }) c.requires.below c.loop-f-test.true in
    let room = c.loop-f.invariant.grown.more_formulas in
    let d = c.decreases in
    (omega arith, (IsBankOf-grown (view.classes c.args.classes.now) c.args.bank.now c.loop-f.bank c.loop-f.invariant.grown c.requires.bank, omega arith))

pub lift_all-loop-f-preserved : goal.lift_all-loop-f-preserved
lift_all-loop-f-preserved t c =
    record {
      grown = IsGrown-then c.args.bank.now c.loop-f.bank c.lift.new.bank c.loop-f.invariant.grown c.lift.ensures.grown;
      below = rw c.in_ok-push.ensures.items (AreBelow-push _ c.loop-f.made.items c.in_ok-g.g (HasFormulas-grown c.loop-f.bank c.lift.new.bank c.lift.ensures.grown c.loop-f.made.items c.loop-f.invariant.below) c.in_ok-g.ensures.at.0);
      done = rw c.in_ok-push.ensures.items (formulas_more (lifted c.args.n) c.args.bank.now c.loop-f.bank c.lift.new.bank c.args.fs.now c.loop-f.made.items c.args.bound c.loop-f.f-index (record { 0 = 0 }) c.in_ok-g.g
          c.loop-f.invariant.grown c.lift.ensures.grown c.requires.below c.requires.in_bank c.loop-f-test.true c.loop-f.invariant.below c.loop-f.invariant.done c.in_ok-g.ensures.at.1);
    }
