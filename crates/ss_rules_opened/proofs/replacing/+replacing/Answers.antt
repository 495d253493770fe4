use Rattle.std.proofs.Common.{map, ap, arith, ◌∙◌}
use Rattle.ss_logic.specs.Opened.{replaced}
use Rattle.ss_terms.specs.Forms.{formula_at, formulas_at}
use Rattle.ss_terms.proofs.Grown.{IsGrown-then, HasFormula-grown, HasFormulas-grown}
use Rattle.ss_terms_puts.proofs.Putting.{AreBelow-push, formulas_more, formula_equal}
use Rattle.ss_terms.proofs.Tested.{AreBelow-get}
use Rattle.ss_rules_opened.proofs.Replaced.{replaced_and, replaced_or, replaced_forall, replaced_exists}
use Rattle.ss_rules_opened.proofs.replacing.+replacing.Goals as goal

pub replaced-returns-in_ok-parts-in-And-2-clause-at : goal.replaced-returns-in_ok-parts-in-And-2-clause-at
replaced-returns-in_ok-parts-in-And-2-clause-at t c =
    let x = formula_at c.args.bank.now c.args.from in
    let y = formula_at c.args.bank.now c.args.to in
    formula_equal c.formula.result c.formula.new.self _ _
    (replaced_and x y c.args.bank.now c.args.f c.replaced_below.new.bank c.in-And.parts c.in_ok-parts-in-And-2.parts.items (rw c.in-And.is at c.formula_node.ensures)
    (c.in_ok-parts-in-And-2.ensures.at ∙ ap (λ xs. map (replaced x y) (formulas_at c.args.bank.now xs)) (c.deref-in-And.ensures.value ∙ c.in_ok-parts-in-And.ensures.items ∙ c.deref.ensures.value)))
    c.formula.ensures.at

pub replaced-returns-in_ok-parts-in-Or-2-clause-at : goal.replaced-returns-in_ok-parts-in-Or-2-clause-at
replaced-returns-in_ok-parts-in-Or-2-clause-at t c =
    let x = formula_at c.args.bank.now c.args.from in
    let y = formula_at c.args.bank.now c.args.to in
    formula_equal c.formula-in-Or.result c.formula-in-Or.new.self _ _
    (replaced_or x y c.args.bank.now c.args.f c.replaced_below-in-Or.new.bank c.in-Or.parts c.in_ok-parts-in-Or-2.parts.items (rw c.in-Or.is at c.formula_node.ensures)
    (c.in_ok-parts-in-Or-2.ensures.at ∙ ap (λ xs. map (replaced x y) (formulas_at c.args.bank.now xs)) (c.deref-in-Or-2.ensures.value ∙ c.in_ok-parts-in-Or.ensures.items ∙ c.deref-in-Or.ensures.value)))
    c.formula-in-Or.ensures.at

pub replaced_below-replaced-requires : goal.replaced_below-replaced-requires
replaced_below-replaced-requires t c =
    let small = AreBelow-get c.args.bound c.args.fs.now c.loop-f.f-index (record { 0 = 0 }) c.requires.below c.loop-f-test.true in
    let room = c.loop-f.invariant.grown.more_formulas in
    let d = c.decreases in
    (omega arith, (HasFormula-grown c.args.bank.now c.loop-f.bank c.loop-f.invariant.grown c.args.from c.requires.from, (HasFormula-grown c.args.bank.now c.loop-f.bank c.loop-f.invariant.grown c.args.to c.requires.to, omega arith)))

pub replaced_below-loop-f-preserved : goal.replaced_below-loop-f-preserved
replaced_below-loop-f-preserved t c =
    let same_from = c.loop-f.invariant.grown.same_formulas c.args.from c.requires.from in
    let same_to = c.loop-f.invariant.grown.same_formulas c.args.to c.requires.to in
    record {
      grown = IsGrown-then c.args.bank.now c.loop-f.bank c.replaced.new.bank c.loop-f.invariant.grown c.replaced.ensures.grown;
      below = rw c.in_ok-push.ensures.items (AreBelow-push _ c.loop-f.made.items c.in_ok-g.g (HasFormulas-grown c.loop-f.bank c.replaced.new.bank c.replaced.ensures.grown c.loop-f.made.items c.loop-f.invariant.below) c.in_ok-g.ensures.at.0);
      done = rw c.in_ok-push.ensures.items (formulas_more (replaced (formula_at c.args.bank.now c.args.from) (formula_at c.args.bank.now c.args.to)) c.args.bank.now c.loop-f.bank c.replaced.new.bank c.args.fs.now c.loop-f.made.items c.args.bound c.loop-f.f-index (record { 0 = 0 }) c.in_ok-g.g
          c.loop-f.invariant.grown c.replaced.ensures.grown c.requires.below c.requires.in_bank c.loop-f-test.true c.loop-f.invariant.below c.loop-f.invariant.done (rw (same_from, same_to) at c.in_ok-g.ensures.at.1));
    }
