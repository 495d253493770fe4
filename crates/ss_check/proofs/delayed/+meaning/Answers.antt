use Rattle.std.proofs.Common.{map, sym, ap, arith, ◌∙◌}
use Rattle.ss_core.specs.View as view
use Rattle.ss_terms.specs.Forms.{formula_at, formulas_at}
use Rattle.ss_terms.proofs.Grown.{IsGrown-then, HasFormulas-grown, IsBankOf-grown}
use Rattle.ss_terms_puts.proofs.Putting.{AreBelow-push, formulas_more, formula_equal}
use Rattle.ss_terms.proofs.Tested.{AreBelow-get}
use Rattle.ss_check.specs.Delayed.{meant}
use Rattle.ss_check.proofs.Meant.{meant_formed, meant_or, other_meant}
use Rattle.ss_check.proofs.delayed.+meaning.Goals as goal

pub meant_at-returns-then-is_well_formed-clause-at : goal.meant_at-returns-then-is_well_formed-clause-at
meant_at-returns-then-is_well_formed-clause-at t c =
    (c.requires.formula, sym (meant_formed (view.classes c.args.classes.now) (formula_at c.args.bank.now c.args.f) (sym (c.is_well_formed.ensures (view.classes c.args.classes.now) c.requires.bank) ∙ c.if-is_well_formed.true)))

pub meant_at-returns-in_ok-parts-in-Or-2-clause-at : goal.meant_at-returns-in_ok-parts-in-Or-2-clause-at
meant_at-returns-in_ok-parts-in-Or-2-clause-at t c =
    formula_equal c.formula.result c.formula.new.self _ _
    (meant_or (view.classes c.args.classes.now) c.args.bank.now c.all_meant_at.new.bank c.args.f c.in-Or.parts c.in_ok-parts-in-Or-2.parts.items (rw c.in-Or.is at c.formula_node.ensures)
    (c.in_ok-parts-in-Or-2.ensures.at ∙ ap (λ xs. map (meant (view.classes c.args.classes.now)) (formulas_at c.args.bank.now xs)) (c.deref-in-Or.ensures.value ∙ c.in_ok-parts-in-Or.ensures.items ∙ c.deref.ensures.value)))
    c.formula.ensures.at

pub meant_at-returns-in_default-clause-at : goal.meant_at-returns-in_default-clause-at
meant_at-returns-in_default-clause-at t c =
    formula_equal c.alone_at.result c.alone_at.new.bank _ _
    (other_meant (view.classes c.args.classes.now) c.args.bank.now c.args.f c.formula_node.result.now c.formula_node.ensures c.in_default.not-Or)
    c.alone_at.ensures.at

pub all_meant_at-meant_at-requires : goal.all_meant_at-meant_at-requires
all_meant_at-meant_at-requires t c =
    let small = AreBelow-get c.args.bound c.args.fs.now c.loop-f.f-index (record { 0 = 0 }) c.requires.below c.loop-f-test.true in
    let room = c.loop-f.invariant.grown.more_formulas in
    let d = c.decreases in
    (omega arith, (IsBankOf-grown (view.classes c.args.classes.now) c.args.bank.now c.loop-f.bank c.loop-f.invariant.grown c.requires.bank, omega arith))

pub all_meant_at-loop-f-preserved : goal.all_meant_at-loop-f-preserved
all_meant_at-loop-f-preserved t c = record {
  grown = IsGrown-then c.args.bank.now c.loop-f.bank c.meant_at.new.bank c.loop-f.invariant.grown c.meant_at.ensures.grown;
  below = rw c.in_ok-push.ensures.items (AreBelow-push _ c.loop-f.made.items c.in_ok-g.g (HasFormulas-grown c.loop-f.bank c.meant_at.new.bank c.meant_at.ensures.grown c.loop-f.made.items c.loop-f.invariant.below) c.in_ok-g.ensures.at.0);
  done = rw c.in_ok-push.ensures.items (formulas_more (meant (view.classes c.args.classes.now)) c.args.bank.now c.loop-f.bank c.meant_at.new.bank c.args.fs.now c.loop-f.made.items c.args.bound c.loop-f.f-index (record { 0 = 0 }) c.in_ok-g.g
      c.loop-f.invariant.grown c.meant_at.ensures.grown c.requires.below c.requires.in_bank c.loop-f-test.true c.loop-f.invariant.below c.loop-f.invariant.done c.in_ok-g.ensures.at.1);
}
