use Rattle.std.proofs.Common.{◌≤◌, length, sym, ◌∙◌, ap}
use Rattle.std.proofs.lemmas.List.{drop_all, length-map}
use Rattle.ss_logic.specs.Sums as sums
use Rattle.ss_terms.specs.Forms.{term_at}
use Rattle.ss_terms.proofs.Grown.{IsGrown-then, HasTerm-grown}
use Rattle.ss_linear_sums.specs.Linear.{parts_at}
use Rattle.ss_linear_sums.proofs.Places.{HasParts-get}
use Rattle.ss_linear_sums.proofs.Quotients.{onto_next}
use Rattle.ss_linear_sums.proofs.bounds.sum_onto.Goals as goal

pub plus-requires-clause-term : goal.plus-requires-clause-term
plus-requires-clause-term c = c.loop-part.invariant.in_bank

pub plus-requires-clause-part : goal.plus-requires-clause-part
plus-requires-clause-part c =
    HasTerm-grown c.args.bank.now c.loop-part.bank c.loop-part.invariant.grown _ (HasParts-get c.args.bank.now c.args.parts.now c.loop-part.part-index _ c.loop-part-test.true c.requires.parts)

pub loop-part-preserved : goal.loop-part-preserved
loop-part-preserved c = record {
  grown = IsGrown-then c.args.bank.now c.loop-part.bank c.plus.new.bank c.loop-part.invariant.grown c.plus.ensures.grown;
  in_bank = c.in_ok-more.ensures.at.0;
  goes_on = onto_next c.args.bank.now c.loop-part.bank c.loop-part.invariant.grown c.args.parts.now c.loop-part.part-index _ c.loop-part-test.true c.requires.parts _ _ c.in_ok-more.ensures.at.1 ∙ c.loop-part.invariant.goes_on;
}

pub returns-clause-at : goal.returns-clause-at
returns-clause-at c =
    let at_last : length (parts_at c.args.bank.now c.args.parts.now) ≤ c.loop-part.part-index = rw length-map c.loop-part-test.false in
    let last = drop_all c.loop-part.part-index (parts_at c.args.bank.now c.args.parts.now) at_last in
    (c.loop-part.invariant.in_bank, sym (ap (sums.sum_onto (term_at c.loop-part.bank c.loop-part.made)) last) ∙ c.loop-part.invariant.goes_on)
