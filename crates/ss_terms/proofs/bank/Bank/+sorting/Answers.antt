use Rattle.std.proofs.Common.{◌∙◌, sym, refl, arith}
use Rattle.ss_terms.specs.declared.forms.TermId.{TermId}
use Rattle.ss_terms.specs.Forms.{symbol_of, term_at}
use Rattle.ss_terms.proofs.Sorted.{closed_sorted}
use Rattle.ss_terms.proofs.Trees.{AreTermsBelow-more}
use Rattle.ss_terms.proofs.Tested.{AreTermsBelow-get, not_taken, taken, if_ok_same}
use Rattle.ss_terms.proofs.bank.Bank.+sorting.Goals as goal

pub are_sorted_under-is_sorted_under-requires : goal.are_sorted_under-is_sorted_under-requires
are_sorted_under-is_sorted_under-requires t c =
    let none : TermId = record { 0 = 0 } in
    let small = AreTermsBelow-get c.args.below c.args.ts.now c.loop-t.t-index none c.requires.below c.loop-t-test.true in
    let room = c.requires.there in
    let d = c.decreases in (omega (arith, small, d), omega (arith, small, room))

pub are_sorted_under-are_closed-requires : goal.are_sorted_under-are_closed-requires
are_sorted_under-are_closed-requires t c = AreTermsBelow-more c.args.below _ c.requires.there c.args.ts.now c.requires.below

pub is_applied_under-takes_terms-requires : goal.is_applied_under-takes_terms-requires
is_applied_under-takes_terms-requires t c = AreTermsBelow-more c.args.below _ c.requires.there c.args.arguments.now c.requires.below

pub is_applied_under-returns-then-not-is_taken : goal.is_applied_under-returns-then-not-is_taken
is_applied_under-returns-then-not-is_taken t c = λ cs is.
    not_taken cs c.args.bound.now c.args.self.now (symbol_of c.args.symbol) c.args.arguments.now _ refl (sym c.if-not-is_taken.true ∙ c.in_ok-is_taken.ensures cs is)

pub is_applied_under-returns : goal.is_applied_under-returns
is_applied_under-returns t c = λ cs is.
    if_ok_same c.are_sorted_under.result _ _
    (taken cs c.args.bound.now c.args.self.now (symbol_of c.args.symbol) c.args.arguments.now _ refl (sym c.if-not-is_taken.false ∙ c.in_ok-is_taken.ensures cs is))
    (c.are_sorted_under.ensures cs is)

pub is_sorted_under-returns-then-is_well_sorted : goal.is_sorted_under-returns-then-is_well_sorted
is_sorted_under-returns-then-is_well_sorted t c = λ cs is. sym (closed_sorted cs c.args.bound.now (term_at c.args.self.now c.args.t) (sym (c.if-is_well_sorted.ensures cs is)))
