use Rattle.std.proofs.Common.{ℕ, List, sym, subst}
use Rattle.std.specs.Prelude.{IfOk, IfSome}
use Rattle.std.proofs.lemmas.Option.{IfSome_then}
use Rattle.std.proofs.lemmas.Result.{IfOk-weaker}
use Rattle.ss_logic.specs.Occurring.{terms}
use Rattle.ss_linear.specs.Contradictions.{HasPairs, Pairs}
use Rattle.ss_terms.specs.declared.forms.FormulaId.{FormulaId}
use Rattle.ss_terms.specs.Forms.{formulas_at, HasFormulas}
use Rattle.ss_search_reached.specs.Groups.{AreWholeLinks}
use Rattle.ss_search_whole_sums.specs.Contradicting.{ArePairsEqual, CloseFacts}
use Rattle.ss_search_whole_sums.specs.WholeSums.{CloseFormed}
use Rattle.ss_search_whole_sums.proofs.Wholes.{pairs_equal, closes_formed}
use Rattle.ss_search_whole_sums.proofs.whole_sums.close_by_links.Goals as goal

pub whole_links-requires : goal.whole_links-requires
whole_links-requires c = subst (HasFormulas c.args.context.now.bank.now) (sym c.deref.ensures.value) c.requires.formulas

pub close_contradiction-requires-clause-facts : goal.close_contradiction-requires-clause-facts
close_contradiction-requires-clause-facts c = subst (HasFormulas c.args.context.now.bank.now) (sym c.deref-2.ensures.value) c.requires.formulas

pub close_contradiction-requires-clause-pairs : goal.close_contradiction-requires-clause-pairs
close_contradiction-requires-clause-pairs c = subst (HasPairs c.args.context.now.bank.now) (sym c.deref-4.ensures.value) c.in_ok-links.ensures.has

pub close_contradiction-requires-clause-equal : goal.close_contradiction-requires-clause-equal
close_contradiction-requires-clause-equal c =
    let b = c.args.context.now.bank.now in
    subst (ArePairsEqual c.args.context.now.congruence.now) (sym c.deref-4.ensures.value)
    (pairs_equal b c.args.context.now.congruence.now c.args.classes.now c.in_ok-links.links.items c.requires.forms c.requires.classes c.in_ok-links.ensures.has c.in_ok-links.ensures.one_class)

pub returns : goal.returns
returns c = λ cs of.
    let b = c.args.context.now.bank.now in
    let ms = c.args.context.now.congruence.now.merges in
    let r = c.close_contradiction.result in
    let fs = c.args.basics.now.formulas.items in
    let at = c.args.basics.now.places.items in
    let ps = c.in_ok-links.links.items in
    let links = subst (λ (xs : List FormulaId). AreWholeLinks cs b c.args.classes.now (terms (formulas_at b xs)) ps) c.deref.ensures.value (c.in_ok-links.ensures.links cs of) in
    let of_facts = subst (λ (xs : List FormulaId). IfOk r (λ o. IfSome o (λ v. CloseFacts cs b ms c.args.context.now.count xs c.deref-3.result.now c.deref-4.result.now v.items))) c.deref-2.ensures.value (c.close_contradiction.ensures.some cs of) in
    let of_places = subst (λ (ns : List ℕ). IfOk r (λ o. IfSome o (λ v. CloseFacts cs b ms c.args.context.now.count fs ns c.deref-4.result.now v.items))) c.deref-3.ensures.value of_facts in
    let of_links = subst (λ (qs : Pairs). IfOk r (λ o. IfSome o (λ v. CloseFacts cs b ms c.args.context.now.count fs at qs v.items))) c.deref-4.ensures.value of_places in
    IfOk-weaker r (λ o. IfSome o (λ v. CloseFacts cs b ms c.args.context.now.count fs at ps v.items)) (λ o. IfSome o (λ v. CloseFormed cs b ms c.args.context.now.count fs at v.items))
    (λ o h. IfSome_then o h (λ v k. closes_formed cs b ms c.args.context.now.count fs at ps v.items links.only k)) of_links
