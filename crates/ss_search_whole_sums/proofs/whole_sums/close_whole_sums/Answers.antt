use Rattle.std.proofs.Common.{◌≡◌, ◌∙◌, ℕ, List, sym, ap, subst}
use Rattle.std.specs.Prelude.{IfOk, IfSome, IfNone}
use Rattle.std.proofs.lemmas.Option.{IfSome_then}
use Rattle.std.proofs.lemmas.Result.{IfOk-weaker}
use Rattle.ss_logic.specs.Formulas.{Formula}
use Rattle.ss_terms.specs.declared.forms.FormulaId.{FormulaId}
use Rattle.ss_terms.specs.Forms.{formulas_at, HasFormulas}
use Rattle.ss_search_clashes.specs.Numbered.{class_of}
use Rattle.ss_search_procedure_rules.specs.Closed as closed
use Rattle.ss_search_reached.specs.Following.{HasNoSum}
use Rattle.ss_search_whole_sums.specs.WholeSums.{basic_ones, basic_places, CloseSums, CloseFormed}
use Rattle.ss_search_whole_sums.proofs.Basics.{ones_are, ones_there}
use Rattle.ss_search_whole_sums.proofs.Wholes.{closes_shown}
use Rattle.ss_search_whole_sums.proofs.whole_sums.close_whole_sums.Goals as goal

pub close_basics-requires-clause-formulas : goal.close_basics-requires-clause-formulas
close_basics-requires-clause-formulas c = subst (HasFormulas c.args.context.now.bank.now) (sym c.in_ok-basics.ensures.formulas) (ones_there c.args.context.now.bank.now c.args.known.now c.requires.known)

pub returns-clause-none : goal.returns-clause-none
returns-clause-none c = λ cs of.
    let b = c.args.context.now.bank.now in
    let r = c.close_basics.result in
    let are : formulas_at b c.in_ok-basics.basics.formulas.items ≡ closed.basics (formulas_at b c.args.known.now) = ap (formulas_at b) c.in_ok-basics.ensures.formulas ∙ ones_are b c.args.known.now in
    subst (λ (fs : List Formula). IfOk r (λ o. IfNone o (HasNoSum cs (class_of b c.args.classes.now) fs))) are (c.close_basics.ensures.none cs of)

pub returns-clause-some : goal.returns-clause-some
returns-clause-some c = λ cs of.
    let b = c.args.context.now.bank.now in
    let ms = c.args.context.now.congruence.now.merges in
    let r = c.close_basics.result in
    let known = c.args.known.now in
    let ones = basic_ones b known in
    let at = basic_places b known c.args.places.now in
    let of_ones = subst (λ (xs : List FormulaId). IfOk r (λ o. IfSome o (λ v. CloseFormed cs b ms c.args.context.now.count xs c.in_ok-basics.basics.places.items v.items))) c.in_ok-basics.ensures.formulas (c.close_basics.ensures.some cs of) in
    let of_places = subst (λ (ns : List ℕ). IfOk r (λ o. IfSome o (λ v. CloseFormed cs b ms c.args.context.now.count ones ns v.items))) c.in_ok-basics.ensures.places of_ones in
    IfOk-weaker r (λ o. IfSome o (λ v. CloseFormed cs b ms c.args.context.now.count ones at v.items)) (λ o. IfSome o (λ v. CloseSums cs b ms c.args.context.now.count known c.args.places.now v.items))
    (λ o h. IfSome_then o h (λ v k. closes_shown cs b ms c.args.context.now.count known c.args.places.now v.items c.requires.long k)) of_places
