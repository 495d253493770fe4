use Rattle.std.proofs.Common.{[], ◌∷◌, ◌++◌, map, ap, ◌∙◌, refl}
use Rattle.ss_logic.specs.Formulas.{put}
use Rattle.ss_logic.specs.Opened.{fresh_constants, replaced}
use Rattle.ss_terms.specs.Forms.{terms_at, formula_at, formulas_at}
use Rattle.ss_terms.proofs.Grown.{IsGrown-then, HasTerms-grown, HasFormula-grown, HasFormulas-grown, terms_at-grown, formulas_at-grown}
use Rattle.ss_rules_opened.specs.Choices.{choice_of, choices_at}
use Rattle.ss_rules_opened.proofs.Going.{opening_same}
use Rattle.ss_rules_opened.proofs.Choosing.{HasChoices-grown, choices_at-grown, on_ok, ok_then}
use Rattle.ss_rules_opened.proofs.opening.open_with.Goals as goal

pub put_in_place-requires-clause-state : goal.put_in_place-requires-clause-state
put_in_place-requires-clause-state c = record {
  has_used = HasTerms-grown c.args.bank.now c.at_fresh.new.bank c.at_fresh.ensures.grown c.args.state.now.used.items c.requires.state.has_used;
  used = refl;
  has_list = HasFormulas-grown c.args.bank.now c.at_fresh.new.bank c.at_fresh.ensures.grown c.args.state.now.list.items c.requires.state.has_list;
  list = refl;
}

pub returns-clause-is : goal.returns-clause-is
returns-clause-is c =
    let a = c.args.bank.now in
    let b = c.at_fresh.new.bank in
    let g = c.at_fresh.ensures.grown in
    let used = c.args.state.now.used.items in
    let fs = c.args.state.now.list.items in
    let fresh = fresh_constants c.args.formula.now.sorts.now (terms_at a used) in
    let same = ap (λ us. fresh_constants c.args.formula.now.sorts.now (terms_at a us)) c.deref.ensures.value in
    on_ok c.note.result (opening_same c.put_in_place.new.bank c.put_in_place.new.state _ _ _ _
    (ap (λ ts. ts ++ terms_at b used) (c.in_ok-found.ensures.at.constants ∙ same) ∙ ap (λ ts. fresh ++ ts) (terms_at-grown a b g used c.requires.state.has_used))
    (ap (λ x. map (replaced x (formula_at b c.in_ok-found.found.body)) (formulas_at b fs)) (g.same_formulas c.args.formula.now.whole c.requires.formula)
    ∙ ap (λ y. map (replaced (formula_at a c.args.formula.now.whole) y) (formulas_at b fs)) (c.in_ok-found.ensures.at.body ∙ ap (λ ts. put ts (formula_at a c.args.formula.now.body)) same)
    ∙ ap (map (replaced (formula_at a c.args.formula.now.whole) (put fresh (formula_at a c.args.formula.now.body)))) (formulas_at-grown a b g fs c.requires.state.has_list))
    c.in_ok-put_in_place.ensures.is)

pub note-requires-clause-choices : goal.note-requires-clause-choices
note-requires-clause-choices c =
    HasChoices-grown c.at_fresh.new.bank c.put_in_place.new.bank c.put_in_place.ensures.grown c.args.choices.now.items
    (HasChoices-grown c.args.bank.now c.at_fresh.new.bank c.at_fresh.ensures.grown c.args.choices.now.items c.requires.choices)

pub note-requires-clause-whole : goal.note-requires-clause-whole
note-requires-clause-whole c = HasFormula-grown c.at_fresh.new.bank c.put_in_place.new.bank c.put_in_place.ensures.grown c.args.formula.now.whole (HasFormula-grown c.args.bank.now c.at_fresh.new.bank c.at_fresh.ensures.grown c.args.formula.now.whole c.requires.formula)

pub note-requires-clause-constants : goal.note-requires-clause-constants
note-requires-clause-constants c = HasTerms-grown c.at_fresh.new.bank c.put_in_place.new.bank c.put_in_place.ensures.grown c.in_ok-found.found.constants.items c.in_ok-found.ensures.at.has_constants

pub returns-clause-noted : goal.returns-clause-noted
returns-clause-noted c =
    let a = c.args.bank.now in
    let b = c.at_fresh.new.bank in
    let d = c.put_in_place.new.bank in
    let g = IsGrown-then a b d c.at_fresh.ensures.grown c.put_in_place.ensures.grown in
    let choices = c.args.choices.now.items in
    let found = c.in_ok-found.found.constants.items in
    let used = c.args.state.now.used.items in
    let fresh = fresh_constants c.args.formula.now.sorts.now (terms_at a used) in
    let old = choices_at-grown a d g choices c.requires.choices in
    let whole = g.same_formulas c.args.formula.now.whole c.requires.formula in
    let at = terms_at-grown b d c.put_in_place.ensures.grown found c.in_ok-found.ensures.at.has_constants ∙ c.in_ok-found.ensures.at.constants ∙ ap (λ us. fresh_constants c.args.formula.now.sorts.now (terms_at a us)) c.deref.ensures.value in
    ok_then c.note.result
    (λ e.
    e
    ∙ ap (λ xs. xs ++ choice_of (formula_at d c.args.formula.now.whole) (terms_at d found) ∷ []) old
    ∙ ap (λ w. choices_at a choices ++ choice_of w (terms_at d found) ∷ []) whole
    ∙ ap (λ ts. choices_at a choices ++ choice_of (formula_at a c.args.formula.now.whole) ts ∷ []) at)
    c.note.ensures.noted
