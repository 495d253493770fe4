use Rattle.std.proofs.Common.{Some, sym, ap, subst, ◌∙◌}
use Rattle.std.proofs.lemmas.Option.{slice_get-get_or}
use Rattle.std.specs.Prelude.{slice_get}
use Rattle.ss_logic.specs.Asked.{said}
use Rattle.ss_terms.specs.Forms.{IsFormulaNumber}
use Rattle.ss_rules.proofs.Again.{same_asked}
use Rattle.ss_rules.proofs.made.Made.at.Goals as goal

pub returns-in_ok-found : goal.returns-in_ok-found
returns-in_ok-found c = λ cs b h.
    let place = c.args.place in
    let one = c.in_ok-one.one.now in
    let found = c.in_ok-found.found.now in
    let p = c.in_ok-one.ensures.lookup in
    let q = c.in_ok-found.ensures.lookup in
    subst (λ x. IsFormulaNumber b (said cs x) found) (same_asked b one c.args.asked.now (sym c.eq.ensures ∙ c.if-eq.true))
    (h.are place one found
    (ap (λ xs. slice_get xs place) (sym c.deref.ensures.value) ∙ slice_get-get_or c.deref.result.now place one p.3.0 ∙ ap Some (sym p.1))
    (ap (λ xs. slice_get xs place) (sym c.deref-then-eq.ensures.value) ∙ slice_get-get_or c.deref-then-eq.result.now place found q.3.0 ∙ ap Some (sym q.1)))
