use Rattle.std.proofs.Common.{◌≡◌, ◌∙◌, ap, subst, map, [], ◌∷◌}
use Rattle.std.specs.Prelude.{IfOk}
use Rattle.ss_logic.specs.Shapes.{all_of, owner_of, null_term, class_term, pair_of}
use Rattle.ss_terms.specs.Forms.{term_at, formula_at, HasFormula}
use Rattle.ss_rules_basic.specs.Plans.{slot_value, clause_at}
use Rattle.ss_rules_reads.proofs.Captures.{captures_said}
use Rattle.ss_rules_reads.proofs.owners.captured_owner.Goals as goal

pub returns-clause-at : goal.returns-clause-at
returns-clause-at c =
    let b = c.args.b.now in
    let s = c.args.stores.before in
    let after = c.args.stores.after in
    let o = c.args.objects.0 in
    let e = c.args.objects.1 in
    let p = c.args.p in
    let t = c.args.t in
    subst (λ fs. IfOk c.fill.result (λ r. HasFormula c.fill.new.b r × (formula_at c.fill.new.b r ≡ all_of fs)))
    (ap (map (clause_at (slot_value (term_at b) (owner_of (term_at b after) (term_at b p) ∷ owner_of (term_at b s) (term_at b p) ∷ owner_of (term_at b s) (term_at b e) ∷ class_term t ∷ null_term ∷ pair_of (term_at b o) (class_term t) ∷ []))))
    (c.deref.ensures.value ∙ c.in_ok-clauses.ensures)
    ∙ captures_said b after s o e p t c.is_none-none_captured.result c.is_same_owner-is_captured.result c.is_none-none_captured.ensures c.is_same_owner-is_captured.ensures)
    c.fill.ensures.at
