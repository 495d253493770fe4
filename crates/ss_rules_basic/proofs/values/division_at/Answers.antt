use Rattle.std.proofs.Common.{◌≡◌, ◌∙◌, ◌-◌, pos, ap, subst}
use mir.Val.{SFits}
use Rattle.std.proofs.Common.{rules}
use Rattle.std.specs.Int.{w128}
use Rattle.std.specs.Prelude.{IfOk, unsigned_abs, neg_ℤ}
use Rattle.std.proofs.lemmas.Int.{to_z-of_z}
use Rattle.ss_terms.specs.Forms.{term_at, formula_at, HasFormula}
use Rattle.ss_rules_basic.proofs.Shapes.{division_bounds}
use Rattle.ss_rules_basic.proofs.values.division_at.Goals as goal

pub returns-clause-at : goal.returns-clause-at
returns-clause-at c =
    let d = to_z-of_z w128 c.args.d c.ranges.d in
    let most = c.most_remainder-most.ensures ∙ ap (λ n. pos (unsigned_abs n - 1)) d in
    let least = c.least_remainder-least.ensures ∙ ap (λ n. neg_ℤ (pos (unsigned_abs n - 1))) d in
    let fits_d = c.ranges.d in
    let fits_most : SFits w128 c.most_remainder-most.result = search rules in
    let fits_least : SFits w128 c.least_remainder-least.result = search rules in
    let h = c.fill.ensures.at in
    subst (λ g. IfOk c.fill.result (λ f. HasFormula c.fill.new.b f × (formula_at c.fill.new.b f ≡ g)))
    (division_bounds (term_at c.args.b.now c.args.x) c.args.d c.most_remainder-most.result c.least_remainder-least.result most least)
    (simp to_z-of_z at h)
