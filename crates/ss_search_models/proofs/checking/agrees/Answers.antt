use Rattle.std.proofs.Common.{◌≡◌, true, arith, rules, sym, ◌∙◌}
use Rattle.std.proofs.lemmas.Grind.{common_steps}
use Rattle.ss_terms.specs.Forms.{formulas_at}
use Rattle.ss_search_models.proofs.Models.{agreeing}
use Rattle.ss_search_models.proofs.checking.agrees.Goals as goal

pub returns : goal.returns
returns c =
    let a : c.in_ok-come_true.field-0 ≡ true = first_of (search rules, grind (arith, common_steps)) in
    let f : c.in_ok-functions_agree.field-0 ≡ true = first_of (search rules, grind (arith, common_steps)) in
    let g : c.in_ok-atoms_agree.field-0 ≡ true = first_of (search rules, grind (arith, common_steps)) in
    let v : c.in_ok-values_differ.field-0 ≡ true = first_of (search rules, grind (arith, common_steps)) in
    λ e. agreeing c.args.bank.now c.args.candidate.now (formulas_at c.args.bank.now c.args.formulas.now) c.requires.candidate c.equalities_are_inside.result
    (sym a ∙ c.in_ok-come_true.ensures) (c.in_ok-functions_agree.ensures f) (c.in_ok-atoms_agree.ensures g) (c.in_ok-values_differ.ensures v) c.equalities_are_inside.ensures e
