use Rattle.std.proofs.Common.{◌*◌, sym, ap, ◌∙◌, subst, length, map, refl}
use Rattle.ss_logic.specs.Formulas.{neg}
use Rattle.ss_terms.specs.Forms.{AndShape, OrShape, ForallShape, ExistsShape, HasParts, AreBelow, shape_of, other, formula_of, term_at, formula_at}
use Rattle.ss_terms.proofs.Signs.{others_below}
use Rattle.ss_terms.proofs.Banks.{negated_at, opposite_form}
use Rattle.ss_terms.proofs.bank.Bank.formula.Goals as goal

pub pair-requires-in-Or-clause-parts : goal.pair-requires-in-Or-clause-parts
pair-requires-in-Or-clause-parts c =
    subst (AreBelow (length c.args.self.now.formulas * 2)) (sym (c.in_ok-others-in-Or.ensures ∙ ap (map other) c.deref.ensures.value))
    (others_below (length c.args.self.now.formulas) c.in-Or.parts.items (subst (λ n. HasParts c.args.self.now (shape_of n)) c.in-Or.is c.requires))

pub returns-in_ok-number-in-Or-clause-at : goal.returns-in_ok-number-in-Or-clause-at
returns-in_ok-number-in-Or-clause-at c =
    let b = c.args.self.now in
    let at = negated_at c.pair-in-Or.new.self c.in_ok-number-in-Or.number (record { 0 = _ }) refl c.in_ok-number-in-Or.ensures.in_bank in (
      at.0,
      at.1
          ∙ ap neg (c.in_ok-number-in-Or.ensures.at ∙ ap (λ fs. formula_of (term_at b) (formula_at b) (AndShape fs)) (c.in_ok-others-in-Or.ensures ∙ ap (map other) c.deref.ensures.value))
          ∙ opposite_form b (OrShape c.in-Or.parts.items)
          ∙ ap (λ n. formula_of (term_at b) (formula_at b) (shape_of n)) (sym c.in-Or.is),
    )

pub returns-in_ok-number-in-Exists-clause-at : goal.returns-in_ok-number-in-Exists-clause-at
returns-in_ok-number-in-Exists-clause-at c =
    let b = c.args.self.now in
    let at = negated_at c.pair-in-Exists.new.self c.in_ok-number-in-Exists.number (record { 0 = _ }) refl c.in_ok-number-in-Exists.ensures.in_bank in (
      at.0,
      at.1
          ∙ ap neg (c.in_ok-number-in-Exists.ensures.at
          ∙ ap (λ f. formula_of (term_at b) (formula_at b) (ForallShape c.in-Exists.sorts.items f)) c.opposite.ensures)
          ∙ opposite_form b (ExistsShape c.in-Exists.sorts.items c.in-Exists.body)
          ∙ ap (λ n. formula_of (term_at b) (formula_at b) (shape_of n)) (sym c.in-Exists.is),
    )
