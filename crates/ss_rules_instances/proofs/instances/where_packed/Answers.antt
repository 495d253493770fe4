use Rattle.std.proofs.Common.{[], ◌∷◌, ◌∙◌, ap}
use Rattle.ss_logic.specs.Formulas.{neg}
use Rattle.ss_logic.specs.Shapes.{class_term, level_of, sub_atom, allocated, given}
use Rattle.ss_logic.specs.Express.{or_of}
use Rattle.ss_terms.specs.Forms.{term_at, formula_at, formulas_at}
use Rattle.ss_terms.proofs.Grown.{IsGrown-then}
use Rattle.ss_vcgen_express.proofs.Grown.{formula_so}
use Rattle.ss_rules_instances.proofs.instances.where_packed.Goals as goal

pub returns-clause-at : goal.returns-clause-at
returns-clause-at c =
    let absent = c.in_ok-absent.absent in
    let unpacked = c.in_ok-unpacked.unpacked in
    formula_so c.any.result c.any.new.bank (λ b. or_of (formulas_at b (absent ∷ unpacked ∷ c.args.f ∷ [])))
    (λ b. given (allocated (term_at b c.args.store) (term_at b c.args.object) ∷ sub_atom (level_of (term_at b c.args.store) (term_at b c.args.object)) (class_term c.args.class) ∷ []) (formula_at b c.args.f))
    (λ b g.
    let later = IsGrown-then c.denied-2.new.bank c.any.new.bank b c.any.ensures.grown g in
    let whole = IsGrown-then c.denied.new.bank c.denied-2.new.bank b c.denied-2.ensures.grown later in
    ap (λ x. or_of (x ∷ formula_at b unpacked ∷ formula_at b c.args.f ∷ [])) (c.in_ok-absent.ensures.at.is b whole)
    ∙ ap (λ x. or_of (neg (allocated (term_at b c.args.store) (term_at b c.args.object)) ∷ x ∷ formula_at b c.args.f ∷ [])) (c.in_ok-unpacked.ensures.at.is b later))
    c.any.ensures.at
