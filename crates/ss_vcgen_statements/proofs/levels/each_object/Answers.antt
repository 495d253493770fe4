use Rattle.std.proofs.Common.{[], ◌∷◌, ap}
use Rattle.ss_terms.specs.Forms.{formula_at}
use Rattle.ss_vcgen_statements.proofs.Steps.{bank_ok}
use Rattle.ss_logic.specs.Formulas.{Forall}
use Rattle.ss_logic.specs.declared.Sort.TheVariants as sort
use Rattle.ss_vcgen_express.proofs.Grown.{is_formula}
use Rattle.ss_vcgen_statements.proofs.levels.each_object.Goals as goal

pub returns-clause-stays : goal.returns-clause-stays
returns-clause-stays c = bank_ok c.forall.result _ c.args.builder.now c.requires.fine c.forall.new.self c.forall.ensures.grown c.forall.ensures.at

pub returns-clause-at : goal.returns-clause-at
returns-clause-at c = is_formula c.forall.result c.args.builder.now.bank c.forall.new.self (λ b. Forall (sort.Rest ∷ []) (formula_at b c.args.f)) c.forall.ensures.grown (λ b g. ap (Forall (sort.Rest ∷ [])) (g.same_formulas c.args.f c.requires.formula)) c.forall.ensures.at
