use Rattle.std.proofs.Common.{[], ◌∷◌, ◌++◌, ap, ◌∙◌}
use Rattle.ss_logic.specs.Express as spec
use Rattle.ss_terms.specs.Forms.{Forms, formula_at, formulas_at}
use Rattle.ss_terms.proofs.Grown.{HasFormulas-grown}
use Rattle.ss_vcgen_express.specs.Marked.{formulas_of}
use Rattle.ss_vcgen_express.specs.Numbers.{meant_at}
use Rattle.ss_vcgen_express.proofs.Grown.{formula_so}
use Rattle.ss_vcgen_walk.specs.Parts.{parts_at}
use Rattle.ss_vcgen_walk.proofs.Holding.{formulas_in, HasFormulas-parts, with_last}
use Rattle.ss_vcgen_walk.proofs.contracts.joined.Goals as goal

pub all_with-requires-clause-parts : goal.all_with-requires-clause-parts
all_with-requires-clause-parts c = rw (c.deref.ensures.value, c.in_ok-list.ensures) (HasFormulas-grown c.args.bank.now c.said.new.bank c.said.ensures.grown (formulas_in c.args.parts.now) (HasFormulas-parts c.args.bank.now c.args.parts.now c.requires.parts))

pub returns-clause-at : goal.returns-clause-at
returns-clause-at c =
    let a = c.args in
    let d = c.all_with.new.bank in
    formula_so c.all_with.result d (λ (b : Forms). spec.and_of (formulas_at b c.deref.result.now ++ formula_at b c.in_ok-f.f ∷ [])) (λ (b : Forms). spec.and_of (formulas_of (parts_at b a.parts.now) ++ spec.said (meant_at b a.m.now) ∷ []))
    (λ b k. ap (λ l. spec.and_of l) (with_last c.said.new.bank d a.parts.now c.deref.result.now c.in_ok-f.f (λ (b : Forms). spec.said (meant_at b a.m.now)) c.all_with.ensures.grown (c.deref.ensures.value ∙ c.in_ok-list.ensures) c.in_ok-f.ensures.at b k))
    c.all_with.ensures.at
