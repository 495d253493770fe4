use Rattle.std.proofs.Common.{[], ◌∷◌, ◌++◌, ap, ◌∙◌}
use Rattle.ss_core.specs.View.{expr}
use Rattle.ss_logic.specs.Express as spec
use Rattle.ss_terms.specs.Forms.{Forms}
use Rattle.ss_terms.proofs.Grown.{IsGrown-then}
use Rattle.ss_vcgen_express.specs.Marked.{formulas_of}
use Rattle.ss_vcgen_express.specs.Numbers.{meant_at}
use Rattle.ss_vcgen_express.specs.Contexts.{context_at}
use Rattle.ss_vcgen_express.proofs.Grown.{formula_so}
use Rattle.ss_vcgen_walk.specs.Parts.{parts_at}
use Rattle.ss_vcgen_walk.proofs.contracts.holds.Goals as goal

pub joined-requires-clause-parts : goal.joined-requires-clause-parts
joined-requires-clause-parts c = rw c.deref.ensures.value c.in_ok-m.ensures.expressed.has

pub joined-requires-clause-meant : goal.joined-requires-clause-meant
joined-requires-clause-meant c = c.in_ok-m.ensures.expressed.meant.has

pub returns-clause-at : goal.returns-clause-at
returns-clause-at c =
    let a = c.args in
    let d = c.joined.new.bank in
    let read = c.in_ok-m.ensures.expressed in
    formula_so c.joined.result d (λ (b : Forms). spec.and_of (formulas_of (parts_at b c.deref.result.now) ++ spec.said (meant_at b c.in_ok-m.m) ∷ [])) (λ (b : Forms). spec.holds_formula (expr a.e.now) (context_at b a.context.now))
    (λ b k.
    let g = IsGrown-then c.read.new.bank d b c.joined.ensures.grown k in
    ap (λ l. spec.and_of (formulas_of (parts_at b l) ++ spec.said (meant_at b c.in_ok-m.m) ∷ [])) c.deref.ensures.value
    ∙ ap (λ l. spec.and_of (l ++ spec.said (meant_at b c.in_ok-m.m) ∷ [])) (read.defined b g)
    ∙ ap (λ l. spec.and_of ((formulas_of (parts_at b l) ++ spec.defined (expr a.e.now) (context_at b a.context.now)) ++ spec.said (meant_at b c.in_ok-m.m) ∷ [])) c.new-parts.ensures.items
    ∙ ap (λ x. spec.and_of (spec.defined (expr a.e.now) (context_at b a.context.now) ++ spec.said x ∷ [])) (read.meant.is b g))
    c.joined.ensures.at
