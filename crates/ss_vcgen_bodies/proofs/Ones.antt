-- Terms that were made before a step, by what they mean.
use Rattle.std.proofs.Common.{List, ap}
use Rattle.ss_logic.specs.Express.{Meant}
use Rattle.ss_terms.specs.declared.forms.TermId.{TermId}
use Rattle.ss_terms.specs.Forms.{Forms, IsGrown}
use Rattle.ss_terms.proofs.Grown.{IsGrown-then, HasTerms-grown}
use Rattle.ss_vcgen_heaps.specs.Positions.{Position}
use Rattle.ss_vcgen_builder.specs.declared.builder.Builder.{Builder}
use Rattle.ss_vcgen_builder.specs.Builder.{position_at, Becomes}
use Rattle.ss_vcgen_contracts.specs.Views.{ones_at, AreOnes}
use Rattle.ss_vcgen_statements.proofs.Steps.{then, so}

pub ones_later : (a c : Forms) → IsGrown a c → (xs : List TermId) (say : Forms → List Meant) → AreOnes a xs say → AreOnes c xs say
ones_later a c g xs say h = record { has = HasTerms-grown a c g xs h.has; are = λ b k. h.are b (IsGrown-then a c b g k) }

pub then_ones : (s t u : Builder) (f : Forms → Position) → Becomes s t f → (xs : List TermId) (say : Forms → List Meant) (g : Forms → List Meant → Position → Position) → AreOnes t.bank xs say →
    Becomes t u (λ b. g b (ones_at b xs) (position_at b t)) → Becomes s u (λ b. g b (say b) (f b))
then_ones s t u f p xs say g are q =
    so s u (λ b. g b (ones_at b xs) (f b)) (λ b. g b (say b) (f b)) (λ b k. ap (λ y. g b y (f b)) (are.are b (IsGrown-then t.bank u.bank b q.grown k)))
    (then s t u f (λ b. g b (ones_at b xs)) p q)
