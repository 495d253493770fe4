-- What one arm of a choice does.
use Rattle.std.proofs.Common.{◌≡◌, true, false, refl, Result}
use Rattle.std.specs.Prelude.{OnOk}
use Rattle.ss_terms.specs.Forms.{Forms}
use Rattle.ss_vcgen_heaps.specs.Positions.{Position, Guard, Always, When, Never}
use Rattle.ss_vcgen_builder.specs.declared.builder.Builder.{Builder}
use Rattle.ss_vcgen_builder.specs.Builder.{Becomes}
use Rattle.ss_vcgen_builder.proofs.Builds.{on_ok}
use Rattle.ss_vcgen_statements.proofs.Going.{IsReached}
use Rattle.ss_vcgen_statements.proofs.Steps.{so}
use Rattle.ss_vcgen_bodies.specs.Words.{is_never}

-- it is another word for the same
pub arm : {A E : Type 0} (r : Result A E) (s t : Builder) (f g : Forms → Position) → ((b : Forms) → f b ≡ g b) → OnOk r (Becomes s t f) → OnOk r (Becomes s t g)
arm r s t f g e h = on_ok r (so s t f g (λ b k. e b)) h

-- a guard that isn't `Never`
pub is_reached : (g : Guard) → is_never g ≡ false → IsReached g
is_reached Always e = tt
is_reached (When n) e = tt
is_reached Never e = cc

pub never : (g : Guard) → is_never g ≡ true → g ≡ Never
never Always e = cc
never (When n) e = cc
never Never e = refl
