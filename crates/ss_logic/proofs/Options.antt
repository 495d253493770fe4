-- What an optional value came from.
use Rattle.std.proofs.Common.{◌≡◌, Bool, true, false, Option, Some, None, refl}
use Rattle.std.specs.Prelude.{if◌then◌else◌, option_map, option_and_then}
use Rattle.ss_logic.specs.Shapes.{when}

pub mapped_some : {A B : Type 0} (g : A → B) (o : Option A) (y : B) → option_map g o ≡ Some y → (x : A) × (o ≡ Some x) × (g x ≡ y)
mapped_some g None y h = let no : ⊥ = cc in absurd no
mapped_some g (Some x) y h = (x, refl, cc)

pub if_some : {A : Type 0} (b : Bool) (o : Option A) (y : A) → (if b then o else None) ≡ Some y → (b ≡ true) × (o ≡ Some y)
if_some true o y h = (refl, h)
if_some false o y h = let no : ⊥ = cc in absurd no

pub when_some : {A : Type 0} (b : Bool) (a y : A) → when b a ≡ Some y → (b ≡ true) × (a ≡ y)
when_some true a y h = (refl, cc)
when_some false a y h = let no : ⊥ = cc in absurd no

pub and_then_some : {A B : Type 0} (g : A → Option B) (o : Option A) (y : B) → option_and_then g o ≡ Some y → (x : A) × (o ≡ Some x) × (g x ≡ Some y)
and_then_some g None y h = let no : ⊥ = cc in absurd no
and_then_some g (Some x) y h = (x, refl, h)
