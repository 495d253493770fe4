-- Choices by a test.
use Rattle.std.proofs.Common.{◌≡◌, Bool, true, false, ◌⊎◌, inl, inr, Option, Some, None, refl, ap}
use Rattle.std.specs.Prelude.{if◌then◌else◌, IsSome}
use Rattle.ss_lexer.specs.declared.pieces.Form.{Form}
use Rattle.ss_lexer.specs.Pieces.{when}

pub if_cases : {A : Type 0} (b : Bool) (x y z : A) → (if b then x else y) ≡ z → ((b ≡ true) × (x ≡ z)) ⊎ ((b ≡ false) × (y ≡ z))
if_cases true x y z e = inl (refl, e)
if_cases false x y z e = inr (refl, e)

pub by_if : {A : Type 0} (P : A → Type 0) (b : Bool) (x y : A) → (b ≡ true → P x) → (b ≡ false → P y) → P (if b then x else y)
by_if P true x y f g = f refl
by_if P false x y f g = g refl

pub when_holds : (b : Bool) (f g : Form) → when b f ≡ Some g → b ≡ true
when_holds true f g e = refl
when_holds false f g e = absurd cc

pub when_some : (b : Bool) (f : Form) → IsSome (when b f) → b ≡ true
when_some true f e = refl
when_some false f e = absurd cc

pub when_true : (b : Bool) (f : Form) → b ≡ true → when b f ≡ Some f
when_true b f e = ap (λ b. when b f) e

pub when_differs : (b : Bool) (f g : Form) → when b f ≡ Some g → f ≡ g
when_differs true f g e = cc
when_differs false f g e = absurd cc

pub option_cases : {A : Type 0} (o : Option A) → (o ≡ None) ⊎ ((x : A) × (o ≡ Some x))
option_cases None = inl refl
option_cases (Some x) = inr (x, refl)
