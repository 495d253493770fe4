-- One may know at least as much as another at a place of a body.
use Rattle.std.specs.Prelude.{◌≡◌, ℕ, Bool, true, Option, Some, None}
use Rattle.ss_store_rules.specs.NonNull.{Facts, Known}

-- each of these locals is one of those
abbrev pub Within : Facts → Facts → Type 0
Within f g = (x : ℕ) → f x ≡ true → g x ≡ true

-- the same on one side of a truth value, which both reach or neither
abbrev pub SideWithin : Option Facts → Option Facts → Type 0
SideWithin None None = Unit
SideWithin None (Some g) = ⊥
SideWithin (Some f) None = ⊥
SideWithin (Some f) (Some g) = Within f g

-- the second knows at least as much as the first
pub record AtLeast (k l : Known) : Type 0 where
  pub facts : Within k.facts l.facts
  pub sides : (x : ℕ) (v : Bool) → SideWithin (k.sides x v) (l.sides x v)
  pub fields : Within k.fields l.fields

-- where both are reached, or neither
abbrev pub AtLeastWhere : Option Known → Option Known → Type 0
AtLeastWhere None None = Unit
AtLeastWhere None (Some l) = ⊥
AtLeastWhere (Some k) None = ⊥
AtLeastWhere (Some k) (Some l) = AtLeast k l
