-- What a contract sees of the classes.
use Rattle.std.specs.Prelude.{◌≡◌, ℕ, ◌<◌, ◌∷◌, ◌++◌, ◌⊎◌, List, [], length, map, Option, Some, None, Vec, slice_get, slice_index_or}
use Rattle.std.specs.declared.alloc.Global.{Global}
use Rattle.ss_terms.specs.declared.forms.TermId.{TermId}
use Rattle.ss_terms.specs.declared.forms.Symbol.{Symbol}
use Rattle.ss_terms.specs.Forms.{TermShape, AppShape}
use Rattle.ss_equality_rules.specs.declared.Join.{Join}
use Rattle.ss_equality_rules.specs.Names.{Has, name, IsJoin}

pub record Classed : Type 0 where
  pub forms : List TermShape
  pub users : List (List ℕ)
  pub log : List Join

abbrev pub lists_of : List (Vec ℕ Global) → List (List ℕ)
lists_of vs = map (λ v. v.items) vs

-- the list has each term with an argument in the class of this name
pub record HasUsersOf (fs : List TermShape) (es : List Join) (a : ℕ) (us : List ℕ) : Type 0 where
  pub listed : (w : ℕ) (f : Symbol) (xs : List TermId) (i : ℕ) (x : TermId) → slice_get fs w ≡ Some (AppShape f xs) → slice_get xs i ≡ Some x → name es x.0 ≡ a → Has us w

-- one more join
pub record HasJoin (old new : Classed) (from to left right : ℕ) (why : Option ℕ) : Type 0 where
  pub join : Join
  pub log : new.log ≡ old.log ++ join ∷ []
  pub is : IsJoin (length old.forms) old.log join
  pub from_is : join.from ≡ from
  pub to_is : join.to ≡ to
  pub left_is : join.left ≡ left
  pub right_is : join.right ≡ right
  pub why_is : join.why ≡ why
  pub users : HasUsersOf old.forms old.log from (slice_index_or new.users from [])

-- the classes of two terms were one, or they were joined
abbrev pub IsJoined : Classed → Classed → ℕ → ℕ → Option ℕ → Option ℕ → Type 0
IsJoined old new left right why None = (new ≡ old) × (left < length old.forms → right < length old.forms → name old.log left ≡ name old.log right)
IsJoined old new left right why (Some a) = (new.forms ≡ old.forms) × ((b : ℕ) × (HasJoin old new a b left right why ⊎ HasJoin old new a b right left why))
