-- What the lists of a store name.
use Rattle.std.specs.Prelude.{◌≡◌, ◌≢◌, ◌⊎◌, ℕ, List, Bool, true, Option, Some, None, slice_get}
use Rattle.std.specs.declared.vec.Vec.{Vec}
use Rattle.ss_store_rules.specs.declared.Owner.{Owner}
use Rattle.ss_store_rules.specs.declared.Owner.TheVariants as owner
use Rattle.ss_store_rules.specs.Store.{Object}
use Rattle.ss_store_lists.specs.Listing.{is_listed, is_held}
use Rattle.ss_store.specs.Room.{HasRoom}

-- the position of the object that holds what has this owner
abbrev pub holder : Owner → ℕ
holder (owner.Group g) = g
holder (owner.Owned o t) = o

-- each object is listed by what holds it
abbrev pub AreListed : List Object → Option (List (List ℕ)) → Type 0
AreListed s l = (q : ℕ) (x : Object) → slice_get s q ≡ Some x → is_held l (holder x.owner) q ≡ true

-- what holds of the fields of a store
pub record IsStore {Y Z : Type 0} (objects : Vec Object Z) (spare : Vec (Vec Y Z) Z) (lists : Option (List (List ℕ))) : Type 0 where
  pub room : HasRoom objects spare
  pub listed : AreListed objects.items lists

-- whether it holds of the object at the position, where there is one
abbrev pub holds_of : (Object → Bool) → Option Object → Bool
holds_of p None = true
holds_of p (Some x) = p x

abbrev pub holds_at : (Object → Bool) → List Object → ℕ → Bool
holds_at p s q = holds_of p (slice_get s q)

-- each object is listed, but for those at these positions what holds it may not be
abbrev pub AreFiledBut : List Object → Option (List (List ℕ)) → List ℕ → Type 0
AreFiledBut s l positions = (q : ℕ) (x : Object) → slice_get s q ≡ Some x → (is_held l (holder x.owner) q ≡ true) ⊎ (is_listed positions q ≡ true)

-- each object is listed, but those that the object at g held may have another owner
abbrev pub IsMoved : List Object → Option (List (List ℕ)) → ℕ → Type 0
IsMoved s l g = (q : ℕ) (x : Object) → slice_get s q ≡ Some x → (is_held l (holder x.owner) q ≡ true) ⊎ (is_held l g q ≡ true)

-- what the object at k holds is itself, or is at one of these positions
abbrev pub HoldsNoOther : List Object → ℕ → List ℕ → Type 0
HoldsNoOther s k positions = (q : ℕ) (x : Object) → slice_get s q ≡ Some x → holder x.owner ≡ k → q ≢ k → is_listed positions q ≡ true
