-- What contracts see of a store, and what each object keeps.
use Rattle.std.specs.Prelude.{ℕ, List, length, ◌<◌, ◌^◌, ◌≢◌, ◌==◌, if◌then◌else◌}
use Rattle.ss_store_rules.specs.declared.Value.{Value}
use Rattle.ss_store_rules.specs.declared.Owner.{Owner}
use Rattle.ss_store_rules.specs.declared.Owner.TheVariants as owner
use Rattle.ss_store_rules.specs.Store.{Object}

-- the objects, and for how many more there is room
pub record Contents : Type 0 where
  pub objects : List Object
  pub spare : ℕ

-- the number that stands where a group has no class
abbrev pub no_class : ℕ
no_class = 65535

-- the owner that a pair of numbers means
abbrev pub owner_of_pair : ℕ × ℕ → Owner
owner_of_pair p = if p.1 == no_class then owner.Group p.0 else owner.Owned p.0 (record { 0 = p.1 })

-- the class of an owner isn't the number of no class
abbrev pub HasClass : Owner → Type 0
HasClass (owner.Group g) = Unit {0}
HasClass (owner.Owned o t) = t.0 ≢ no_class

-- an array is no longer than a number counts
pub record IsObject (elements : List Value) (owner : Owner) : Type 0 where
  pub short : length elements < 2 ^ 31
  pub told : HasClass owner
