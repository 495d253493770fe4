-- What is done with many objects at once.
use Rattle.std.specs.Prelude.{ℕ, List, ◌==◌, ◌&&◌, ◌||◌, not, if◌then◌else◌}
use Rattle.ss_store_rules.specs.Store.{Object}
use Rattle.ss_store_rules.specs.Reads.{is_in_group}
use Rattle.ss_store_rules.specs.Changes.{is_owned}
use Rattle.ss_store_lists.specs.Listing.{is_listed}
use Rattle.ss_store.specs.Shapes.{HasClass}
use Rattle.ss_store.specs.declared.effects.Effect.{Effect}
use Rattle.ss_store.specs.declared.effects.Effect.TheVariants as variant

-- what it makes of the object at q
abbrev pub effect : Effect → ℕ → Object → Object
effect (variant.Unpack o t above) q x = record x {
  level = if q == o then above.0 else x.level;
  committed = x.committed && not (is_owned o t.0 x);
}
effect (variant.Pack o t) q x = record x {
  level = if q == o then t.0 else x.level;
  committed = x.committed || is_owned o t.0 x;
}
effect (variant.Regroup g w) q x = record x { owner = if is_in_group g x.owner then w else x.owner }

-- the position of the object that holds all others that it concerns
abbrev pub reach : Effect → ℕ
reach (variant.Unpack o t above) = o
reach (variant.Pack o t) = o
reach (variant.Regroup g w) = g

-- the objects at these positions are changed so
abbrev pub among : List ℕ → (ℕ → Object → Object) → ℕ → Object → Object
among positions f q x = if is_listed positions q then f q x else x

-- an owner that it gives has a class
abbrev pub IsTold : Effect → Type 0
IsTold (variant.Unpack o t above) = Unit {0}
IsTold (variant.Pack o t) = Unit {0}
IsTold (variant.Regroup g w) = HasClass w
