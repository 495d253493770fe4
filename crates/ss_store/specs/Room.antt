-- The room that a store keeps for objects to come.
use Rattle.std.specs.Prelude.{◌≡◌, ◌+◌, ◌≤◌, [], length, vec_capacity}
use Rattle.std.specs.List.{All}
use Rattle.std.specs.declared.vec.Vec.{Vec}
use Rattle.ss_core.specs.Chain.{most_fields}

-- an empty list with room for the fields of each object
pub record IsRoomy {Y Z : Type 0} (fields : Vec Y Z) : Type 0 where
  pub none : fields.items ≡ []
  pub room : most_fields ≤ vec_capacity fields

-- there is room for one more object for each spare list of fields
pub record HasRoom {X Y Z : Type 0} (objects : Vec X Z) (spare : Vec (Vec Y Z) Z) : Type 0 where
  pub for_objects : length objects.items + length spare.items ≤ vec_capacity objects
  pub for_fields : All IsRoomy spare.items
