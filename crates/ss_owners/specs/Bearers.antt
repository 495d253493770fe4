-- What attributes stand on.
use Rattle.std.specs.Prelude.{List, [], ◌∷◌, Bool, true, false, if◌then◌else◌}
use Rattle.ss_core.specs.declared.names.Place.{Place}
use Rattle.ss_owners_rules.specs.Attributes.{Names, on_field, on_param, on_body, on_invariant}
use Rattle.ss_owners.specs.declared.attributes.Bearer.{Bearer}
use Rattle.ss_owners.specs.declared.attributes.Bearer.TheVariants as bearer

abbrev pub names_of : Bearer → Names
names_of (bearer.Field t) = on_field t
names_of (bearer.Param t) = on_param t
names_of bearer.Constructor = on_body true
names_of bearer.Method = on_body false
names_of bearer.Invariant = on_invariant

abbrev pub places_if : Bool → Place → List Place
places_if b p = if b then p ∷ [] else []
