-- What bodies of the core program are, and in which order they stand.
use Rattle.std.specs.Prelude.{ℕ, List, map}
use Rattle.std.specs.List.Sorted.{IsNonDecreasingBy}
use Rattle.std.specs.Global.{Vec}
use Rattle.ss_expand_rules.specs.Program as program
use Rattle.ss_expand_bodies.specs.declared.origins.Origin.{Origin}
use Rattle.ss_expand_bodies.specs.declared.origins.Origin.TheVariants as origin

abbrev pub origin_of : Origin → program.Origin
origin_of (origin.Constructor t) = program.Constructor t.0
origin_of (origin.Method t m) = program.Method t.0 m

abbrev pub origins_of : Vec Origin → List program.Origin
origins_of os = map origin_of os.items

-- the class that the body belongs to
abbrev pub class_in : program.Origin → ℕ
class_in (program.Constructor t) = t
class_in (program.Method t m) = t

-- class by class, in the order of their numbers
abbrev pub IsByClass : List program.Origin → Type 0
IsByClass os = IsNonDecreasingBy class_in os
