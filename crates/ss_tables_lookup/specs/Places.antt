-- Where each name stands first in a list of names.
use Rattle.std.specs.Prelude.{ℕ, suc, List, [], ◌∷◌}
use Rattle.ss_tables.specs.Named.{Named, with_named}

abbrev pub Places : Type 0
Places = Named ℕ

-- the names of a list, of which the first stands at place i
abbrev pub places_from : Places → ℕ → List (List ℕ) → Places
places_from es i [] = es
places_from es i (n ∷ ns) = places_from (with_named es n i) (suc i) ns

abbrev pub places_of : List (List ℕ) → Places
places_of ns = places_from [] 0 ns
