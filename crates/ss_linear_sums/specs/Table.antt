-- Sums of terms that were made before.
use Rattle.std.specs.Prelude.{◌≡◌, List, [], ◌∷◌, Some}
use Rattle.ss_logic.specs.Sums.{linear}
use Rattle.ss_terms.specs.Forms.{Forms, term_at}
use Rattle.ss_linear_sums.specs.declared.table.KeptSum.{KeptSum}
use Rattle.ss_linear_sums.specs.Linear.{sum_at, HasParts}

-- the sum is the one that the term is
abbrev pub IsKept : Forms → KeptSum → Type 0
IsKept b k = HasParts b k.sum.parts.items × (linear (term_at b k.term) ≡ Some (sum_at b k.sum))

abbrev pub AreKept : Forms → List KeptSum → Type 0
AreKept b [] = Unit {0}
AreKept b (k ∷ ks) = IsKept b k × AreKept b ks
