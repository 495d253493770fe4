-- The set that a value of the code's type stands for.
use Rattle.std.specs.Prelude.{ℕ, Bool, false, List, [], ◌∷◌, slice_index_or, nat_lt, ◌&&◌, if◌then◌else◌}
use Rattle.ss_bit_set.specs.declared.bit_set.BitSet.{BitSet}
use Rattle.ss_paths.specs.Sets.{Set, put}

-- the places at which `true` stands
unfoldable pub listed : List Bool → Set
listed bs i = slice_index_or bs i false

abbrev pub marked : BitSet → Set
marked m = listed m.list.items

-- below n the numbers of both sets, and from there on those of the first
unfoldable pub met_below : ℕ → Set → Set → Set
met_below n f g x = if nat_lt x n then f x && g x else f x

-- each of the numbers is put into the set, or taken out
abbrev pub with_all : List ℕ → Bool → Set → Set
with_all [] is_in f = f
with_all (x ∷ xs) is_in f = with_all xs is_in (put x is_in f)
