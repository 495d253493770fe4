-- What numbers stand for, where each form names only forms with smaller numbers.
use Rattle.std.specs.Prelude.{◌≡◌, ℕ, ◌<◌, List, [], ◌∷◌, ◌++◌, length, Some, slice_get, slice_index_or}

abbrev pub trees_from : {N T : Type 0} → T → ((ℕ → T) → N → T) → List T → List N → List T
trees_from junk build ts [] = ts
trees_from junk build ts (n ∷ ns) = trees_from junk build (ts ++ build (λ t. slice_index_or ts t junk) n ∷ []) ns

-- the tree of a number, where these are the forms of the numbers from 0 on
unfoldable pub tree_at : {N T : Type 0} → T → ((ℕ → T) → N → T) → List N → ℕ → T
tree_at junk build ns t = slice_index_or (trees_from junk build [] ns) t junk

pub record AreInterned {N T : Type 0} (junk : T) (build : (ℕ → T) → N → T) (Below : ℕ → N → Type 0) (Fine : T → Type 0) (ns : List N) : Type 0 where
  pub below : (t : ℕ) (n : N) → slice_get ns t ≡ Some n → Below t n
  pub fine : (t : ℕ) → t < length ns → Fine (tree_at junk build ns t)
  -- two numbers stand for two trees
  pub apart : (i j : ℕ) → i < length ns → j < length ns → tree_at junk build ns i ≡ tree_at junk build ns j → i ≡ j
