-- Paths to nodes, as the places of their edges, the last one first.
use Rattle.std.specs.Prelude.{◌≡◌, ◌⊎◌, ℕ, zero, suc, ◌+◌, ◌<◌, ◌≤◌, ℤ, pos, ◌≤ℤ◌, List, [], ◌∷◌, length, map, Vec, slice_index_or, ◌==◌}
use Rattle.std.specs.List.{IsDistinct}
use Rattle.std.specs.declared.alloc.Global.{Global}
use Rattle.ss_linear_paths.specs.declared.edges.Edge.{Edge}
use Rattle.ss_linear_paths.specs.Edges.{label, edge_at, IsMet, weight_of}

abbrev pub lists : List (Vec ℕ Global) → List (List ℕ)
lists vs = map (λ v. v.items) vs

abbrev pub path_at : List (List ℕ) → ℕ → List ℕ
path_at ps v = slice_index_or ps v []

-- the node to which that many edges of the path lead back from v
abbrev pub back : List Edge → ℕ → List ℕ → ℕ → ℕ
back es v ks zero = v
back es v [] (suc n) = v
back es v (k ∷ ks) (suc n) = back es (edge_at es k).from ks n

-- the nodes of a path to v
abbrev pub passed : List Edge → ℕ → List ℕ → List ℕ
passed es v [] = v ∷ []
passed es v (k ∷ ks) = v ∷ passed es (edge_at es k).from ks

-- These edges are a path to v. Neither its weights nor those of a path that it goes on from are together below the number of the node.
abbrev pub IsPath : List Edge → List ℤ → ℕ → List ℕ → Type 0
IsPath es ls v [] = label ls v ≤ℤ pos 0
IsPath es ls v (k ∷ ks) = (k < length es) × ((edge_at es k).to ≡ v) × (label ls v ≤ℤ weight_of es (k ∷ ks)) × IsPath es ls (edge_at es k).from ks

-- the number of the node is that of its path, which passes no node twice
pub record IsReached (es : List Edge) (ls : List ℤ) (v : ℕ) (ks : List ℕ) : Type 0 where
  pub exact : label ls v ≡ weight_of es ks
  pub path : IsPath es ls v ks
  pub apart : IsDistinct (◌==◌) (passed es v ks)

-- so it is for each node below n
pub record AreReached (n : ℕ) (es : List Edge) (ls : List ℤ) (ps : List (List ℕ)) : Type 0 where
  pub labels : length ls ≡ n
  pub paths : length ps ≡ n
  pub each : (v : ℕ) → v < n → IsReached es ls v (path_at ps v)

-- the edge is met, or the path to its first node has so many edges
abbrev pub IsSettled : List ℤ → List (List ℕ) → ℕ → Edge → Type 0
IsSettled ls ps r e = IsMet ls e ⊎ (r ≤ length (path_at ps e.from))

-- each edge is settled at r, and those before i at one more
abbrev pub IsRound : List Edge → List ℤ → List (List ℕ) → ℕ → ℕ → Type 0
IsRound es ls ps r i = (j : ℕ) → j < length es → IsSettled ls ps r (edge_at es j) × (j < i → IsSettled ls ps (r + 1) (edge_at es j))

-- what is so after edges from i on are looked at, up to j
pub record IsLooked (n : ℕ) (es : List Edge) (ls : List ℤ) (ps : List (List ℕ)) (i : ℕ) (new_ls : List ℤ) (new_ps : List (List ℕ)) (j : ℕ) : Type 0 where
  pub reached : AreReached n es new_ls new_ps
  pub round : (r : ℕ) → IsRound es ls ps r i → IsRound es new_ls new_ps r j
