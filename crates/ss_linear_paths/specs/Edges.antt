-- Numbers of nodes that meet edges, and edges that lead back with a negative sum.
use Rattle.std.specs.Prelude.{◌≡◌, ℕ, ◌<◌, ◌^◌, ℤ, pos, ◌+ℤ◌, ◌-ℤ◌, ◌<ℤ◌, ◌≤ℤ◌, unsigned_abs, List, [], ◌∷◌, length, slice_index_or}
use Rattle.std.specs.List.{All}
use Rattle.ss_linear_paths.specs.declared.edges.Edge.{Edge}
use Rattle.ss_linear_paths.specs.declared.edges.Found.{Found}
use Rattle.ss_linear_paths.specs.declared.edges.Found.TheVariants.{Labels, Cycle}

-- the number of a node
abbrev pub label : List ℤ → ℕ → ℤ
label ls v = slice_index_or ls v (pos 0)

abbrev pub no_edge : Edge
no_edge = record { from = 0; to = 0; weight = pos 0 }

abbrev pub edge_at : List Edge → ℕ → Edge
edge_at es k = slice_index_or es k no_edge

-- each edge is one between nodes below n
abbrev pub HasNodes : ℕ → List Edge → Type 0
HasNodes n es = All (λ e. (e.from < n) × (e.to < n)) es

-- each weight is below 2 ^ 64 in size
abbrev pub AreSmall : List Edge → Type 0
AreSmall es = All (λ e. unsigned_abs e.weight < 2 ^ 64) es

-- it has 128 bits, one of them for its sign
abbrev pub IsWithin : ℤ → Type 0
IsWithin z = (z <ℤ pos (2 ^ 127)) × (pos 0 ≤ℤ (z +ℤ pos (2 ^ 127)))

-- the number of the second node is at most that of the first and the weight
abbrev pub IsMet : List ℤ → Edge → Type 0
IsMet ls e = label ls e.to ≤ℤ (label ls e.from +ℤ e.weight)

-- the weights of the edges at these places, together
abbrev pub weight_of : List Edge → List ℕ → ℤ
weight_of es [] = pos 0
weight_of es (k ∷ ks) = (edge_at es k).weight +ℤ weight_of es ks

-- how much these numbers of nodes rise along the edges at these places, together
abbrev pub rise : List Edge → (ℕ → ℤ) → List ℕ → ℤ
rise es p [] = pos 0
rise es p (k ∷ ks) = (p (edge_at es k).to -ℤ p (edge_at es k).from) +ℤ rise es p ks

-- Along the edges at these places numbers of nodes rise by nothing together, whatever they are; and the weights together are negative.
pub record IsCycle (es : List Edge) (ks : List ℕ) : Type 0 where
  pub edges : All (λ k. k < length es) ks
  pub closed : (p : ℕ → ℤ) → rise es p ks ≡ pos 0
  pub negative : weight_of es ks <ℤ pos 0

-- what is found of edges between nodes below n
abbrev pub IsFound : ℕ → List Edge → Found → Type 0
IsFound n es (Labels ls) = (length ls.items ≡ n) × All (IsMet ls.items) es
IsFound n es (Cycle ks) = IsCycle es ks.items
