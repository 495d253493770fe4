-- Nodes for the terms of differences, and the edges that differences are. The first node stands for 0.
use Rattle.std.specs.Prelude.{◌≡◌, ℕ, zero, suc, ◌^◌, ◌<◌, ℤ, pos, negsuc, ◌-ℤ◌, ◌*ℤ◌, unsigned_abs, List, [], ◌∷◌, length, true, Option, Some, None, slice_get, slice_index_or, if◌then◌else◌}
use Rattle.std.specs.List.{AllZip, Contains}
use Rattle.ss_core.specs.Tree.{ClassTree}
use Rattle.ss_logic.specs.Terms.{Term}
use Rattle.ss_logic.specs.Formulas.{Formula}
use Rattle.ss_logic.specs.Equal.{same_term}
use Rattle.ss_logic.specs.Sums.{SumFact}
use Rattle.ss_linear_paths.specs.declared.edges.Edge.{Edge}
use Rattle.ss_linear_paths.specs.Edges.{label}
use Rattle.ss_linear_rules.specs.Two.{fact_at, is_difference}
use Rattle.ss_linear_rules.specs.Valued.{fact_value, IsUsed}

-- the place of a term, or the length of the list
abbrev pub place : List Term → Term → ℕ
place [] t = 0
place (x ∷ xs) t = if same_term x t then 0 else suc (place xs t)

abbrev pub number_at : (Term → ℤ) → List Term → ℕ → ℤ
number_at v [] i = pos 0
number_at v (x ∷ xs) zero = v x
number_at v (x ∷ xs) (suc i) = number_at v xs i

-- the number of a node, where terms have these numbers: that of a term with the other sign
abbrev pub node_number : (Term → ℤ) → List Term → ℕ → ℤ
node_number v xs zero = pos 0
node_number v xs (suc i) = pos 0 -ℤ number_at v xs i

-- each term stands once
abbrev pub AreOnce : List Term → Type 0
AreOnce xs = (i : ℕ) (t : Term) → slice_get xs i ≡ Some t → place xs t ≡ i

-- the node is that of the term; without a term it is the first
abbrev pub IsEnd : List Term → Option Term → ℕ → Type 0
IsEnd xs None n = n ≡ 0
IsEnd xs (Some t) n = (i : ℕ) × (n ≡ suc i) × (slice_get xs i ≡ Some t)

-- the edge says what the known fact says with this weight
pub record IsEdgeOf (cs : List ClassTree) (known : List Formula) (xs : List Term) (e : Edge) (o : ℕ × ℤ) : Type 0 where
  pub from : e.from < suc (length xs)
  pub to : e.to < suc (length xs)
  pub small : unsigned_abs e.weight < 2 ^ 64
  pub used : IsUsed cs known o
  pub value : (v : Term → ℤ) → o.1 *ℤ fact_value v (fact_at cs known o.0) ≡ (node_number v xs e.to -ℤ node_number v xs e.from) -ℤ e.weight

-- a known difference has its edges
abbrev pub HasEdges : List ClassTree → List Formula → List (ℕ × ℤ) → ℕ → Type 0
HasEdges cs known os k = (fact : SumFact) → fact_at cs known k ≡ Some fact → is_difference fact ≡ true → Contains os (k, pos 1) × (fact.is_equality ≡ true → Contains os (k, negsuc 0))

-- the network of the first k known facts
pub record IsNetwork (cs : List ClassTree) (known : List Formula) (xs : List Term) (es : List Edge) (os : List (ℕ × ℤ)) (k : ℕ) : Type 0 where
  pub once : AreOnce xs
  pub edges : AllZip (IsEdgeOf cs known xs) es os
  pub all : (j : ℕ) → j < k → HasEdges cs known os j

abbrev pub no_origin : ℕ × ℤ
no_origin = (0, pos 0)

-- the facts of the edges at these places, with their weights
abbrev pub origins_at : List (ℕ × ℤ) → List ℕ → List (ℕ × ℤ)
origins_at os [] = []
origins_at os (k ∷ ks) = slice_index_or os k no_origin ∷ origins_at os ks

-- The number of a term, by the labels of nodes: that of the first less that of its own. A term without a node has no label, which counts as 0.
abbrev pub number_of : List Term → List ℤ → Term → ℤ
number_of xs ls t = label ls 0 -ℤ label ls (suc (place xs t))

-- what a term comes to, 0 without one
abbrev pub end_value : (Term → ℤ) → Option Term → ℤ
end_value v None = pos 0
end_value v (Some t) = v t
