-- Networks over the numbers of a bank.
use Rattle.std.specs.Prelude.{◌≡◌, ℕ, ◌+◌, ℤ, pos, negsuc, ◌-ℤ◌, List, [], ◌∷◌, ◌++◌, ◌<◌, length, nat_eq, true, Option, Some, None, unwrap_or, if◌then◌else◌}
use Rattle.indexmap.specs.IndexMap.{get}
use Rattle.ss_core.specs.Tree.{ClassTree}
use Rattle.ss_logic.specs.Terms.{Term}
use Rattle.ss_logic.specs.Formulas.{Formula}
use Rattle.ss_logic.specs.Sums.{SumFact, sum_of}
use Rattle.ss_terms.specs.declared.forms.TermId.{TermId}
use Rattle.ss_terms.specs.Forms.{Forms, term_at, terms_at, HasTerm, HasTerms}
use Rattle.ss_linear_paths.specs.declared.edges.Edge.{Edge}
use Rattle.ss_linear_paths.specs.Edges.{HasNodes, AreSmall}
use Rattle.ss_linear_rules.specs.Two.{IsFalse, fact_at, is_difference}
use Rattle.ss_linear_rules.specs.Valued.{parts_at, MeetsDifferences}
use Rattle.ss_linear_rules.specs.Nodes.{place, AreOnce, IsEnd, IsNetwork, number_of, end_value}
use Rattle.ss_linear_network.specs.declared.nodes.Nodes.{Nodes}
use Rattle.ss_linear_network.specs.declared.network.Difference.{Difference}
use Rattle.ss_linear_network.specs.declared.network.Network.{Network}
use Rattle.ss_linear_network.specs.declared.network.Numbers.{Numbers}
use Rattle.ss_linear_network.specs.declared.network.Solved.{Solved}
use Rattle.ss_linear_network.specs.declared.network.Solved.TheVariants as solved

abbrev pub term_of : Forms → Option TermId → Option Term
term_of b None = None
term_of b (Some t) = Some (term_at b t)

-- the terms are the bank's, and the table has the place of each, where it is one of the list
pub record AreNodesOf (b : Forms) (n : Nodes) : Type 0 where
  pub terms : HasTerms b n.terms.items
  pub places : (t : TermId) → HasTerm b t → unwrap_or (get nat_eq n.places t.0) (length n.terms.items) ≡ place (terms_at b n.terms.items) (term_at b t)
  pub within : (k p : ℕ) → get nat_eq n.places k ≡ Some p → p < length n.terms.items

-- the terms are those and perhaps more, and the node is that of the term
pub record HasEnd (b : Forms) (old new : List TermId) (t : Option Term) (n : ℕ) : Type 0 where
  pub more : (ts : List Term) × (terms_at b new ≡ terms_at b old ++ ts)
  pub once : AreOnce (terms_at b old) → AreOnce (terms_at b new)
  pub end : IsEnd (terms_at b new) t n

-- the edges of a difference, between these nodes, and the places and weights of its fact
abbrev pub edges_of : Difference → ℕ → ℕ → List Edge
edges_of d m n =
    record { from = m; to = n; weight = pos 0 -ℤ d.constant }
    ∷ (if d.is_equality then record { from = n; to = m; weight = d.constant } ∷ [] else [])

abbrev pub places_of : ℕ → Difference → List (ℕ × ℤ)
places_of k d = (k, pos 1) ∷ (if d.is_equality then (k, negsuc 0) ∷ [] else [])

-- the known fact at this place is the difference
pub record IsDifferenceOf (b : Forms) (cs : List ClassTree) (known : List Formula) (k : ℕ) (d : Difference) : Type 0 where
  pub fact : SumFact
  pub is : fact_at cs known k ≡ Some fact
  pub difference : is_difference fact ≡ true
  pub equality : fact.is_equality ≡ d.is_equality
  pub constant : fact.sum.constant ≡ d.constant
  pub parts : (v : Term → ℤ) → parts_at v fact.sum.parts ≡ end_value v (term_of b d.plus) -ℤ end_value v (term_of b d.minus)

-- the network of the first k known facts
abbrev pub IsNetworkOf : Forms → List ClassTree → List Formula → Network → ℕ → Type 0
IsNetworkOf b cs known n k = IsNetwork cs known (terms_at b n.nodes.terms.items) n.edges.items n.origins.items k

-- its edges are between its nodes, have small weights, and each has its place
pub record IsSound (n : Network) : Type 0 where
  pub nodes : HasNodes (length n.nodes.terms.items + 1) n.edges.items
  pub small : AreSmall n.edges.items
  pub places : length n.edges.items ≡ length n.origins.items

-- the numbers of terms
abbrev pub numbers_at : Forms → Numbers → Term → ℤ
numbers_at b n = number_of (terms_at b n.nodes.terms.items) n.labels.items

-- The sum of the known facts with these weights is a contradiction; or these numbers meet all differences.
abbrev pub IsSolved : Forms → List ClassTree → List Formula → Solved → Type 0
IsSolved b cs known (solved.Contradicted ps) = (f : Formula) × (sum_of cs known (pos 1) ps.items ≡ Some f) × IsFalse f
IsSolved b cs known (solved.Met n) = MeetsDifferences cs known (numbers_at b n)

-- where numbers were found, their nodes are of the bank's terms
abbrev pub HasNumbers : Forms → Solved → Type 0
HasNumbers b (solved.Contradicted ps) = Unit {0}
HasNumbers b (solved.Met n) = AreNodesOf b n.nodes
