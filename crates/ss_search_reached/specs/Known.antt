-- What is known of the formulas of a bank, and what is kept of it.
use Rattle.std.specs.Prelude.{◌≡◌, ◌⊎◌, ◌==◌, ℕ, ◌≤◌, List, length, map, take, Bool, true, false, Some, slice_get, slice_index_or}
use Rattle.std.specs.List.{IsDistinct}
use Rattle.ss_logic.specs.Terms.{Term, Bound, App, term_then, no_terms}
use Rattle.ss_logic.specs.Formulas.{Formula, Equal, Literal}
use Rattle.ss_terms.specs.declared.forms.TermId.{TermId}
use Rattle.ss_terms.specs.declared.forms.FormulaId.{FormulaId}
use Rattle.ss_terms.specs.Forms.{Forms, TermShape, term_at, formulas_at, HasTerm, HasFormulas}
use Rattle.ss_rules_occurring.specs.Found.{AreMarked, formula_number}
use Rattle.ss_equality_rules.specs.declared.Merge.{Merge}
use Rattle.ss_equality_rules.specs.Equal.{Equations, AreFormsOf, IsEqual}
use Rattle.ss_search_clashes.specs.Numbered.{AreMerged}
use Rattle.ss_search_reached.specs.declared.reached.Reached.{Reached}

-- the known formulas
abbrev pub known_in : Forms → Reached → List Formula
known_in b r = formulas_at b r.known.items

-- ---- merges

-- a name that nothing binds
abbrev pub is_name : Term → Bool
is_name (Bound k) = true
is_name (App f ts) = false

-- all such names are equal
abbrev pub AreOneName : Forms → List TermShape → List Merge → Type 0
AreOneName b ts ms = (s t : TermId) → HasTerm b s → HasTerm b t → is_name (term_at b s) ≡ true → is_name (term_at b t) ≡ true → IsEqual ts ms s.0 t.0

-- both sides of each merge are such names
abbrev pub AreOfNames : Forms → List Merge → Type 0
AreOfNames b ms = (k : ℕ) (m : Merge) → slice_get ms k ≡ Some m → (is_name (term_at b m.left) ≡ true) × (is_name (term_at b m.right) ≡ true)

-- how many merges there were before the known formula at this place; at the end, how many there are
abbrev pub merges_at : List ℕ → List Merge → ℕ → ℕ
merges_at counts ms k = slice_index_or counts k (length ms)

-- The known equalities are merged, those among the first so many by the merges that there were then. The names that nothing binds are merged before
-- all of them.
pub record AreKept (b : Forms) (known : List FormulaId) (counts : List ℕ) (s : Equations) : Type 0 where
  pub forms : AreFormsOf b s.terms
  pub long : length counts ≡ length known
  pub rise : (j k : ℕ) → j ≤ k → k ≤ length known → merges_at counts s.merges j ≤ merges_at counts s.merges k
  pub merged : (k : ℕ) → k ≤ length known → AreMerged b s.terms (take (merges_at counts s.merges k) s.merges) (take k known)
  pub names : AreOneName b s.terms (take (merges_at counts s.merges 0) s.merges)

-- The formulas are of the bank, each once; their numbers are marked, and their equalities merged.
pub record IsReached (b : Forms) (r : Reached) : Type 0 where
  pub has : HasFormulas b r.known.items
  pub once : IsDistinct (λ m n. m == n) (map formula_number r.known.items)
  pub marked : AreMarked r.numbers (map formula_number r.known.items)
  pub kept : AreKept b r.known.items r.merges.items r.congruence

-- The merges are those that were, and where the formula is an equality that holds, its own for this reason.
abbrev pub AreMergesWith : Forms → Formula → ℕ → List Merge → List Merge → Type 0
AreMergesWith b f because old new = (k : ℕ) (m : Merge) → slice_get new k ≡ Some m →
    (slice_get old k ≡ Some m) ⊎ ((m.because ≡ because) × (f ≡ Literal true Equal (term_then (term_at b m.left) (term_then (term_at b m.right) no_terms))))

-- The merges and their counts stay in front of what is added. What is known next has the merges before it that there were.
pub record Remembers (old new : Reached) : Type 0 where
  pub counts : take (length old.merges.items) new.merges.items ≡ old.merges.items
  pub begins : take (length old.congruence.merges) new.congruence.merges ≡ old.congruence.merges
  pub next : merges_at new.merges.items new.congruence.merges (length old.known.items) ≡ length old.congruence.merges
