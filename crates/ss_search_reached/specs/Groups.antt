-- Terms in groups by their classes, and pairs of them.
use Rattle.std.specs.Prelude.{◌≡◌, ◌⊎◌, ℕ, ◌<◌, List, [], ◌∷◌, ◌++◌, map, true, slice_index_or, Vec}
use Rattle.std.specs.List.{Contains}
use Rattle.std.specs.declared.alloc.Global.{Global}
use Rattle.ss_core.specs.Tree.{ClassTree}
use Rattle.ss_logic.specs.Terms.{Term}
use Rattle.ss_logic_countermodels.specs.Refuting.{is_whole}
use Rattle.ss_terms.specs.declared.forms.TermId.{TermId}
use Rattle.ss_terms.specs.Forms.{Forms, term_at, HasTerm}
use Rattle.ss_linear.specs.Contradictions.{Pairs, equalities_at}
use Rattle.ss_linear.specs.Met.{Follow}
use Rattle.ss_equality_rules.specs.Equal.{class_number}
use Rattle.ss_logic.specs.Includes.{Includes}

abbrev pub lists_in : List (Vec TermId Global) → List (List TermId)
lists_in vs = map (λ v. v.items) vs

abbrev pub group_at : List (List TermId) → ℕ → List TermId
group_at gs k = slice_index_or gs k []

-- each term is in the group of its class, and no other
pub record AreGrouped (classes : List ℕ) (ts : List TermId) (gs : List (List TermId)) : Type 0 where
  pub all : (t : TermId) → Contains ts t → Contains (group_at gs (class_number classes t)) t
  pub only : (k : ℕ) (t : TermId) → Contains (group_at gs k) t → Contains ts t × (class_number classes t ≡ k)

-- each of the first terms was paired with each of the second that is another, and nothing else
pub record ArePaired (ss ts : List TermId) (old new : Pairs) : Type 0 where
  pub kept : Includes new old
  pub all : (s t : TermId) → Contains ss s → Contains ts t → (s.0 ≡ t.0) ⊎ Contains new (s, t)
  pub only : (p : TermId × TermId) → Contains new p → Contains old p ⊎ (Contains ss p.0 × Contains ts p.1)

-- the terms of each pair are among these, and in one class
abbrev pub AreAmong : List ℕ → List TermId → Pairs → Type 0
AreAmong classes ts ps = (p : TermId × TermId) → Contains ps p → Contains ts p.0 × Contains ts p.1 × (class_number classes p.0 ≡ class_number classes p.1)

-- the pairs of different terms of one class
pub record ArePairs (classes : List ℕ) (ts : List TermId) (ps : Pairs) : Type 0 where
  pub all : (s t : TermId) → Contains ts s → Contains ts t → class_number classes s ≡ class_number classes t → (s.0 ≡ t.0) ⊎ Contains ps (s, t)
  pub only : AreAmong classes ts ps

-- those of the first so many groups
pub record ArePairsBelow (gs : List (List TermId)) (n : ℕ) (ps : Pairs) : Type 0 where
  pub all : (k : ℕ) → k < n → (s t : TermId) → Contains (group_at gs k) s → Contains (group_at gs k) t → (s.0 ≡ t.0) ⊎ Contains ps (s, t)
  pub only : (p : TermId × TermId) → Contains ps p → (k : ℕ) × Contains (group_at gs k) p.0 × Contains (group_at gs k) p.1

-- numbers of two terms: those of one, or in different classes, or a pair
pub record IsPairIn (b : Forms) (classes : List ℕ) (ps : Pairs) (x y : Term) : Type 0 where
  pub left : TermId
  pub right : TermId
  pub has_left : HasTerm b left
  pub has_right : HasTerm b right
  pub left_is : term_at b left ≡ x
  pub right_is : term_at b right ≡ y
  pub pair : class_number classes left ≡ class_number classes right → (left.0 ≡ right.0) ⊎ Contains ps (left, right)

-- the terms of each pair are in one class
pub record AreOfOneClass (classes : List ℕ) (ps : Pairs) : Type 0 where
  pub one_class : (p : TermId × TermId) → Contains ps p → class_number classes p.0 ≡ class_number classes p.1

-- the term is one of these, and a whole number
pub record IsWholeIn (cs : List ClassTree) (b : Forms) (xs : List Term) (t : TermId) : Type 0 where
  pub within : Contains xs (term_at b t)
  pub whole : is_whole cs (term_at b t) ≡ true

-- The pairs have, of each two of the terms that are whole numbers and in one class, those numbers; and no others.
pub record AreWholePairs (cs : List ClassTree) (b : Forms) (classes : List ℕ) (xs : List Term) (ps : Pairs) : Type 0 where
  pub all : (s t : Term) → Contains xs s → Contains xs t → is_whole cs s ≡ true → is_whole cs t ≡ true → IsPairIn b classes ps s t
  pub only : (p : TermId × TermId) → Contains ps p → IsWholeIn cs b xs p.0 × IsWholeIn cs b xs p.1

-- ---- neighbours

-- each term with the next one
abbrev pub neighbours : List TermId → Pairs
neighbours [] = []
neighbours (s ∷ []) = []
neighbours (s ∷ t ∷ ts) = (s, t) ∷ neighbours (t ∷ ts)

abbrev pub neighbours_in : List (List TermId) → Pairs
neighbours_in [] = []
neighbours_in (g ∷ gs) = neighbours g ++ neighbours_in gs

-- the neighbours in groups by classes
pub record AreChained (classes : List ℕ) (ts : List TermId) (ps : Pairs) : Type 0 where
  pub groups : List (List TermId)
  pub grouped : AreGrouped classes ts groups
  pub links : ps ≡ neighbours_in groups

-- Pairs of these terms that are whole numbers. Where their equalities are so at some numbers, those of each two of one class are.
pub record AreWholeLinks (cs : List ClassTree) (b : Forms) (classes : List ℕ) (xs : List Term) (ps : Pairs) : Type 0 where
  pub only : (p : TermId × TermId) → Contains ps p → IsWholeIn cs b xs p.0 × IsWholeIn cs b xs p.1
  pub pairs : Pairs
  pub are : AreWholePairs cs b classes xs pairs
  pub follow : Follow cs (equalities_at b pairs) (equalities_at b ps)
