-- Whole numbers with their classes, and each two of one class.
use Rattle.std.specs.Prelude.{◌≡◌, ℕ, ◌+◌, ◌<◌, ◌≤◌, ◌==◌, List, [], ◌∷◌, ◌++◌, length, map, filter, get_or, take}
use Rattle.std.specs.List.{AllByRecursion}
use Rattle.ss_logic.specs.Terms.{Term}
use Rattle.ss_terms.specs.declared.forms.TermId.{TermId}
use Rattle.ss_terms.specs.Forms.{Forms, term_at, HasTerm}
use Rattle.ss_search_models.specs.declared.wholes.Whole.{Whole}
use Rattle.ss_search_models.specs.declared.candidate.Candidate.{Candidate}
use Rattle.ss_search_models.specs.Candidates.{class_at}

abbrev pub no_whole : Whole
no_whole = record { term = record { 0 = 0 }; class = 0 }

abbrev pub whole_at : Forms → Whole → Term
whole_at b w = term_at b w.term

abbrev pub wholes_at : Forms → List Whole → List Term
wholes_at b ws = map (whole_at b) ws

-- the bank has the term, and the class is the one that the candidate gives it
abbrev pub IsClassed : Forms → Candidate → Whole → Type 0
IsClassed b c w = HasTerm b w.term × (w.class ≡ class_at b c (whole_at b w))

abbrev pub AreClassed : Forms → Candidate → List Whole → Type 0
AreClassed b c ws = AllByRecursion (IsClassed b c) ws

-- the first place from i on with this class, the length where there is none
pub record IsFirst (ws : List Whole) (i class place : ℕ) : Type 0 where
  pub from : i ≤ place
  pub within : place ≤ length ws
  pub same : place < length ws → (get_or ws place no_whole).class ≡ class
  pub none : (k : ℕ) → i ≤ k → k < place → (get_or ws k no_whole).class ≡ class → ⊥

-- for each place the next one of the same class
abbrev pub AreNexts : List Whole → List ℕ → Type 0
AreNexts ws ns = (i : ℕ) → i < length ws → IsFirst ws (i + 1) (get_or ws i no_whole).class (get_or ns i 0)

-- a term with each of the others that is of its class
abbrev pub pairs_of : Whole → List Whole → List (TermId × TermId)
pairs_of w ws = map (λ u. (w.term, u.term)) (filter (λ u. w.class == u.class) ws)

-- each two of one class
abbrev pub pairs_in : List Whole → List (TermId × TermId)
pairs_in [] = []
pairs_in (w ∷ ws) = pairs_of w ws ++ pairs_in ws

-- a term with the first of the others that is of its class
abbrev pub next_of : Whole → List Whole → List (TermId × TermId)
next_of w ws = take 1 (pairs_of w ws)

-- each one with the next of its class
abbrev pub nexts_in : List Whole → List (TermId × TermId)
nexts_in [] = []
nexts_in (w ∷ ws) = next_of w ws ++ nexts_in ws
