-- Which terms of a bank are equal by congruence, where some pairs are merged. A term is meant by its number.
use Rattle.std.specs.Prelude.{◌≡◌, ◌↔◌, ℕ, ◌==◌, ◌<◌, List, length, Some, slice_get, unwrap_or, filter}
use Rattle.std.specs.List.{list_any}
use Rattle.ss_terms.specs.declared.forms.TermId.{TermId}
use Rattle.ss_terms.specs.declared.forms.Symbol.{Symbol}
use Rattle.ss_terms.specs.Forms.{Forms, TermShape, AppShape, term_of, term_at, TermBelow}
use Rattle.ss_terms.specs.Bank.{number}
use Rattle.ss_equality_rules.specs.declared.Merge.{Merge}

-- The least congruence, over terms of these forms, that holds these merges. It is reflexive, symmetric and transitive, and closed under one function
-- at arguments that are equal one by one.
pub data IsEqual (ts : List TermShape) (ms : List Merge) : ℕ → ℕ → Type 0 where
  merged : (k : ℕ) (m : Merge) → slice_get ms k ≡ Some m → IsEqual ts ms m.left.0 m.right.0
  itself : (x : ℕ) → IsEqual ts ms x x
  back : {x y : ℕ} → IsEqual ts ms x y → IsEqual ts ms y x
  through : {x y z : ℕ} → IsEqual ts ms x y → IsEqual ts ms y z → IsEqual ts ms x z
  applied : {x y : ℕ} (f : Symbol) (xs ys : List TermId) → slice_get ts x ≡ Some (AppShape f xs) → slice_get ts y ≡ Some (AppShape f ys) →
      length xs ≡ length ys → ((i : ℕ) (a b : TermId) → slice_get xs i ≡ Some a → slice_get ys i ≡ Some b → IsEqual ts ms a.0 b.0) → IsEqual ts ms x y

-- the merges that have one of these reasons
abbrev pub with_reasons : List ℕ → List Merge → List Merge
with_reasons reasons ms = filter (λ m. list_any (λ r. r == m.because) reasons) ms

-- these are the forms of the bank's first so many terms, in the order of their numbers
pub record AreFirstFormsOf (b : Forms) (so_many : ℕ) (ts : List TermShape) : Type 0 where
  pub all : length ts ≡ so_many
  pub built : (t : ℕ) (n : TermShape) → slice_get ts t ≡ Some n → term_at b (number t) ≡ term_of (term_at b) n
  pub below : (t : ℕ) (n : TermShape) → slice_get ts t ≡ Some n → TermBelow t n

-- the forms of all its terms
abbrev pub AreFormsOf : Forms → List TermShape → Type 0
AreFormsOf b ts = AreFirstFormsOf b (length b.terms) ts

-- the class of a number; past the end of the list 0
abbrev pub class_number : List ℕ → TermId → ℕ
class_number classes t = unwrap_or (slice_get classes t.0) 0

-- terms of these forms have one class exactly where these merges make them equal
abbrev pub AreClassesOf : List TermShape → List Merge → List ℕ → Type 0
AreClassesOf ts ms classes = (x y : ℕ) → x < length ts → y < length ts → (class_number classes (number x) ≡ class_number classes (number y)) ↔ IsEqual ts ms x y

-- what a congruence says: the forms of the terms, none before the first merge, and the merges that stand
pub record Equations : Type 0 where
  pub terms : List TermShape
  pub merges : List Merge
