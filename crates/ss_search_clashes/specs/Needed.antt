-- Joins that are needed for the ways between some terms.
use Rattle.std.specs.Prelude.{◌≡◌, ℕ, ◌≤◌, ◌⊎◌, List, Bool, true, Some, None, slice_get}
use Rattle.ss_terms.specs.declared.forms.TermId.{TermId}
use Rattle.ss_terms.specs.declared.forms.Symbol.{Symbol}
use Rattle.ss_terms.specs.Forms.{TermShape, AppShape}
use Rattle.ss_equality_rules.specs.declared.Join.{Join}
use Rattle.ss_equality_rules.specs.Names.{Has, name}
use Rattle.ss_search_clashes.specs.Ways.{ways}

-- exactly these are marked besides
pub record Marks (js : List ℕ) (old new : List Bool) : Type 0 where
  pub marked : (j : ℕ) → Has js j → slice_get new j ≡ Some true
  pub kept : (j : ℕ) → slice_get old j ≡ Some true → slice_get new j ≡ Some true
  pub only : (j : ℕ) → slice_get new j ≡ Some true → Has js j ⊎ (slice_get old j ≡ Some true)

-- two terms of a join by congruence, and their arguments
pub record IsCongruence (fs : List TermShape) (e : Join) (xs ys : List TermId) : Type 0 where
  pub function : Symbol
  pub why : e.why ≡ None
  pub left : slice_get fs e.left ≡ Some (AppShape function xs)
  pub right : slice_get fs e.right ≡ Some (AppShape function ys)

-- the ways between the arguments of a marked join by congruence are marked
pub record MarksJoin (fs : List TermShape) (es : List Join) (number : ℕ) (e : Join) (old new : List Bool) : Type 0 where
  pub joins : List ℕ
  pub marks : Marks joins old new
  pub enough : slice_get old number ≡ Some true → (xs ys : List TermId) → IsCongruence fs e xs ys → (j : ℕ) → Has (ways es xs ys) j → Has joins j
  pub no_more : (j : ℕ) → Has joins j → (slice_get old number ≡ Some true) × ((xs : List TermId) × (ys : List TermId) × IsCongruence fs e xs ys × Has (ways es xs ys) j)

-- a test that terms of one class pass together, and that the arguments of a term pass with it
pub record IsHandedDown (fs : List TermShape) (es : List Join) (p : ℕ → Bool) : Type 0 where
  pub classes : (x y : ℕ) → name es x ≡ name es y → p x ≡ true → p y ≡ true
  pub arguments : (t : ℕ) (f : Symbol) (xs : List TermId) → slice_get fs t ≡ Some (AppShape f xs) → p t ≡ true → (x : TermId) → Has xs x → p x.0 ≡ true

-- the ways between the arguments of each marked join by congruence, from this number on, are marked
pub record AreClosed (fs : List TermShape) (es : List Join) (from : ℕ) (marks : List Bool) : Type 0 where
  pub arguments : (i : ℕ) (e : Join) → from ≤ i → slice_get es i ≡ Some e → slice_get marks i ≡ Some true → (xs ys : List TermId) → IsCongruence fs e xs ys → (j : ℕ) → Has (ways es xs ys) j → slice_get marks j ≡ Some true

-- The marked joins suffice for the ways between these terms, and from this number on for those between arguments. What is handed down
-- from the terms passes at each of them.
pub record AreNeeded (fs : List TermShape) (es : List Join) (xs ys : List TermId) (from : ℕ) (marks : List Bool) : Type 0 where
  pub ways : (j : ℕ) → Has (ways es xs ys) j → slice_get marks j ≡ Some true
  pub closed : AreClosed fs es from marks
  pub passing : (p : ℕ → Bool) → IsHandedDown fs es p → ((x : TermId) → Has xs x → p x.0 ≡ true) → (i : ℕ) (e : Join) → slice_get es i ≡ Some e → slice_get marks i ≡ Some true → p e.left ≡ true
