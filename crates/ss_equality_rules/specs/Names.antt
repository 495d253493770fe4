-- Names of classes: a join renames one class to another, and a log of joins gives each term the name of its class.
use Rattle.std.specs.Prelude.{◌≡◌, ◌≢◌, ℕ, ◌==◌, ◌<◌, ◌≤◌, List, [], ◌∷◌, ◌++◌, length, take, Some, None, Option, slice_get, slice_index_or, if◌then◌else◌}
use Rattle.ss_terms.specs.declared.forms.TermId.{TermId}
use Rattle.ss_terms.specs.Forms.{TermShape, AppShape}
use Rattle.ss_terms.specs.Bank.{number}
use Rattle.ss_equality_rules.specs.declared.Join.{Join}

pub record Has {A : Type 0} (xs : List A) (x : A) : Type 0 where
  pub at : ℕ
  pub is : slice_get xs at ≡ Some x

unfoldable pub renamed : Join → ℕ → ℕ
renamed e x = if x == e.from then e.to else x

-- the name of a term's class after these joins
unfoldable pub name : List Join → ℕ → ℕ
name [] x = x
name (e ∷ es) x = name es (renamed e x)

abbrev pub named : List Join → TermId → TermId
named es t = number (name es t.0)

-- the join of two classes, with a member of each, after these joins over so many terms
pub record IsJoin (terms : ℕ) (before : List Join) (e : Join) : Type 0 where
  pub left : name before e.left ≡ e.from
  pub right : name before e.right ≡ e.to
  pub apart : e.from ≢ e.to
  pub from_below : e.from < terms
  pub to_below : e.to < terms

pub record IsLog (terms : ℕ) (es : List Join) : Type 0 where
  pub joins : (j : ℕ) (e : Join) → slice_get es j ≡ Some e → IsJoin terms (take j es) e

-- the join that ended the class with this name, the only one that did
pub record IsEnd (es : List Join) (class j : ℕ) : Type 0 where
  pub join : Join
  pub at : slice_get es j ≡ Some join
  pub from : join.from ≡ class
  pub only : (i : ℕ) (e : Join) → slice_get es i ≡ Some e → e.from ≡ class → i ≡ j

-- no join ended it
pub record HasNoEnd (es : List Join) (class : ℕ) : Type 0 where
  pub none : (i : ℕ) (e : Join) → slice_get es i ≡ Some e → e.from ≢ class

-- ---- the users of a class: the terms that have one of its terms as an argument

unfoldable pub joined_users : Join → (ℕ → List ℕ) → ℕ → List ℕ
joined_users e users r = if r == e.to then users e.to ++ users e.from else users r

unfoldable pub grouped : (ℕ → List ℕ) → List Join → ℕ → List ℕ
grouped users [] r = users r
grouped users (e ∷ es) r = grouped (joined_users e users) es r

-- each term is listed at each of its arguments
pub record AreUsers (fs : List TermShape) (users : ℕ → List ℕ) : Type 0 where
  pub listed : (w : ℕ) (f : _) (xs : List TermId) (i : ℕ) (x : TermId) → slice_get fs w ≡ Some (AppShape f xs) → slice_get xs i ≡ Some x → Has (users x.0) w

-- what is kept of the classes: the users of each, and the join that ended each that ended
pub record AreClasses (fs : List TermShape) (lists : List (List ℕ)) (ends : List (Option ℕ)) (es : List Join) : Type 0 where
  pub log : IsLog (length fs) es
  pub ends_long : length fs ≤ length ends
  pub lists_long : length fs ≤ length lists
  pub going : (a : ℕ) → slice_get ends a ≡ Some None → (j : ℕ) (e : Join) → slice_get es j ≡ Some e → e.from ≢ a
  pub gone : (a j : ℕ) → slice_get ends a ≡ Some (Some j) → (e : Join) × (slice_get es j ≡ Some e) × (e.from ≡ a)
  pub first : ℕ → List ℕ
  pub users : AreUsers fs first
  pub lists_are : (r : ℕ) → slice_index_or lists r [] ≡ grouped first es r
  pub counts : (j : ℕ) (e : Join) → slice_get es j ≡ Some e → e.count ≡ length (grouped first (take j es) e.to)
