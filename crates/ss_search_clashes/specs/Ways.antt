-- Ways: joins by which one goes from a term to another of its class.
use Rattle.std.specs.Prelude.{◌≡◌, ℕ, zero, suc, ◌==◌, List, [], ◌∷◌, ◌++◌, length, take, Option, Some, None, option_and_then, slice_get, if◌then◌else◌}
use Rattle.ss_terms.specs.declared.forms.TermId.{TermId}
use Rattle.ss_logic.specs.Shapes.{when}
use Rattle.ss_equality_rules.specs.declared.Join.{Join}
use Rattle.ss_equality_rules.specs.Names.{name, IsLog}

-- the other side of a join
abbrev pub across : ℕ → Join → Option ℕ
across x e = if x == e.left then Some e.right else when (x == e.right) e.left

-- the term to which these joins lead, one after the other, each in either direction
abbrev pub gone : List Join → ℕ → List ℕ → Option ℕ
gone es x [] = Some x
gone es x (j ∷ js) = option_and_then (λ e. option_and_then (λ y. gone es y js) (across x e)) (slice_get es j)

-- over the join n: the first term is in the class with this name, which the join renames, or whose name it gives
abbrev pub over : (ℕ → ℕ → List ℕ) → ℕ → Option Join → ℕ → ℕ → ℕ → List ℕ
over before n None class x y = []
over before n (Some e) class x y = if class == e.from then before x e.left ++ n ∷ before e.right y else before x e.right ++ n ∷ before e.left y

-- The way between two terms that are in one class after the first n joins. Where they weren't before the last of these, it goes over it.
unfoldable pub way_after : List Join → ℕ → ℕ → ℕ → List ℕ
way_after es zero x y = []
way_after es (suc n) x y = if name (take n es) x == name (take n es) y then way_after es n x y else over (λ a b. way_after es n a b) n (slice_get es n) (name (take n es) x) x y

-- the way between two terms of one class
abbrev pub way : List Join → ℕ → ℕ → List ℕ
way es x y = way_after es (length es) x y

-- what there is on the terms of two lists, one by one
abbrev pub each_pair : {A : Type 0} → (TermId → TermId → List A) → List TermId → List TermId → List A
each_pair f (x ∷ xs) (y ∷ ys) = f x y ++ each_pair f xs ys
each_pair f xs ys = []

abbrev pub ways : List Join → List TermId → List TermId → List ℕ
ways es xs ys = each_pair (λ x y. way es x.0 y.0) xs ys

-- the terms of two lists are in one class, one by one
pub record ArePaired (es : List Join) (xs ys : List TermId) : Type 0 where
  pub long : length xs ≡ length ys
  pub same : (i : ℕ) (x y : TermId) → slice_get xs i ≡ Some x → slice_get ys i ≡ Some y → name es x.0 ≡ name es y.0

-- at the name of each class that ended, a join that ended it
pub record AreEnds (es : List Join) (ends : List (Option ℕ)) : Type 0 where
  pub terms : ℕ
  pub log : IsLog terms es
  pub gone : (class j : ℕ) → slice_get ends class ≡ Some (Some j) → (e : Join) × (slice_get es j ≡ Some e) × (e.from ≡ class)
  pub ended : (j : ℕ) (e : Join) → slice_get es j ≡ Some e → (i : ℕ) × (slice_get ends e.from ≡ Some (Some i))
