-- What is told of why two terms are equal.
use Rattle.std.specs.Prelude.{◌≡◌, ℕ, ◌≤◌, ◌⊎◌, List, [], ◌∷◌, ◌++◌, take, Bool, true, false, Some, None, slice_get}
use Rattle.ss_terms.specs.declared.forms.TermId.{TermId}
use Rattle.ss_terms.specs.declared.forms.Symbol.{Symbol}
use Rattle.ss_terms.specs.Forms.{TermShape, AppShape}
use Rattle.ss_equality_rules.specs.declared.Merge.{Merge}
use Rattle.ss_equality_rules.specs.declared.Join.{Join}
use Rattle.ss_equality_rules.specs.declared.Pair.{Pair}
use Rattle.ss_equality_rules.specs.Equal.{IsEqual}
use Rattle.ss_equality_rules.specs.Names.{Has, name}

-- the first join that ended one of two classes
pub record IsFirstEnd (es : List Join) (a b j : ℕ) : Type 0 where
  pub join : Join
  pub at : slice_get es j ≡ Some join
  pub from : (join.from ≡ a) ⊎ (join.from ≡ b)
  pub first : (i : ℕ) (e : Join) → slice_get es i ≡ Some e → (e.from ≡ a) ⊎ (e.from ≡ b) → j ≤ i

-- these merges hold all that have one of the reasons
pub record Holds (fs : List TermShape) (reasons : List ℕ) (ms ms' : List Merge) : Type 0 where
  pub holds : (k : ℕ) (m : Merge) → slice_get ms k ≡ Some m → Has reasons m.because → IsEqual fs ms' m.left.0 m.right.0

-- the pairs that are equal after so many joins follow from these merges
pub record Follow (fs : List TermShape) (ms' : List Merge) (es : List Join) (pairs : List Pair) (so_many : ℕ) : Type 0 where
  pub follow : (p : Pair) → Has pairs p → name (take so_many es) p.left ≡ name (take so_many es) p.right → IsEqual fs ms' p.left p.right

-- Where the open pairs follow from merges with the reasons, so do the joins that were told of, and x and y are equal. Each join
-- rests on earlier ones alone.
pub record Rests (fs : List TermShape) (ms : List Merge) (es : List Join) (x y : ℕ) (pairs : List Pair) (told : List Bool) (reasons : List ℕ) : Type 0 where
  pub joins : (ms' : List Merge) → Holds fs reasons ms ms' → (so_many : ℕ) → Follow fs ms' es pairs so_many →
      (j : ℕ) (e : Join) → slice_get es j ≡ Some e → slice_get told j ≡ Some true → j ≤ so_many → IsEqual fs ms' e.left e.right
  pub sides : (ms' : List Merge) → Holds fs reasons ms ms' → (so_many : ℕ) → Follow fs ms' es pairs so_many →
      name (take so_many es) x ≡ name (take so_many es) y → IsEqual fs ms' x y

pub record Tells (fs : List TermShape) (ms : List Merge) (es : List Join) (pairs pairs' : List Pair) (told told' : List Bool) (reasons reasons' : List ℕ) : Type 0 where
  pub tells : (x y : ℕ) → Rests fs ms es x y pairs told reasons → Rests fs ms es x y pairs' told' reasons'

-- the pairs of these arguments are open
pub record AreOpen (ps : List Pair) (xs ys : List TermId) : Type 0 where
  pub pair : (i : ℕ) (a b : TermId) → slice_get xs i ≡ Some a → slice_get ys i ≡ Some b → (p : Pair) × (Has ps p) × (p.left ≡ a.0) × (p.right ≡ b.0)

-- the same, beside any other pair
pub record TellsBeside (fs : List TermShape) (ms : List Merge) (es : List Join) (pairs pairs' : List Pair) (told told' : List Bool) (reasons reasons' : List ℕ) : Type 0 where
  pub tells : (p : Pair) → Tells fs ms es (p ∷ pairs) (p ∷ pairs') told told' reasons reasons'

-- the classes of x and y became one at this join; whether x was in the class that was renamed
pub record IsJoinedAt (es : List Join) (x y j : ℕ) (is_left : Bool) : Type 0 where
  pub join : Join
  pub at : slice_get es j ≡ Some join
  pub left : is_left ≡ true → (name (take j es) x ≡ join.from) × (name (take j es) y ≡ join.to)
  pub right : is_left ≡ false → (name (take j es) y ≡ join.from) × (name (take j es) x ≡ join.to)

-- why the terms of a join are equal was told: by the reason of a merge, or by pairs of arguments
pub record IsWhyTold (fs : List TermShape) (ms : List Merge) (e : Join) (ps qs : List Pair) (rs rs' : List ℕ) : Type 0 where
  pub among : (p : Pair) → Has ps p → Has qs p
  pub by_merge : (k : ℕ) (m : Merge) → e.why ≡ Some k → slice_get ms k ≡ Some m → (qs ≡ ps) × (rs' ≡ rs ++ m.because ∷ [])
  pub by_arguments : e.why ≡ None → rs' ≡ rs
  pub arguments : (f g : Symbol) (xs ys : List TermId) → e.why ≡ None → slice_get fs e.left ≡ Some (AppShape f xs) → slice_get fs e.right ≡ Some (AppShape g ys) → AreOpen qs xs ys
