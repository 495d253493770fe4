-- Admissible invariants (ECOOP 2004): each speaks of the fields of `this` at its own level or above, and of what `this` owns there.
use Rattle.std.specs.Prelude.{◌≡◌, ℕ, List, [], ◌∷◌, Bool, true, false, ◌==◌, ◌&&◌, ◌||◌, Option, Some, None}
use Rattle.std.specs.List.{list_all}
use Rattle.ss_core.specs.Marks.{is_rep, is_rep_or_peer}
use Rattle.ss_core.specs.Tree.{ClassTree, ExprTree, IntExpr, BoolExpr, NullExpr, LocalExpr, FieldExpr, ElementExpr, LengthExpr, NegateExpr, NotExpr, BinaryExpr, ImpliesExpr, IffExpr, IsExpr, AsExpr, CastExpr, OldExpr, QuantifiedExpr, StateExpr, OwnersExpr, DefaultExpr}
use Rattle.ss_core.specs.Chain.{declared}
use Rattle.ss_store_rules.specs.declared.Value.TheVariants as value
use Rattle.ss_store_rules.specs.Values.{setting, holds}
use Rattle.ss_store_rules.specs.Changes.{below, field_class, field_mark}
use Rattle.ss_store_rules.specs.Good.{Invariants}

-- ---- paths

-- `this` is the first local
abbrev pub is_this : ExprTree → Bool
is_this (LocalExpr p x) = x == 0
is_this e = false

-- a field of `this` that t or a class above it declares
abbrev pub is_own_field : List ClassTree → ℕ → ExprTree → ℕ → Bool
is_own_field cs t e f = is_this e && below cs t (field_class cs f)

-- a path to what `this` owns: first a rep field of `this`, then rep and peer fields
abbrev pub is_owned_path : List ClassTree → ℕ → ExprTree → Bool
is_owned_path cs t (FieldExpr p e f) = is_own_field cs t e f && is_rep (field_mark cs f) || is_owned_path cs t e && is_rep_or_peer (field_mark cs f)
is_owned_path cs t e = false

-- ---- expressions

-- Each field is read from `this` or from what it owns, and each element from an array that it owns.
abbrev pub is_admissible : List ClassTree → ℕ → ExprTree → Bool
is_admissible cs t (IntExpr p n) = true
is_admissible cs t (BoolExpr p b) = true
is_admissible cs t (NullExpr p) = true
is_admissible cs t (LocalExpr p x) = true
is_admissible cs t (FieldExpr p e f) = is_own_field cs t e f || is_owned_path cs t e
is_admissible cs t (ElementExpr p a i) = is_owned_path cs t a && is_admissible cs t i
is_admissible cs t (LengthExpr p e) = is_admissible cs t e
is_admissible cs t (NegateExpr p e) = is_admissible cs t e
is_admissible cs t (NotExpr p e) = is_admissible cs t e
is_admissible cs t (BinaryExpr p o a b) = is_admissible cs t a && is_admissible cs t b
is_admissible cs t (ImpliesExpr p a b) = is_admissible cs t a && is_admissible cs t b
is_admissible cs t (IffExpr p a b) = is_admissible cs t a && is_admissible cs t b
is_admissible cs t (IsExpr p e u) = is_admissible cs t e
is_admissible cs t (AsExpr p e u) = is_admissible cs t e
is_admissible cs t (CastExpr p u non_null e) = is_admissible cs t e
is_admissible cs t (OldExpr p e) = false
is_admissible cs t (QuantifiedExpr p q name low high e) = is_admissible cs t low && (is_admissible cs t high && is_admissible cs t e)
is_admissible cs t (StateExpr p w e) = false
is_admissible cs t (OwnersExpr p w a b) = false
is_admissible cs t (DefaultExpr p d) = false

-- ---- the invariants of a class

-- a class that isn't declared has none
abbrev pub invariants_of : Option ClassTree → List ExprTree
invariants_of None = []
invariants_of (Some c) = c.invariants

abbrev pub invariants : List ClassTree → ℕ → List ExprTree
invariants cs t = invariants_of (declared cs t)

-- each invariant of each class is admissible there
abbrev pub AreAdmissible : List ClassTree → Type 0
AreAdmissible cs = (t : ℕ) → list_all (is_admissible cs t) (invariants cs t) ≡ true

-- the invariants of the class t hold of the object at o
abbrev pub invariants_hold : List ClassTree → Invariants
invariants_hold cs s o t = list_all (λ e. holds e (setting cs s s (value.Obj o ∷ []))) (invariants cs t)
