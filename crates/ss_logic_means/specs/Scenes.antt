-- Where an expression stands: the context of its terms, and what in a run they stand for.
use Rattle.std.specs.Prelude.{◌≡◌, ℕ, List, [], ◌∷◌, ◌++◌, length, Bool, true, not, ◌&&◌, ◌||◌, Some, slice_get}
use Rattle.std.specs.List.{list_all}
use Rattle.ss_core.specs.declared.names.Ty.{Ty}
use Rattle.ss_core.specs.Tree.{ClassTree, DefaultTree, Defaults, Captured, ExprTree, DefaultExpr}
use Rattle.ss_core.specs.Chain.{below}
use Rattle.ss_store_rules.specs.declared.Value.{Value as ObjectValue}
use Rattle.ss_store_rules.specs.Values.{Setting, subject}
use Rattle.ss_store_rules.specs.Locals.{everywhere, is_default, reads_only}
use Rattle.ss_store_rules.specs.Types.{is_bool, is_reference, has_class, type_of}
use Rattle.ss_store_rules.specs.Typed.{is_invariant}
use Rattle.ss_store_rules.specs.Admissible.{invariants, AreAdmissible}
use Rattle.ss_logic.specs.Values.{Heap, Value, store, Structure}
use Rattle.ss_logic.specs.Terms.{Term, is_well_sorted, value_of}
use Rattle.ss_logic.specs.Objects.{objects_of}
use Rattle.ss_logic.specs.Express.{Choice, choices, Context, local_meant}
use Rattle.ss_logic_means.specs.Means.{standing, Denotes}

-- the setting of a run whose stores now and at the entry are those that these of the structure table
abbrev pub setting_of : Structure → Context → Heap → Heap → List ObjectValue → Setting
setting_of m c now entry locals = record {
  classes = c.classes;
  store = objects_of c.classes m.table now;
  entry = objects_of c.classes m.table entry;
  inside_old = c.inside_old;
  locals = locals;
}

-- At these values of the bound names, and at any more of them after, the terms of the context stand for these stores and locals.
pub record Stands (m : Structure) (c : Context) (current former : Heap) (values : List ObjectValue) (e : List Value) : Type 0 where
  pub now : (vs : List Value) → value_of c.classes m (e ++ vs) c.now ≡ store current
  pub entry : (vs : List Value) → value_of c.classes m (e ++ vs) c.entry ≡ store former
  pub count : length c.locals ≡ length values
  pub locals : (x : ℕ) (v : ObjectValue) → slice_get values x ≡ Some v → (vs : List Value) → Denotes c.classes m (e ++ vs) (local_meant c x) (standing v)

-- The same, where these locals alone are asked: what the others mean may be anything.
pub record StandsAmong (among : ℕ → Bool) (m : Structure) (c : Context) (current former : Heap) (values : List ObjectValue) (e : List Value) : Type 0 where
  pub now : (vs : List Value) → value_of c.classes m (e ++ vs) c.now ≡ store current
  pub entry : (vs : List Value) → value_of c.classes m (e ++ vs) c.entry ≡ store former
  pub count : length c.locals ≡ length values
  pub locals : (x : ℕ) (v : ObjectValue) → among x ≡ true → slice_get values x ≡ Some v → (vs : List Value) → Denotes c.classes m (e ++ vs) (local_meant c x) (standing v)

-- terms without bound names, one for each value, which it has
abbrev pub HaveValues : List ClassTree → Structure → List Term → List ObjectValue → Type 0
HaveValues cs m [] [] = Unit {0}
HaveValues cs m [] (v ∷ vs) = ⊥
HaveValues cs m (t ∷ ts) [] = ⊥
HaveValues cs m (t ∷ ts) (v ∷ vs) = (is_well_sorted cs [] t ≡ true) × (value_of cs m [] t ≡ standing v) × HaveValues cs m ts vs

-- a term without bound names for this store
abbrev pub IsStoreTerm : List ClassTree → Structure → Term → Heap → Type 0
IsStoreTerm cs m t h = (is_well_sorted cs [] t ≡ true) × (value_of cs m [] t ≡ store h)

-- The terms of these choices have their values whatever more bound names stand after.
abbrev pub Stay : List ClassTree → Structure → List Value → List Choice → Type 0
Stay cs m e [] = Unit {0}
Stay cs m e (x ∷ xs) = ((vs : List Value) → value_of cs m (e ++ vs) x.value ≡ value_of cs m e x.value) × Stay cs m e xs

-- A default condition speaks of a local of a reference type. Defaults up to a class are asked of an object of that class or below. Where
-- `this` is to be apart, the condition speaks of `this` too.
abbrev pub has_subject : List ClassTree → List Ty → DefaultTree → Bool
has_subject cs tys (Defaults t) = has_class (λ c. below cs c t) (slice_get tys 0)
has_subject cs tys (Captured x apart) = is_reference (slice_get tys x) && (not apart || is_reference (slice_get tys 0))
has_subject cs tys d = is_reference (slice_get tys (subject d))

-- no part of it is a default condition: those stand alone
abbrev pub has_no_default : ExprTree → Bool
has_no_default x = everywhere (λ y. not (is_default y)) x

-- what stands as a condition of a contract: a default condition of a local, or a truth value without one
abbrev pub is_stated : List ClassTree → List Ty → ExprTree → Bool
is_stated cs tys (DefaultExpr p d) = has_subject cs tys d
is_stated cs tys x = has_no_default x && is_bool (type_of cs tys x)

-- a default condition speaks of these locals alone: of its own, and of `this` where that is to be apart
abbrev pub speaks_of : (ℕ → Bool) → DefaultTree → Bool
speaks_of among (Captured x apart) = among x && (not apart || among 0)
speaks_of among d = among (subject d)

-- a condition speaks of these locals alone
abbrev pub speaks_only : (ℕ → Bool) → ExprTree → Bool
speaks_only among (DefaultExpr p d) = speaks_of among d
speaks_only among x = reads_only among x

-- the terms of the local of which a default condition speaks stay what they are
abbrev pub Settled : Structure → List Value → Context → ExprTree → Type 0
Settled m e c (DefaultExpr p d) = Stay c.classes m e (choices (local_meant c (subject d)))
Settled m e c x = Unit {0}

-- The invariants of each class are truth values over `this`, and admissible there.
pub record AreInvariants (cs : List ClassTree) : Type 0 where
  pub typed : (t : ℕ) → list_all (is_invariant cs t) (invariants cs t) ≡ true
  pub admissible : AreAdmissible cs
