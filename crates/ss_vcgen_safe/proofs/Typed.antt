-- What is assumed at the head of a loop of the types of the locals.
use Rattle.std.proofs.Common.{◌≡◌, ℕ, suc, ◌+◌, List, [], ◌∷◌, Bool, true, false, refl, subst, arith}
use Rattle.std.specs.Prelude.{Option, Some, None, slice_get}
use Rattle.std.proofs.lemmas.Bool.{false≢true}
use Rattle.ss_core.specs.declared.names.Ty.{Ty}
use Rattle.ss_core.specs.declared.names.Ty.TheVariants as ty
use Rattle.ss_core.specs.Tree.{ClassTree}
use Rattle.ss_store_rules.specs.declared.Value.{Value as ObjectValue}
use Rattle.ss_store_rules.specs.declared.Value.TheVariants as value
use Rattle.ss_store_rules.specs.Good.{has_type, is_non_null, IsReady}
use Rattle.ss_machine_good.specs.Known.{IsNotNull}
use Rattle.ss_logic.specs.Values.{Heap, Structure, store}
use Rattle.ss_logic.specs.Terms.{Term, value_of}
use Rattle.ss_logic.specs.Formulas.{True, Hold}
use Rattle.ss_logic.specs.Objects.{objects_of}
use Rattle.ss_logic.specs.Shapes.{null_term, equal, differ}
use Rattle.ss_logic.specs.Express.{or_of}
use Rattle.ss_logic_means.specs.Means.{standing}
use Rattle.ss_vcgen_heaps.specs.Positions.{Walk}
use Rattle.ss_vcgen_heaps.specs.Contracts.{is_of_type}
use Rattle.ss_vcgen_heaps.specs.Obligations.{is_asked_ready, stays_of_type, types_from}
use Rattle.ss_vcgen_safe.proofs.Guards.{hold_more}
use Rattle.ss_vcgen_safe.proofs.Types.{type_true}

module _ (cs : List ClassTree) (m : Structure) (s b n : Term) (h : Heap) (s_is : value_of cs m [] s ≡ store h) where
  not_null_true : (v : ObjectValue) → value_of cs m [] n ≡ standing v → IsNotNull v → True cs m [] (differ n null_term)
  not_null_true (value.Obj o) is some = λ e. let bad : ⊥ = cc in absurd bad
  not_null_true (value.Int i) is some = λ e. let bad : ⊥ = cc in absurd bad
  not_null_true (value.Bool t) is some = λ e. let bad : ⊥ = cc in absurd bad
  not_null_true value.Null is some = absurd (some refl)

  was_null_or : (u : ObjectValue) → value_of cs m [] b ≡ standing u → (IsNotNull u → True cs m [] (differ n null_term)) → True cs m [] (or_of (equal b null_term ∷ differ n null_term ∷ []))
  was_null_or value.Null is f = λ none. none.0 is
  was_null_or (value.Obj o) is f = λ none. none.1.0 (f (λ e. let bad : ⊥ = cc in absurd bad))
  was_null_or (value.Int i) is f = λ none. none.1.0 (f (λ e. let bad : ⊥ = cc in absurd bad))
  was_null_or (value.Bool t) is f = λ none. none.1.0 (f (λ e. let bad : ⊥ = cc in absurd bad))

  -- the value now is of the type, and isn't null where the one before wasn't and the type is never null
  pub stays_true : (asks : Bool) (t : Ty) (u v : ObjectValue) → value_of cs m [] b ≡ standing u → value_of cs m [] n ≡ standing v → has_type cs (objects_of cs m.table h) t v ≡ true → (asks ≡ true → IsReady (objects_of cs m.table h) v) →
      (is_non_null t ≡ true → IsNotNull u → IsNotNull v) → Hold cs m (stays_of_type asks s t b n)
  stays_true asks ty.Int u v b_is n_is of is_ready stays = type_true cs m s n h s_is asks ty.Int v n_is of is_ready (λ e. absurd (false≢true e))
  stays_true asks ty.Bool u v b_is n_is of is_ready stays = type_true cs m s n h s_is asks ty.Bool v n_is of is_ready (λ e. absurd (false≢true e))
  stays_true asks ty.Null u v b_is n_is of is_ready stays = type_true cs m s n h s_is asks ty.Null v n_is of is_ready (λ e. absurd (false≢true e))
  stays_true asks (ty.Ref t false) u v b_is n_is of is_ready stays =
      hold_more cs m (is_of_type asks s (ty.Ref t false) n) [] (type_true cs m s n h s_is asks (ty.Ref t false) v n_is of is_ready (λ e. absurd (false≢true e))) tt
  stays_true asks (ty.Ref t true) u v b_is n_is of is_ready stays =
      hold_more cs m (is_of_type asks s (ty.Ref t false) n) (or_of (equal b null_term ∷ differ n null_term ∷ []) ∷ []) (type_true cs m s n h s_is asks (ty.Ref t false) v n_is of is_ready (λ e. absurd (false≢true e)))
      (was_null_or u b_is (λ some. not_null_true v n_is (stays refl some)), tt)

-- one by one
pub types_true : (w : Walk) (m : Structure) (s : Term) (x : ℕ) (ts : List Ty) (olds news : List (Option Term)) →
    ((i : ℕ) (t : Ty) (b n : Term) → slice_get ts i ≡ Some t → slice_get olds i ≡ Some (Some b) → slice_get news i ≡ Some (Some n) → Hold w.program.classes m (stays_of_type (is_asked_ready w (i + x)) s t b n)) →
    Hold w.program.classes m (types_from w s x ts olds news)
types_true w m s x [] olds news f = tt
types_true w m s x (t ∷ ts) [] news f = tt
types_true w m s x (t ∷ ts) (None ∷ olds) [] f = tt
types_true w m s x (t ∷ ts) (Some b ∷ olds) [] f = tt
types_true w m s x (t ∷ ts) (None ∷ olds) (n ∷ news) f = types_true w m s (x + 1) ts olds news (λ i u c d p q r. subst (λ y. Hold w.program.classes m (stays_of_type (is_asked_ready w y) s u c d)) (omega arith) (f (suc i) u c d p q r))
types_true w m s x (t ∷ ts) (Some b ∷ olds) (None ∷ news) f = types_true w m s (x + 1) ts olds news (λ i u c d p q r. subst (λ y. Hold w.program.classes m (stays_of_type (is_asked_ready w y) s u c d)) (omega arith) (f (suc i) u c d p q r))
types_true w m s x (t ∷ ts) (Some b ∷ olds) (Some n ∷ news) f =
    hold_more w.program.classes m (stays_of_type (is_asked_ready w x) s t b n) (types_from w s (x + 1) ts olds news)
    (subst (λ y. Hold w.program.classes m (stays_of_type (is_asked_ready w y) s t b n)) (omega arith) (f 0 t b n refl refl refl))
    (types_true w m s (x + 1) ts olds news (λ i u c d p q r. subst (λ y. Hold w.program.classes m (stays_of_type (is_asked_ready w y) s u c d)) (omega arith) (f (suc i) u c d p q r)))
