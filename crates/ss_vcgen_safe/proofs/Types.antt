-- A value of a type: what is assumed of a term for it is true.
use Rattle.std.proofs.Common.{◌≡◌, ℕ, List, [], ◌∷◌, Bool, true, false, refl, sym, subst}
use Rattle.std.specs.Prelude.{if◌then◌else◌, slice_get}
use Rattle.std.proofs.lemmas.Bool.{false≢true}
use Rattle.ss_core.specs.declared.names.Ty.{Ty}
use Rattle.ss_core.specs.declared.names.Ty.TheVariants as ty
use Rattle.ss_core.specs.Tree.{ClassTree}
use Rattle.ss_core.specs.Chain.{sub}
use Rattle.ss_store_rules.specs.declared.Value.{Value as ObjectValue}
use Rattle.ss_store_rules.specs.declared.Value.TheVariants as value
use Rattle.ss_store_rules.specs.Good.{has_type, is_of_class, is_non_null, IsReady}
use Rattle.ss_machine_good.specs.Known.{IsNotNull}
use Rattle.ss_logic.specs.Values.{Heap, Structure, thing, reference, store, as_thing, as_store, is_allocated}
use Rattle.ss_logic.specs.Terms.{Term, value_of}
use Rattle.ss_logic.specs.Formulas.{True, Hold, AllTrue, formulas_from}
use Rattle.ss_logic.specs.Objects.{objects_of, object_in}
use Rattle.ss_logic.specs.Shapes.{ready}
use Rattle.ss_logic.specs.Express.{and_of}
use Rattle.ss_logic_means.specs.Means.{standing}
use Rattle.ss_logic_means.proofs.Operations.{fits_means}
use Rattle.ss_logic_means.proofs.Typed.{class_held}
use Rattle.ss_logic.proofs.Tabled.{there}
use Rattle.ss_vcgen_heaps.specs.Contracts.{is_object, is_of_type}

module _ (cs : List ClassTree) (m : Structure) (s t : Term) (h : Heap) (s_is : value_of cs m [] s ≡ store h) where
  -- ready where that is asked
  ready_true : (asks : Bool) (o : ℕ) → value_of cs m [] t ≡ thing (reference o) → (asks ≡ true → (h.at (reference o)).ready ≡ true) → AllTrue cs m [] (formulas_from (if asks then ready s t ∷ [] else []))
  ready_true true o t_is is_ready = (subst (λ z. ((as_store z).at (as_thing (value_of cs m [] t))).ready ≡ true) (sym s_is) (subst (λ z. (h.at (as_thing z)).ready ≡ true) (sym t_is) (is_ready refl)), tt)
  ready_true false o t_is is_ready = tt

  object_true : (asks : Bool) (u o : ℕ) → value_of cs m [] t ≡ thing (reference o) → is_of_class cs u (slice_get (objects_of cs m.table h) o) ≡ true → (asks ≡ true → IsReady (objects_of cs m.table h) (value.Obj o)) → True cs m [] (and_of (is_object asks s u t))
  object_true asks u o t_is of is_ready =
      let held = class_held cs m.table h u o of in (
        subst (λ z. sub cs (m.table.class_of (as_thing z)) u ≡ true) (sym t_is) held.1,
        (
          subst (λ z. is_allocated (as_store z) (as_thing (value_of cs m [] t)) ≡ true) (sym s_is) (subst (λ z. is_allocated h (as_thing z) ≡ true) (sym t_is) held.0),
          ready_true asks o t_is (λ asked. is_ready asked o (object_in cs m.table h o) refl (there cs m.table h o held.0)),
        ),
      )

  -- What is assumed of a term for a value of the type is true. It isn't null where the type is never null.
  pub type_true : (asks : Bool) (u : Ty) (v : ObjectValue) → value_of cs m [] t ≡ standing v → has_type cs (objects_of cs m.table h) u v ≡ true → (asks ≡ true → IsReady (objects_of cs m.table h) v) → (is_non_null u ≡ true → IsNotNull v) → Hold cs m (is_of_type asks s u t)
  type_true asks ty.Int (value.Int n) t_is of is_ready not_null = ((fits_means cs m [] t n t_is).1 of, tt)
  type_true asks ty.Int (value.Bool b) t_is of is_ready not_null = absurd (false≢true of)
  type_true asks ty.Int (value.Obj o) t_is of is_ready not_null = absurd (false≢true of)
  type_true asks ty.Int value.Null t_is of is_ready not_null = absurd (false≢true of)
  type_true asks ty.Bool v t_is of is_ready not_null = tt
  type_true asks ty.Null (value.Int n) t_is of is_ready not_null = absurd (false≢true of)
  type_true asks ty.Null (value.Bool b) t_is of is_ready not_null = absurd (false≢true of)
  type_true asks ty.Null (value.Obj o) t_is of is_ready not_null = absurd (false≢true of)
  type_true asks ty.Null value.Null t_is of is_ready not_null = (t_is, tt)
  type_true asks (ty.Ref u non_null) (value.Int n) t_is of is_ready not_null = absurd (false≢true of)
  type_true asks (ty.Ref u non_null) (value.Bool b) t_is of is_ready not_null = absurd (false≢true of)
  type_true asks (ty.Ref u true) value.Null t_is of is_ready not_null = absurd (not_null refl refl)
  type_true asks (ty.Ref u false) value.Null t_is of is_ready not_null = (λ none. none.0 t_is, tt)
  type_true asks (ty.Ref u true) (value.Obj o) t_is of is_ready not_null = ((λ e. let no : ⊥ = cc in absurd no, object_true asks u.0 o t_is of is_ready), tt)
  type_true asks (ty.Ref u false) (value.Obj o) t_is of is_ready not_null = (λ none. none.1.0 (object_true asks u.0 o t_is of is_ready), tt)
