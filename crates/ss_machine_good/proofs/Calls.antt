-- The arguments of calls are good where they fit the parameters.
use Rattle.std.proofs.Common.{◌≡◌, ℕ, zero, suc, List, [], ◌∷◌, length, Bool, true, false, not, ◌&&◌, Some, Ok, refl, sym, ◌∙◌, ap, subst, arith}
use Rattle.std.specs.Prelude.{slice_get, Result}
use Rattle.std.specs.List.{list_all}
use Rattle.std.proofs.lemmas.Bool.{false≢true, true≢false, and_parts}
use Rattle.ss_core.specs.declared.names.Ty.{Ty}
use Rattle.ss_core.specs.declared.names.Ty.TheVariants as ty
use Rattle.ss_core.specs.Tree.{ExprTree, BodyTree}
use Rattle.ss_core.specs.Chain.{below}
use Rattle.ss_core.proofs.Chains.{sub-below}
use Rattle.ss_store_rules.specs.declared.Value.{Value}
use Rattle.ss_store_rules.specs.declared.Value.TheVariants as value
use Rattle.ss_store_rules.specs.declared.Undefined.{Undefined}
use Rattle.ss_store_rules.specs.Store.{Object}
use Rattle.ss_store_rules.specs.Values.{Setting, and_then, value_of}
use Rattle.ss_store_rules.specs.Types.{code_type}
use Rattle.ss_store_rules.specs.Locals.{types_of, argument_types, local_types}
use Rattle.ss_store_rules.specs.Typed.{has_type_in, have_types_in}
use Rattle.ss_store_rules.specs.NonNull.{is_this_object}
use Rattle.ss_store_rules.specs.Good.{has_type, IsReady}
use Rattle.ss_store_rules.specs.States.{is_this_of_constructor}
use Rattle.ss_store_rules.proofs.Objects.{same_object}
use Rattle.ss_machine_rules.specs.Steps.{values_of}
use Rattle.ss_machine_typed.specs.Older.{IsOlder}
use Rattle.ss_machine_typed.specs.Settings.{IsGoodSetting, AreGoodArguments}
use Rattle.ss_machine_typed.proofs.Older.{has_type-older, ready-older}
use Rattle.ss_machine_typed.proofs.Outcomes.{and_then_ok}
use Rattle.ss_machine_typed.proofs.Ready.{value_ready}
use Rattle.ss_machine_good.proofs.Steps.{value_fits, code_typed, fitting_some}
use Rattle.ss_store_rules.proofs.Owners.{not_true}

abbrev values_ok : List Value → Result (List Value) Undefined
values_ok vs = Ok vs

values_same : (vs ws : List Value) → values_ok vs ≡ values_ok ws → vs ≡ ws
values_same vs ws e = cc

-- the values of arguments, one by one
record AreFitting (x : Setting) (ts : List Ty) (vs : List Value) : Type 0 where
  count : length vs ≡ length ts
  types : (i : ℕ) (t : Ty) (v : Value) → slice_get ts i ≡ Some t → slice_get vs i ≡ Some v → has_type x.classes x.store t v ≡ true
  ready : (i : ℕ) (v : Value) → slice_get vs i ≡ Some v → IsReady x.store v

nothing_fits : (x : Setting) → AreFitting x [] []
nothing_fits x = record { count = refl; types = λ i t v et ev. cc; ready = λ i v ev. cc }

more_fit : (x : Setting) (t : Ty) (ts : List Ty) (v : Value) (vs : List Value) → has_type x.classes x.store t v ≡ true → IsReady x.store v → AreFitting x ts vs → AreFitting x (t ∷ ts) (v ∷ vs)
more_fit x t ts v vs typed ready rest = record { count = ap suc rest.count; types = types_; ready = ready_ }
  where
    types_ : (i : ℕ) (u : Ty) (w : Value) → slice_get (t ∷ ts) i ≡ Some u → slice_get (v ∷ vs) i ≡ Some w → has_type x.classes x.store u w ≡ true
    types_ zero u w et ew = let a : t ≡ u = cc in let b : v ≡ w = cc in rw (← a, ← b) typed
    types_ (suc i) u w et ew = rest.types i u w et ew

    ready_ : (i : ℕ) (w : Value) → slice_get (v ∷ vs) i ≡ Some w → IsReady x.store w
    ready_ zero w ew = let b : v ≡ w = cc in subst (IsReady x.store) b ready
    ready_ (suc i) w ew = rest.ready i w ew

module _ (x : Setting) (b : BodyTree) (constructs : Bool) (good : IsGoodSetting x (local_types b) constructs) where
  pub one_ready : (e : ExprTree) (t : Ty) (v : Value) → has_type_in x.classes b e t ≡ true → (constructs && is_this_object e) ≡ false → value_of e x ≡ Ok v → IsReady x.store v
  one_ready e t v h apart ev =
      let a = fitting_some x.classes (code_type x.classes b e) t h in
      value_ready e x (local_types b) constructs good a.0 v apart (code_typed x.classes b e a.0 a.1) ev

  fitting : (es : List ExprTree) (ts : List Ty) (vs : List Value) → have_types_in x.classes b es ts ≡ true → list_all (λ e. not (constructs && is_this_object e)) es ≡ true → values_of es x ≡ Ok vs → AreFitting x ts vs
  fitting [] [] vs typed apart h = subst (AreFitting x []) (values_same [] vs h) (nothing_fits x)
  fitting [] (t ∷ ts) vs typed apart h = absurd (false≢true typed)
  fitting (e ∷ es) [] vs typed apart h = absurd (false≢true typed)
  fitting (e ∷ es) (t ∷ ts) vs typed apart h =
      let p = and_parts (has_type_in x.classes b e t) (have_types_in x.classes b es ts) typed in
      let q = and_parts (not (constructs && is_this_object e)) (list_all (λ d. not (constructs && is_this_object d)) es) apart in
      let v = and_then_ok (value_of e x) (λ w. and_then (values_of es x) (λ ws. Ok (w ∷ ws))) vs h in
      let rest = and_then_ok (values_of es x) (λ ws. Ok (v.0 ∷ ws)) vs v.2 in
      subst (AreFitting x (t ∷ ts)) (values_same (v.0 ∷ rest.0) vs rest.2)
      (more_fit x t ts v.0 rest.0 (value_fits x b constructs good e t v.0 p.0 v.1) (one_ready e t v.0 p.0 (not_true (constructs && is_this_object e) q.0) v.1) (fitting es ts rest.0 p.1 q.1 rest.1))

  static_types : (callee : BodyTree) → callee.flags.is_static ≡ true → argument_types callee ≡ types_of callee.params
  static_types callee h = rw h refl

  instance_types : (callee : BodyTree) → callee.flags.is_static ≡ false → argument_types callee ≡ ty.Ref (record { 0 = callee.class }) true ∷ types_of callee.params
  instance_types callee h = rw h refl

  -- those of a static method
  pub static_arguments : (callee : BodyTree) → callee.flags.is_static ≡ true → (es : List ExprTree) (vs : List Value) → have_types_in x.classes b es (types_of callee.params) ≡ true → list_all (λ e. not (constructs && is_this_object e)) es ≡ true → values_of es x ≡ Ok vs →
      AreGoodArguments x.classes x.store callee vs
  static_arguments callee static es vs typed apart h =
      let f = fitting es (types_of callee.params) vs typed apart h in
      let are = static_types callee static in
      record {
        count = f.count ∙ ap length (sym are);
        types = λ i t v et ev. f.types i t v (subst (λ ts. slice_get ts i ≡ Some t) are et) ev;
        ready = λ i v no ev. f.ready i v ev;
      }

  -- those of a body with `this`, in a store that is the same or a later one
  pub instance_arguments : (callee : BodyTree) → callee.flags.is_static ≡ false → (s : List Object) → IsOlder x.store s → (o : ℕ) (y : Object) → slice_get s o ≡ Some y → below x.classes y.class callee.class ≡ true → (callee.flags.ctor ≡ false → y.ready ≡ true) →
      (es : List ExprTree) (vs : List Value) → have_types_in x.classes b es (types_of callee.params) ≡ true → list_all (λ e. not (constructs && is_this_object e)) es ≡ true → values_of es x ≡ Ok vs → AreGoodArguments x.classes s callee (value.Obj o ∷ vs)
  instance_arguments callee instance_ s older o y there of whole es vs typed apart h =
      let f = fitting es (types_of callee.params) vs typed apart h in
      let are = instance_types callee instance_ in
      record {
        count = ap suc f.count ∙ ap length (sym are);
        types = λ i t v et ev. types_ f i t v (subst (λ ts. slice_get ts i ≡ Some t) are et) ev;
        ready = λ i v no ev. ready_ f i v no ev;
      }
    where
      this_typed : has_type x.classes s (ty.Ref (record { 0 = callee.class }) true) (value.Obj o) ≡ true
      this_typed = rw there (sub-below x.classes good.beside y.class callee.class ∙ of)

      types_ : AreFitting x (types_of callee.params) vs → (i : ℕ) (t : Ty) (v : Value) → slice_get (ty.Ref (record { 0 = callee.class }) true ∷ types_of callee.params) i ≡ Some t → slice_get (value.Obj o ∷ vs) i ≡ Some v → has_type x.classes s t v ≡ true
      types_ f zero t v et ev = let a : ty.Ref (record { 0 = callee.class }) true ≡ t = cc in let d : value.Obj o ≡ v = cc in rw (← a, ← d) this_typed
      types_ f (suc i) t v et ev = has_type-older x.classes x.store s older t v (f.types i t v et ev)

      no_constructor : (d : Bool) → (d && true) ≡ false → d ≡ false
      no_constructor true e = absurd (true≢false e)
      no_constructor false e = refl

      this_ready : callee.flags.ctor ≡ false → IsReady s (value.Obj o)
      this_ready plain q z is ez = let same : o ≡ q = cc in let at : slice_get s q ≡ Some y = subst (λ n. slice_get s n ≡ Some y) same there in subst (λ (n : Object). n.ready ≡ true) (same_object s q y z at ez) (whole plain)

      there_typed : (ts : List Ty) (ws : List Value) (i : ℕ) (v : Value) → length ws ≡ length ts → slice_get ws i ≡ Some v → (t : Ty) × (slice_get ts i ≡ Some t)
      there_typed [] [] i v n e = absurd (let none : ⊥ = cc in none)
      there_typed [] (w ∷ ws) i v n e = absurd (omega (arith, n))
      there_typed (t ∷ ts) [] i v n e = absurd (omega (arith, n))
      there_typed (t ∷ ts) (w ∷ ws) zero v n e = (t, refl)
      there_typed (t ∷ ts) (w ∷ ws) (suc i) v n e = there_typed ts ws i v (omega (arith, n)) e

      ready_ : AreFitting x (types_of callee.params) vs → (i : ℕ) (v : Value) → is_this_of_constructor callee i ≡ false → slice_get (value.Obj o ∷ vs) i ≡ Some v → IsReady s v
      ready_ f zero v none ev = let d : value.Obj o ≡ v = cc in subst (IsReady s) d (this_ready (no_constructor callee.flags.ctor none))
      ready_ f (suc i) v none ev =
          let t = there_typed (types_of callee.params) vs i v f.count ev in
          ready-older x.classes x.store s older t.0 v (f.types i t.0 v t.1 ev) (f.ready i v ev)
