-- The arguments of calls are passed: those of a good frame, to the body that is named and to the one that is entered.
use Rattle.std.proofs.Common.{◌≡◌, ℕ, List, ◌∷◌, length, true, false, not, ◌==◌, ◌&&◌, Option, Some, None, Ok, refl, sym, ◌∙◌, ap, subst}
use Rattle.std.specs.Prelude.{slice_get, option_map}
use Rattle.std.specs.List.{list_all}
use Rattle.std.proofs.lemmas.Bool.{true≢false, and_parts, or_right, eqb-true}
use Rattle.ss_core.specs.declared.names.Place.{Place}
use Rattle.ss_core.specs.Tree.{ClassTree, ExprTree, Dispatched, Static, Base, BaseConstructor, NewStmt, CallStmt, BodyTree, CoreTree}
use Rattle.ss_core.specs.Chain.{is_declared, sub, above, below, NoAlso}
use Rattle.ss_core.proofs.Chains.{below_self, sub-below, below_up, below_trans}
use Rattle.ss_store_rules.specs.declared.Value.{Value}
use Rattle.ss_store_rules.specs.declared.Value.TheVariants as value
use Rattle.ss_store_rules.specs.Store.{Object}
use Rattle.ss_store_rules.specs.Values.{value_of}
use Rattle.ss_store_rules.specs.Changes.{new_object, new_object_of}
use Rattle.ss_store_rules.specs.Locals.{types_of}
use Rattle.ss_store_rules.specs.Types.{class_type, code_type}
use Rattle.ss_store_rules.specs.Typed.{is_instance_method, is_constructor_of, body_at, constructor_of, method_at, stands_in_table, have_types_in, fits_kept, is_call_of}
use Rattle.ss_store_rules.specs.NonNull.{is_this_object, may_enter, arguments_may_stand}
use Rattle.ss_store_rules.specs.Formed.{IsFormed}
use Rattle.ss_store_rules.proofs.Arrays.{declared_not_object}
use Rattle.ss_store_rules.proofs.Objects.{new_get}
use Rattle.ss_store_rules.proofs.Owners.{not_true}
use Rattle.ss_machine_rules.specs.Frame.{this_of}
use Rattle.ss_machine_rules.specs.States.{Due, Statement, Frame, scene}
use Rattle.ss_machine_rules.specs.Steps.{values_of}
use Rattle.ss_machine_typed.specs.Settings.{AreGoodArguments}
use Rattle.ss_machine_typed.proofs.Older.{older_self, older_new_object}
use Rattle.ss_machine_typed.proofs.Sound.{class_of_type, object_typed, value_sound}
use Rattle.ss_machine_typed.proofs.Ready.{value_ready}
use Rattle.ss_store_rules.specs.Locals.{local_types}
use Rattle.ss_machine_good.proofs.Dispatch.{dispatch_finds}
use Rattle.ss_machine_good.proofs.Steps.{code_typed}
use Rattle.ss_machine_good.proofs.Calls as arguments
use Rattle.ss_machine_good.proofs.Frames.{frame_setting}
use Rattle.ss_machine_good.proofs.Start.{static_arguments}
use Rattle.ss_machine_good.proofs.Bases.{where_some}
use Rattle.ss_machine_good.specs.LaterFrames.{IsGoodFrame}
use Rattle.ss_machine_good.proofs.Behind.{constructor_instance}
use Rattle.ss_machine_good.proofs.Values.{before_known, may_pass, base_setting, reads_evaluated, arguments_not_null}
use Rattle.ss_machine_good.proofs.Statements.{typed_here}
use Rattle.ss_machine_good.proofs.Entering.{AreNotNullArguments, arguments_assigned}
use Rattle.ss_machine_good.proofs.CallsOfRuns as calls
use Rattle.ss_machine_good.proofs.CallsOfRuns.{with_this, call_parts, this_there, this_object, all_plain, table_class}
use Rattle.ss_machine_good.proofs.Constructions.{found_passes}
use Rattle.ss_vcgen_heaps.specs.Contracts.{seen}
use Rattle.ss_sound_outcomes.specs.Points.{ArePassed}
use Rattle.ss_sound_runs.specs.Passed.{IsPassed, IsDispatched}

passed_with : (c : CoreTree) (b : BodyTree) (s : List Object) (vs : List Value) → AreGoodArguments c.classes s b vs → AreNotNullArguments b vs → ArePassed c b s vs
passed_with c b s vs good not_null = record { good = good; assigned = arguments_assigned c b s vs good.count not_null }

-- a caller sees the same arguments
pub seen_passed : (c : CoreTree) (b : BodyTree) (s : List Object) (vs : List Value) → ArePassed c b s vs → ArePassed c (seen b) s vs
seen_passed c b s vs is = record { good = record { count = is.good.count; types = is.good.types; ready = is.good.ready }; assigned = is.assigned }

sub_is_below : (cs : List ClassTree) → NoAlso cs → (d t : ℕ) → sub cs d t ≡ true → below cs d t ≡ true
sub_is_below cs beside d t h = sym (sub-below cs beside d t) ∙ h

-- the class above that of a body is above it
one_above : (c : CoreTree) (f : Frame) (s : List Object) → IsGoodFrame c f s → below c.classes f.body.class (above c.classes f.body.class) ≡ true
one_above c f s is =
    below_up c.classes is.sound.chain f.body.class (above c.classes f.body.class) (declared_not_object c.classes f.body.class is.formed.class) ∙ or_right _ _ (below_self c.classes (above c.classes f.body.class))

module _ (c : CoreTree) (formed : IsFormed c) (f : Frame) (s : List Object) (ds : List Due) (is : IsGoodFrame c f s) where
  pub static_passed : (p : Place) (x : Option ℕ) (n : ℕ) (es : List ExprTree) (vs : List Value) → f.left ≡ Statement (CallStmt p x (Static n) es) ∷ ds → values_of es (scene c f s) ≡ Ok vs → IsPassed c f s (Static n) (body_at c n) vs
  static_passed p x n es vs at h =
      let st = CallStmt p x (Static n) es in
      let k = calls.called c f s p x (Static n) es ds at is in
      let b = k.body in
      let w = where_some (λ (z : BodyTree). z.flags.is_static) (body_at c n) b k.is_callee in
      let pass = may_pass c f s st ds refl at is in
      let good = arguments.static_arguments (scene c f s) f.body pass.constructs pass.setting b w.1 es vs k.types pass.apart h in
      record {
        body = b;
        is_named = k.is_callee;
        is_entered = w.0;
        passed = passed_with c b s vs good (λ i t v et ev nn. k.not_null vs h i t v (subst (λ ts. slice_get ts i ≡ Some t) (static_arguments b w.1) et) ev nn);
      }

  pub dispatched_passed : (p : Place) (x : Option ℕ) (e : ExprTree) (t m : ℕ) (es : List ExprTree) (o : ℕ) (vs : List Value) → f.left ≡ Statement (CallStmt p x (Dispatched e t m) es) ∷ ds →
      value_of e (scene c f s) ≡ Ok (value.Obj o) → values_of es (scene c f s) ≡ Ok vs → IsDispatched c f s e t m o vs
  dispatched_passed p x e t m es o vs at eo h =
      let st = CallStmt p x (Dispatched e t m) es in
      let k = calls.called c f s p x (Dispatched e t m) es ds at is in
      let from = k.body in
      let w = where_some is_instance_method (method_at c t m) from k.is_callee in
      let u = class_of_type (λ z. z == t) (code_type c.classes f.body e) k.receiver in
      let e_typed = code_typed c.classes f.body e _ u.2 in
      let o_typed = value_sound e (scene c f s) (local_types f.body) f.body.flags.ctor (frame_setting c f s is.sound) _ (value.Obj o) e_typed eo in
      let y = object_typed c.classes s u.0 u.1 o o_typed in
      let down : below c.classes y.0.class t ≡ true = subst (λ z. below c.classes y.0.class z ≡ true) (eqb-true u.0 t u.3) (sub_is_below c.classes is.sound.beside y.0.class u.0 y.2) in
      let found = dispatch_finds c is.sound.chain formed.tables t m from w.0 y.0.class down in
      let own = dispatch_finds c is.sound.chain formed.tables t m from w.0 t (below_self c.classes t) in
      let own_is : own.to ≡ from = let both : Some own.to ≡ Some from = sym own.at ∙ w.0 in cc in
      let from_class : below c.classes t from.class ≡ true = subst (λ (z : BodyTree). below c.classes t z.class ≡ true) own_is own.class in
      let q = and_parts (not from.flags.is_static) (not from.flags.ctor) w.1 in
      let from_instance = not_true from.flags.is_static q.0 in
      let instance_ : found.to.flags.is_static ≡ false = found.static ∙ from_instance in
      let pass = may_pass c f s st ds refl at is in
      let apart = and_parts (not (pass.constructs && is_this_object e)) (list_all (λ z. not (pass.constructs && is_this_object z)) es) pass.apart in
      let y_ready : y.0.ready ≡ true = value_ready e (scene c f s) (local_types f.body) pass.constructs pass.setting _ (value.Obj o) (not_true (pass.constructs && is_this_object e) apart.0) e_typed eo o y.0 refl y.1 in
      let to_types : have_types_in c.classes f.body es (types_of found.to.params) ≡ true = subst (λ ts. have_types_in c.classes f.body es ts ≡ true) {x = types_of from.params} {y = types_of found.to.params} (sym found.params) k.types in
      let from_good = arguments.instance_arguments (scene c f s) f.body pass.constructs pass.setting from from_instance s (older_self s) o y.0 y.1 (below_trans c.classes is.sound.chain y.0.class t from.class down from_class) (λ plain. y_ready) es vs k.types apart.1 h in
      let to_good = arguments.instance_arguments (scene c f s) f.body pass.constructs pass.setting found.to instance_ s (older_self s) o y.0 y.1 found.class (λ plain. y_ready) es vs to_types apart.1 h in
      let from_passed = passed_with c from s (value.Obj o ∷ vs) from_good (with_this from vs o from_instance (k.not_null vs h)) in
      record {
        object = y.0;
        there = y.1;
        is_object = rw (y.1) refl;
        class = down;
        from = from;
        names = w.0;
        instance = w.1;
        is_named = ap (option_map seen) k.is_callee;
        to = found.to;
        enters = found.at;
        passed_from = from_passed;
        passed_seen = seen_passed c from s (value.Obj o ∷ vs) from_passed;
        passed_to = passed_with c found.to s (value.Obj o ∷ vs) to_good
            (with_this found.to vs o instance_ (λ i u2 v eu ev nn. k.not_null vs h i u2 v (subst (λ ts. slice_get ts i ≡ Some u2) {x = types_of found.to.params} {y = types_of from.params} found.params eu) ev nn));
      }

  pub base_passed : (p : Place) (x : Option ℕ) (n : ℕ) (es : List ExprTree) (vs : List Value) → f.left ≡ Statement (CallStmt p x (Base n) es) ∷ ds → values_of es (scene c f s) ≡ Ok vs → IsPassed c f s (Base n) (body_at c n) (this_of f.locals ∷ vs)
  base_passed p x n es vs at h =
      let st = CallStmt p x (Base n) es in
      let k = calls.called c f s p x (Base n) es ds at is in
      let b = k.body in
      let w = where_some (λ (z : BodyTree). is_instance_method z && not f.body.flags.is_static && stands_in_table c (above c.classes f.body.class) n) (body_at c n) b k.is_callee in
      let w1 = and_parts (is_instance_method b && not f.body.flags.is_static) (stands_in_table c (above c.classes f.body.class) n) w.1 in
      let w2 = and_parts (is_instance_method b) (not f.body.flags.is_static) w1.0 in
      let q = and_parts (not b.flags.is_static) (not b.flags.ctor) w2.0 in
      let setting_ = base_setting c f s st ds refl at is refl in
      let here = not_true f.body.flags.is_static w2.1 in
      let this = is.instance here in
      let y = this_object c f s is here this.0 this.1 in
      let up = table_class c formed.tables (above c.classes f.body.class) n b w.0 w1.1 in
      let down = below_trans c.classes is.sound.chain y.0.class (above c.classes f.body.class) b.class (below_trans c.classes is.sound.chain y.0.class f.body.class (above c.classes f.body.class) y.2 (one_above c f s is)) up in
      let y_ready : y.0.ready ≡ true = setting_.ready 0 (value.Obj this.0) refl (this_there f this.0 this.1) this.0 y.0 refl y.1 in
      let instance_ = not_true b.flags.is_static q.0 in
      let good = arguments.instance_arguments (scene c f s) f.body false setting_ b instance_ s (older_self s) this.0 y.0 y.1 down (λ plain. y_ready) es vs k.types (all_plain es) h in
      record {
        body = b;
        is_named = k.is_callee;
        is_entered = w.0;
        passed = subst (λ u. ArePassed c b s (u ∷ vs)) (sym this.1) (passed_with c b s (value.Obj this.0 ∷ vs) good (with_this b vs this.0 instance_ (k.not_null vs h)));
      }

  pub constructor_passed : (p : Place) (x : Option ℕ) (n : ℕ) (es : List ExprTree) (vs : List Value) → f.left ≡ Statement (CallStmt p x (BaseConstructor n) es) ∷ ds → values_of es (scene c f s) ≡ Ok vs →
      IsPassed c f s (BaseConstructor n) (body_at c n) (this_of f.locals ∷ vs)
  constructor_passed p x n es vs at h =
      let st = CallStmt p x (BaseConstructor n) es in
      let k = calls.called c f s p x (BaseConstructor n) es ds at is in
      let b = k.body in
      let w = where_some (λ (z : BodyTree). is_constructor_of (above c.classes f.body.class) z && f.body.flags.ctor) (body_at c n) b k.is_callee in
      let q = and_parts (is_constructor_of (above c.classes f.body.class) b) f.body.flags.ctor w.1 in
      let r = and_parts b.flags.ctor (b.class == above c.classes f.body.class) q.0 in
      let class = eqb-true b.class (above c.classes f.body.class) r.1 in
      let fb = formed.bodies n b w.0 in
      let instance_ = constructor_instance b fb.flags r.0 in
      let y = is.constructs q.1 in
      let down : below c.classes y.object.class b.class ≡ true = subst (λ z. below c.classes y.object.class z ≡ true) (sym class) (below_trans c.classes is.sound.chain y.object.class f.body.class (above c.classes f.body.class) y.class (one_above c f s is)) in
      let pass = may_pass c f s st ds refl at is in
      let good = arguments.instance_arguments (scene c f s) f.body pass.constructs pass.setting b instance_ s (older_self s) y.position y.object y.there down (λ plain. absurd (true≢false (sym r.0 ∙ plain))) es vs k.types pass.apart h in
      record {
        body = b;
        is_named = k.is_callee;
        is_entered = w.0;
        passed = subst (λ u. ArePassed c b s (u ∷ vs)) (sym y.this) (passed_with c b s (value.Obj y.position ∷ vs) good (with_this b vs y.position instance_ (k.not_null vs h)));
      }

  pub new_passed : (p : Place) (x : Option ℕ) (t : ℕ) (es : List ExprTree) (vs : List Value) → f.left ≡ Statement (NewStmt p x t es) ∷ ds → values_of es (scene c f s) ≡ Ok vs →
      (b : BodyTree) × (constructor_of c t ≡ Some b) × ((n : ℕ) × (body_at c n ≡ Some b)) × ArePassed c b (new_object_of c.classes s t) (value.Obj (length s) ∷ vs)
  new_passed p x t es vs at h =
      let st = NewStmt p x t es in
      let s1 = new_object_of c.classes s t in
      let o = length s in
      let typed = and_parts (is_declared c.classes t && fits_kept c.classes f.body x (Some (class_type t))) (is_call_of c.classes f.body None es (constructor_of c t)) (typed_here c f s st ds refl at is) in
      let k = call_parts c f.body None es (constructor_of c t) typed.1 in
      let b = k.0 in
      let found = found_passes (is_constructor_of t) c.bodies b k.1 in
      let r = and_parts b.flags.ctor (b.class == t) found.2 in
      let class = eqb-true b.class t r.1 in
      let fb = formed.bodies found.0 b found.1 in
      let instance_ = constructor_instance b fb.flags r.0 in
      let before = before_known c f s st ds refl at is in
      let stands : arguments_may_stand c f.body before.known es (types_of b.params) ≡ true = subst (λ z. may_enter c f.body before.known es z ≡ true) k.1 before.checked in
      let not_null = arguments_not_null c f s st ds refl at is es (types_of b.params) vs (reads_evaluated c f s st ds refl at is) k.2 stands h in
      let pass = may_pass c f s st ds refl at is in
      let object = new_object c.classes t o in
      let there : slice_get s1 o ≡ Some object = new_get s object in
      let down : below c.classes t b.class ≡ true = subst (λ z. below c.classes t z ≡ true) (sym class) (below_self c.classes t) in
      let good = arguments.instance_arguments (scene c f s) f.body pass.constructs pass.setting b instance_ s1 (older_new_object c.classes s t) o object there down (λ plain. absurd (true≢false (sym r.0 ∙ plain))) es vs k.2 pass.apart h in
      (b, k.1, (found.0, found.1), passed_with c b s1 (value.Obj o ∷ vs) good (with_this b vs o instance_ not_null))
