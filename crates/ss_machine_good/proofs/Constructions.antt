-- `new` and `base(..)` enter good frames of constructors, and leave the callers to wait.
use Rattle.std.proofs.Common.{◌≡◌, ℕ, suc, ◌≤◌, List, [], ◌∷◌, length, Bool, true, false, not, ◌==◌, ◌&&◌, ◌||◌, Option, Some, None, Ok, eqb, refl, sym, ◌∙◌, ap, subst, arith, inl, inr, ◌⊎◌, ⊎_elim}
use Rattle.std.specs.Prelude.{slice_get, if◌then◌else◌, find}
use Rattle.std.proofs.lemmas.Bool.{false≢true, true≢false, and_parts, or_cases, or_right, cases_Bool, eqb-true, eq-eqb}
use Rattle.ss_core.specs.declared.names.Place.{Place}
use Rattle.ss_core.specs.Tree.{ExprTree, BaseConstructor, NewStmt, CallStmt, BodyTree, CoreTree}
use Rattle.ss_core.specs.Chain.{is_declared, above, below}
use Rattle.ss_core.proofs.Chains.{below_self, below_up, below_trans}
use Rattle.ss_store_rules.specs.declared.Value.{Value}
use Rattle.ss_store_rules.specs.declared.Value.TheVariants as value
use Rattle.ss_store_rules.specs.Store.{Object}
use Rattle.ss_store_rules.specs.Changes.{field_class, new_object, new_object_of}
use Rattle.ss_store_rules.specs.Locals.{types_of}
use Rattle.ss_store_rules.specs.Types.{class_type}
use Rattle.ss_store_rules.specs.Typed.{is_constructor_of, body_at, constructor_of, callee_of, have_types_in, fits_kept, is_call_of}
use Rattle.ss_store_rules.specs.Good.{IsReady}
use Rattle.ss_store_rules.specs.NonNull.{with_kept, is_non_null_type, result_of, is_field_above, may_enter, arguments_may_stand}
use Rattle.ss_store_rules.specs.Construction.{has_own_fields, is_below_object, is_delayed_constructor, has_delayed_base}
use Rattle.ss_store_rules.specs.Formed.{IsFormed}
use Rattle.ss_store_rules.proofs.Arrays.{declared_not_object}
use Rattle.ss_store_rules.proofs.Levels.{declared_at_level}
use Rattle.ss_store_rules.proofs.Objects.{same_object, new_get}
use Rattle.ss_store_rules.proofs.Owners.{not_true}
use Rattle.ss_machine_rules.specs.Frame.{this_of}
use Rattle.ss_machine_rules.specs.States.{Due, Statement, ToCall, ToNew, Frame, locals_at_entry, frame_at_entry, scene}
use Rattle.ss_machine_rules.specs.Steps as steps
use Rattle.ss_machine_rules.specs.Steps.{values_of}
use Rattle.ss_machine_typed.proofs.Older.{older_self}
use Rattle.ss_machine_good.proofs.Steps.{new_object_good}
use Rattle.ss_machine_good.proofs.Calls as calls
use Rattle.ss_machine_good.proofs.Frames.{frame_setting}
use Rattle.ss_machine_good.specs.Checks.{is_undelayed, makes_ready, fields_asked}
use Rattle.ss_machine_good.proofs.Bases.{IsBase, base_of}
use Rattle.ss_machine_good.specs.Later.{IsLater}
use Rattle.ss_machine_good.specs.LaterFrames.{HasGiven, IsConstructing, IsGoodFrame, entry_size, constructed, IsAnswer, IsWaiting, AreWaiting, IsNewTo, AreNew}
use Rattle.ss_machine_good.proofs.Later.{later_self, later_new_object}
use Rattle.ss_machine_good.proofs.Behind.{constructor_instance, this_kept, later_given, ready_as_before}
use Rattle.ss_machine_good.proofs.Values.{before_known, before_fields, may_pass, reads_evaluated, arguments_not_null}
use Rattle.ss_machine_good.proofs.Statements.{typed_here, given_known, kept_known, if_true}
use Rattle.ss_machine_good.specs.Stacks.{IsGoodStack, GoesGood}
use Rattle.ss_machine_good.proofs.Entering.{entered_good}
use Rattle.ss_machine_good.proofs.Waiting.{older_size, waits}
use Rattle.ss_machine_good.proofs.CallsOfRuns.{constructs_this, enter_good, stacked, with_this, call_parts, called}

-- the first body found passes the test
pub found_passes : {X : Type 0} (p : X → Bool) (xs : List X) (y : X) → find p xs ≡ Some y → (n : ℕ) × (slice_get xs n ≡ Some y) × (p y ≡ true)
found_passes p [] y e = absurd (let none : ⊥ = cc in none)
found_passes p (x ∷ xs) y e = ⊎_elim
    (λ yes. let is : Some x ≡ Some y = rw yes at e in let same : x ≡ y = cc in (0, is, subst (λ z. p z ≡ true) same yes))
    (λ other. let is : find p xs ≡ Some y = rw other at e in let r = found_passes p xs y is in (suc r.0, r.1, r.2))
    (cases_Bool (p x))

-- an object at the end of the store is new to the frames that wait
end_is_new : (c : CoreTree) (s : List Object) (g : Frame) (fs : List Frame) → AreWaiting c s g fs → IsNewTo (value.Obj (length s)) fs
end_is_new c s g [] are = tt
end_is_new c s g (f ∷ fs) are = (λ o e. let same : length s ≡ o = cc in below_end f.body.flags.ctor (length f.entry) o (subst (λ n. length f.entry ≤ n) same are.0.size), end_is_new c s f fs are.1)
  where
    below_end : (k : Bool) (n o : ℕ) → n ≤ o → (if k then 0 else n) ≤ o
    below_end true n o l = omega arith
    below_end false n o l = l

pub low_size : (f : Frame) (n : ℕ) → length f.entry ≤ n → entry_size f ≤ n
low_size f n l = here f.body.flags.ctor
  where
    here : (k : Bool) → (if k then 0 else length f.entry) ≤ n
    here true = omega arith
    here false = l

module _ (c : CoreTree) (formed : IsFormed c) (f : Frame) (s : List Object) (ds : List Due) (fs : List Frame) (is : IsGoodFrame c f s) (waiting : AreWaiting c s f fs) (new : AreNew (f ∷ fs)) where
  -- ---- `new`

  pub new_stack : (p : Place) (x : Option ℕ) (t : ℕ) (es : List ExprTree) (vs : List Value) → f.left ≡ Statement (NewStmt p x t es) ∷ ds → values_of es (scene c f s) ≡ Ok vs →
      GoesGood c (steps.enter c (constructor_of c t) p (ToNew x) (value.Obj (length s) ∷ vs) (record f { left = ds }) fs (new_object_of c.classes s t))
  new_stack p x t es vs at h =
      let st = NewStmt p x t es in
      let b0 = f.body in
      let s1 = new_object_of c.classes s t in
      let o = length s in
      let typed = and_parts (is_declared c.classes t && fits_kept c.classes b0 x (Some (class_type t))) (is_call_of c.classes b0 None es (constructor_of c t)) (typed_here c f s st ds refl at is) in
      let q = and_parts (is_declared c.classes t) (fits_kept c.classes b0 x (Some (class_type t))) typed.0 in
      let k = call_parts c b0 None es (constructor_of c t) typed.1 in
      let b = k.0 in
      let found = found_passes (is_constructor_of t) c.bodies b k.1 in
      let r = and_parts b.flags.ctor (b.class == t) found.2 in
      let class = eqb-true b.class t r.1 in
      let fb = formed.bodies found.0 b found.1 in
      let instance_ = constructor_instance b fb.flags r.0 in
      let before = before_known c f s st ds refl at is in
      let stands : arguments_may_stand c b0 before.known es (types_of b.params) ≡ true = subst (λ z. may_enter c b0 before.known es z ≡ true) k.1 before.checked in
      let not_null = arguments_not_null c f s st ds refl at is es (types_of b.params) vs (reads_evaluated c f s st ds refl at is) k.2 stands h in
      let pass = may_pass c f s st ds refl at is in
      let s1_good = new_object_good (scene c f s) b0 b0.flags.ctor (frame_setting c f s is.sound) formed.admissible t q.0 in
      let object = new_object c.classes t o in
      let there : slice_get s1 o ≡ Some object = new_get s object in
      let down : below c.classes t b.class ≡ true = subst (λ z. below c.classes t z ≡ true) (sym class) (below_self c.classes t) in
      let later : (n : ℕ) → IsLater c.classes n s s1 = λ n. later_new_object c.classes n s t in
      let arguments = calls.instance_arguments (scene c f s) b0 pass.constructs pass.setting b instance_ s1 (later 0).older o object there down (λ plain. absurd (true≢false (sym r.0 ∙ plain))) es vs k.2 pass.apart h in
      let g = frame_at_entry b (locals_at_entry b (value.Obj o ∷ vs)) s1 (ToNew x) in
      let given : (j : ℕ) → below c.classes b.class (field_class c.classes j) ≡ false → HasGiven c s1 (value.Obj o) j = λ j apart i y iso ey null.
      let same : o ≡ i = cc in
      let y_is : object ≡ y = same_object s1 o object y there (subst (λ n. slice_get s1 n ≡ Some y) (sym same) ey) in
      let level = declared_at_level c.classes s1 y j value.Null (s1_good i y ey).values null in
      let up : below c.classes b.class (field_class c.classes j) ≡ true = subst (λ z. below c.classes z (field_class c.classes j) ≡ true) (ap (λ (z : Object). z.class) (sym y_is) ∙ sym class) level in
      absurd (true≢false (sym up ∙ apart)) in
      let constructs : b.flags.ctor ≡ true → IsConstructing c g s1 = λ ctor. record {
        position = o;
        this = refl;
        object = object;
        there = there;
        class = down;
        exact = λ n. sym class;
        given = λ undelayed j apart. given j apart;
      } in
      let good = entered_good c formed b fb (value.Obj o ∷ vs) s1 (ToNew x) s1_good arguments (with_this b vs o instance_ not_null) constructs (λ z. (o, refl {a = value.Obj o})) (λ n. r.0) in
      let wait = waits c f s st ds refl at is s1 b (ToNew x) (constructed g) later (λ y. refl) (subst (λ z. fits_kept c.classes b0 x (Some (class_type z)) ≡ true) (sym class) q.1) (λ y e nn. refl)
      (λ z v on answer may j so. kept_known c f s st ds refl at is z x v may true (λ nn. answer.non_null refl) j so)
      (λ z v on answer may. ready_as_before c f s st ds refl at is z x v may refl) in
      let is_new : IsNewTo (value.Obj o) (record f { left = ds } ∷ fs) = (λ i e. let same : o ≡ i = cc in low_size f i (subst (λ n. length f.entry ≤ n) same (older_size f.entry s is.sound.older)), end_is_new c s f fs waiting) in
      enter_good c (constructor_of c t) b p (ToNew x) (value.Obj o ∷ vs) (record f { left = ds }) fs s1 k.1
      (stacked c f ds fs s s1 waiting new later g good wait (subst (λ z. IsNewTo z (record f { left = ds } ∷ fs)) (sym (constructs_this g r.0)) is_new))

  -- ---- `base(..)`

  module _ (p : Place) (x : Option ℕ) (n : ℕ) (es : List ExprTree) (at : f.left ≡ Statement (CallStmt p x (BaseConstructor n) es) ∷ ds) where
    base_is : IsBase c f.body n
    base_is = base_of c formed f.body p x n es (typed_here c f s (CallStmt p x (BaseConstructor n) es) ds refl at is)

    -- in a constructor alone it stands
    base_ctor : f.body.flags.ctor ≡ true
    base_ctor = ⊎_elim (λ ctor. ctor)
        (λ plain. let before = before_fields c f s (CallStmt p x (BaseConstructor n) es) ds refl at is in absurd (false≢true (if_not f.body.flags.ctor (fields_asked c f.body (CallStmt p x (BaseConstructor n) es) before.known) plain before.checked)))
        (cases_Bool f.body.flags.ctor)
      where
        if_not : (k a : Bool) → k ≡ false → (if k then a else false) ≡ true → false ≡ true
        if_not true a e h = absurd (true≢false e)
        if_not false a e h = h

    -- one that isn't delayed has given the fields of its class
    own_given : f.body.flags.delayed ≡ false → (g : ℕ) → (field_class c.classes g == f.body.class) ≡ true → HasGiven c s (this_of f.locals) g
    own_given undelayed g own =
        let before = before_fields c f s (CallStmt p x (BaseConstructor n) es) ds refl at is in
        let asked = if_true f.body.flags.ctor (f.body.flags.delayed || has_own_fields c.classes f.body.class before.known) false base_ctor before.checked in
        let has = ⊎_elim (λ delayed. absurd (true≢false (sym delayed ∙ undelayed))) (λ z. z) (or_cases f.body.flags.delayed (has_own_fields c.classes f.body.class before.known) asked) in
        given_known c s (this_of f.locals) (λ u. u == f.body.class) before.known (λ h kh. before.so.fields base_ctor h kh) has g own

    -- and all those that no class above declares
    lower_given : f.body.flags.delayed ≡ false → (g : ℕ) → below c.classes base_is.body.class (field_class c.classes g) ≡ false → HasGiven c s (this_of f.locals) g
    lower_given undelayed g apart = ⊎_elim
        (λ here. ⊎_elim
        (λ own. own_given undelayed g (subst (λ z. (z == f.body.class) ≡ true) (eqb-true f.body.class (field_class c.classes g) own) (eq-eqb f.body.class f.body.class refl)))
        (λ up. absurd (true≢false (sym up ∙ subst (λ z. below c.classes z (field_class c.classes g) ≡ false) base_is.class apart)))
        (or_cases (eqb f.body.class (field_class c.classes g)) (below c.classes (above c.classes f.body.class) (field_class c.classes g)) (sym (below_up c.classes is.sound.chain f.body.class (field_class c.classes g) (declared_not_object c.classes f.body.class is.formed.class)) ∙ here)))
        (λ other. (is.constructs base_ctor).given undelayed g other)
        (cases_Bool (below c.classes f.body.class (field_class c.classes g)))

    -- the base of a delayed constructor is delayed
    undelayed_above : base_is.body.flags.delayed ≡ false → f.body.flags.delayed ≡ false
    undelayed_above undelayed = ⊎_elim
        (λ delayed.
        let base = ⊎_elim (λ h. absurd (false≢true (sym (ap not delayed) ∙ h))) (λ z. z) (or_cases (not f.body.flags.delayed) (has_delayed_base c f.body) is.formed.delayed_base) in
        ⊎_elim
        (λ top. absurd (declared_not_object c.classes base_is.body.class (formed.bodies n base_is.body base_is.at).class (base_is.class ∙ eqb-true (above c.classes f.body.class) 0 top)))
        (λ late. absurd (true≢false (sym (subst (λ o. is_delayed_constructor o ≡ true) base_is.is_the late) ∙ undelayed)))
        (or_cases (is_below_object c f.body) (is_delayed_constructor (constructor_of c (above c.classes f.body.class))) base))
        (λ z. z)
        (cases_Bool f.body.flags.delayed)

    -- what is known after it
    answered : (z : List Object) (v : Value) → IsLater c.classes (entry_size f) s z → IsAnswer c base_is.body (ToCall x) (this_of f.locals) z v → (g : ℕ) → (not f.body.flags.delayed ≡ true) ⊎ (is_field_above c f.body g ≡ true) → HasGiven c z (this_of f.locals) g
    answered z v later answer g which = ⊎_elim
        (λ up. answer.fields base_is.ctor g (λ delayed. up))
        (λ apart. ⊎_elim
        (λ late. let object = is.constructs base_ctor in
        later_given c (entry_size f) s z later (this_of f.locals) object.position object.object object.this object.there g
        (lower_given (⊎_elim (λ undelayed. not_true f.body.flags.delayed undelayed) (λ field_above. absurd (true≢false (sym (is_above field_above) ∙ apart))) which) g apart))
        (λ undelayed. answer.fields base_is.ctor g (λ late. absurd (true≢false (sym late ∙ undelayed))))
        (cases_Bool base_is.body.flags.delayed))
        (cases_Bool (below c.classes base_is.body.class (field_class c.classes g)))
      where
        is_above : is_field_above c f.body g ≡ true → below c.classes base_is.body.class (field_class c.classes g) ≡ true
        is_above h =
            let r = and_parts (below c.classes f.body.class (field_class c.classes g)) (not (field_class c.classes g == f.body.class)) h in
            ⊎_elim
            (λ own. absurd (false≢true (sym (ap not (subst (λ z. (z == f.body.class) ≡ true) (eqb-true f.body.class (field_class c.classes g) own) (eq-eqb f.body.class f.body.class refl))) ∙ r.1)))
            (λ up. subst (λ z. below c.classes z (field_class c.classes g) ≡ true) (sym base_is.class) up)
            (or_cases (eqb f.body.class (field_class c.classes g)) (below c.classes (above c.classes f.body.class) (field_class c.classes g)) (sym (below_up c.classes is.sound.chain f.body.class (field_class c.classes g) (declared_not_object c.classes f.body.class is.formed.class)) ∙ r.0))

    constructor_waits : IsWaiting c s base_is.body (ToCall x) (this_of f.locals) (record f { left = ds })
    constructor_waits =
        let st = CallStmt p x (BaseConstructor n) es in
        let k = called c f s p x (BaseConstructor n) es ds at is in
        let same : k.body ≡ base_is.body = let both : Some k.body ≡ Some base_is.body = sym k.is_callee ∙ base_is.is_callee in cc in
        let b = base_is.body in
        let nn0 = is_non_null_type (result_of (callee_of c f.body (BaseConstructor n))) in
        let result : nn0 ≡ is_non_null_type b.result = ap (λ o. is_non_null_type (result_of o)) base_is.is_callee in
        waits c f s st ds refl at is s b (ToCall x) (this_of f.locals) (λ m. later_self c.classes m s) (λ y. refl) (subst (λ (z : BodyTree). fits_kept c.classes f.body x z.result ≡ true) same k.fits)
        (λ y e nn. subst (λ (z : BodyTree). is_non_null_type z.result ≡ true) same (k.keeps y e nn))
        (λ z v later answer may j so.
        let kept = kept_known c f s st ds refl at is z x v may nn0 (λ h. answer.non_null (sym result ∙ h)) j so in
        record {
          facts = kept.facts;
          sides = λ y u eu. let side = kept.sides y u eu in record { facts = side.facts; there = side.there; so = side.so };
          fields = λ ctor g kg. ⊎_elim
              (λ first. ⊎_elim
              (λ known. kept.fields ctor g known)
              (λ undelayed. subst (λ u. HasGiven c z u g) (sym (this_kept c f s st ds refl at is z x v may ctor)) (answered z v later answer g (inl undelayed)))
              (or_cases ((with_kept x nn0 j).fields g) (not f.body.flags.delayed) first))
              (λ field_above. subst (λ u. HasGiven c z u g) (sym (this_kept c f s st ds refl at is z x v may ctor)) (answered z v later answer g (inr field_above)))
              (or_cases ((with_kept x nn0 j).fields g || not f.body.flags.delayed) (is_field_above c f.body g) kg);
        })
        (λ z v later answer may r so ctor h. subst (λ u. IsReady z u) (sym (this_kept c f s st ds refl at is z x v may ctor))
        (⊎_elim
        (λ ready. so ctor ready)
        (λ made. answer.whole base_is.ctor (not_true b.flags.delayed (subst (λ o. is_undelayed o ≡ true) base_is.at made)))
        (or_cases r (makes_ready c st) h)))

    pub constructor_stack : (vs : List Value) → values_of es (scene c f s) ≡ Ok vs → GoesGood c (steps.enter c (body_at c n) p (ToCall x) (this_of f.locals ∷ vs) (record f { left = ds }) fs s)
    constructor_stack vs h =
        let st = CallStmt p x (BaseConstructor n) es in
        let k = called c f s p x (BaseConstructor n) es ds at is in
        let same : k.body ≡ base_is.body = let both : Some k.body ≡ Some base_is.body = sym k.is_callee ∙ base_is.is_callee in cc in
        let b = base_is.body in
        let fb = formed.bodies n b base_is.at in
        let instance_ = constructor_instance b fb.flags base_is.ctor in
        let object = is.constructs base_ctor in
        let o = object.position in
        let nz = declared_not_object c.classes f.body.class is.formed.class in
        let one_up : below c.classes f.body.class (above c.classes f.body.class) ≡ true = below_up c.classes is.sound.chain f.body.class (above c.classes f.body.class) nz ∙ or_right _ _ (below_self c.classes (above c.classes f.body.class)) in
        let down : below c.classes object.object.class b.class ≡ true = subst (λ z. below c.classes object.object.class z ≡ true) (sym base_is.class) (below_trans c.classes is.sound.chain object.object.class f.body.class (above c.classes f.body.class) object.class one_up) in
        let pass = may_pass c f s st ds refl at is in
        let types : have_types_in c.classes f.body es (types_of b.params) ≡ true = subst (λ (z : BodyTree). have_types_in c.classes f.body es (types_of z.params) ≡ true) same k.types in
        let arguments = calls.instance_arguments (scene c f s) f.body pass.constructs pass.setting b instance_ s (older_self s) o object.object object.there down (λ plain. absurd (true≢false (sym base_is.ctor ∙ plain))) es vs types pass.apart h in
        let not_null = with_this b vs o instance_ (λ i u v eu ev nn. k.not_null vs h i u v (subst (λ (z : BodyTree). slice_get (types_of z.params) i ≡ Some u) (sym same) eu) ev nn) in
        let g = frame_at_entry b (locals_at_entry b (value.Obj o ∷ vs)) s (ToCall x) in
        let constructs : b.flags.ctor ≡ true → IsConstructing c g s = λ ctor. record {
          position = o;
          this = refl;
          object = object.object;
          there = object.there;
          class = down;
          exact = λ to_new. absurd to_new;
          given = λ undelayed j apart. subst (λ u. HasGiven c s u j) object.this (lower_given (undelayed_above undelayed) j apart);
        } in
        let good = entered_good c formed b fb (value.Obj o ∷ vs) s (ToCall x) is.sound.store arguments not_null constructs (λ z. (o, refl {a = value.Obj o})) (λ to_new. absurd to_new) in
        let this_g : constructed g ≡ this_of f.locals = constructs_this g base_is.ctor ∙ sym object.this in
        let apart_ : IsNewTo (this_of f.locals) (record f { left = ds } ∷ fs) = (λ i e. subst (λ k2. (if k2 then 0 else length f.entry) ≤ i) (sym base_ctor) (omega arith), subst (λ u. IsNewTo u fs) (constructs_this f base_ctor) new.0) in
        enter_good c (body_at c n) b p (ToCall x) (this_of f.locals ∷ vs) (record f { left = ds }) fs s base_is.at
        (subst (λ u. IsGoodStack c (frame_at_entry b (locals_at_entry b (u ∷ vs)) s (ToCall x) ∷ record f { left = ds } ∷ fs) s) (sym object.this)
        (stacked c f ds fs s s waiting new (λ m. later_self c.classes m s) g good (subst (λ u. IsWaiting c s b (ToCall x) u (record f { left = ds })) (sym this_g) constructor_waits) (subst (λ u. IsNewTo u (record f { left = ds } ∷ fs)) (sym this_g) apart_)))
