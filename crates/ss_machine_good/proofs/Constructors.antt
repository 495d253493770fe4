-- What is known of the fields of `this` along the code of a constructor is so in each of its frames.
use Rattle.std.proofs.Common.{◌≡◌, ◌≤◌, ℕ, List, [], ◌∷◌, Bool, true, false, not, ◌==◌, ◌&&◌, ◌||◌, Option, Some, None, Ok, Err, eqb, refl, sym, ◌∙◌, ap, subst, arith, inl, inr, ◌⊎◌, ⊎_elim}
use Rattle.std.specs.Prelude.{slice_get, if◌then◌else◌, is_some, Result}
use Rattle.std.proofs.lemmas.Bool.{false≢true, true≢false, and_parts, or_cases, cases_Bool, eq-eqb, eqb-true}
use Rattle.ss_core.specs.declared.names.Kind.{Kind}
use Rattle.ss_core.specs.declared.names.Kind.TheVariants as kind
use Rattle.ss_core.specs.declared.names.Mark.{Mark}
use Rattle.ss_core.specs.declared.names.Place.{Place}
use Rattle.ss_core.specs.declared.names.Ty.{Ty}
use Rattle.ss_core.specs.Tree.{ClassTree, ExprTree, LocalExpr, BaseConstructor, WriteStmt, CallStmt, ReadyStmt, BodyTree, CoreTree}
use Rattle.ss_core.specs.Chain.{above, below}
use Rattle.ss_core.proofs.Chains.{below_up}
use Rattle.ss_store_rules.specs.declared.Value.{Value}
use Rattle.ss_store_rules.specs.declared.Value.TheVariants as value
use Rattle.ss_store_rules.specs.Store.{Slot, Object, slot_value, field_value}
use Rattle.ss_store_rules.specs.Values.{Setting, local_value, value_of}
use Rattle.ss_store_rules.specs.Changes.{packed, field_class, field_mark, field_type, changed, with_field, written, with_owners, then_written, writing, write_of, ready_of}
use Rattle.ss_store_rules.specs.Admissible.{is_this}
use Rattle.ss_store_rules.specs.Locals.{result_number}
use Rattle.ss_store_rules.specs.Typed.{callee_of}
use Rattle.ss_store_rules.specs.Good.{is_non_null}
use Rattle.ss_store_rules.specs.NonNull.{is_non_null_type, is_field_above, result_of, with_kept}
use Rattle.ss_store_rules.specs.Construction.{has_own_fields}
use Rattle.ss_store_rules.specs.Formed.{IsFormed}
use Rattle.ss_store_rules.proofs.Arrays.{declared_not_object}
use Rattle.ss_store_rules.proofs.Objects.{was}
use Rattle.ss_store_rules.proofs.Owners.{check_ok, on_object_ok, not_true}
use Rattle.ss_machine_rules.specs.Frame.{this_of}
use Rattle.ss_machine_rules.specs.States.{Due, Statement, ToCall, Frame, put, scene}
use Rattle.ss_machine_rules.specs.Steps as steps
use Rattle.ss_machine_typed.proofs.Outcomes.{ok_same}
use Rattle.ss_machine_good.specs.Known.{IsNotNull}
use Rattle.ss_machine_good.specs.Checks.{fields_asked}
use Rattle.ss_machine_good.proofs.Bases.{IsBase, base_of}
use Rattle.ss_machine_good.specs.Later.{IsLater}
use Rattle.ss_machine_good.specs.LaterFrames.{HasGiven, IsGoodFrame, entry_size}
use Rattle.ss_machine_good.proofs.Later.{later_write, later_ready}
use Rattle.ss_machine_good.proofs.Behind.{later_given}
use Rattle.ss_machine_good.proofs.Values.{before_fields}
use Rattle.ss_machine_good.proofs.Statements.{if_true, given_known, all_given, typed_here, written_not_null}
use Rattle.ss_machine_good.proofs.CallsOfRuns.{called}
use Rattle.ss_machine_good.proofs.Returns.{constructor_result}
use Rattle.ss_machine_good.proofs.Followed.{IsFollowed, IsGiven, WillBeFollowed, after_followed, quiet_followed, this_same, kept_true, kept_assigned}

-- ---- writes

written_slot : (xs : List Slot) (f : ℕ) (v u : Value) → slot_value (with_field xs f v) f ≡ Some u → u ≡ v
written_slot [] f v u e = absurd (let none : ⊥ = cc in none)
written_slot (x ∷ xs) f v u e = ⊎_elim
    (λ here. let is : Some v ≡ Some u = rw here at e in cc)
    (λ past. written_slot xs f v u (rw past at e))
    (cases_Bool (eqb x.field f))

then_slot : (o f : ℕ) (v : Value) (r : Result (List Object) Kind) (z : List Object) → then_written o f v r ≡ Ok z → (x : Object) → slice_get z o ≡ Some x → (u : Value) → field_value x f ≡ Some u → u ≡ v
then_slot o f v (Err k) z h x ex u eu = absurd (let none : ⊥ = cc in none)
then_slot o f v (Ok y) z h x ex u eu =
    let same : changed (written o f v) y ≡ z = cc in
    let w = was (written o f v) y o x (subst (λ n. slice_get n o ≡ Some x) (sym same) ex) in
    let is : slot_value (if o == o then with_field w.0.fields f v else w.0.fields) f ≡ Some u = subst (λ (n : Object). field_value n f ≡ Some u) (sym w.2) eu in
    written_slot w.0.fields f v u (rw (eq-eqb o o refl) at is)

-- a written field has the value
write_slot : (cs : List ClassTree) (s : List Object) (o f : ℕ) (v : Value) (z : List Object) → write_of cs s (value.Obj o) f v ≡ Ok z → (x : Object) → slice_get z o ≡ Some x → (u : Value) → field_value x f ≡ Some u → u ≡ v
write_slot cs s o f v z h x ex u eu =
    let r = on_object_ok s (value.Obj o) (writing cs s f v) z h in
    let same : r.0 ≡ o = let e = r.1 in cc in
    let a = check_ok (not (packed cs r.2.0 (field_class cs f))) kind.WriteLevel (then_written r.0 f v (with_owners (field_mark cs f) s r.0 (field_class cs f) v)) z r.2.2 in
    then_slot r.0 f v (with_owners (field_mark cs f) s r.0 (field_class cs f) v) z a.1 x (subst (λ n. slice_get z n ≡ Some x) (sym same) ex) u eu

this_value : (o : ExprTree) (x : Setting) (v : Value) → is_this o ≡ true → value_of o x ≡ Ok v → local_value x 0 ≡ v
this_value (LocalExpr p y) x v h e = let zero_ = eqb-true y 0 h in subst (λ n. local_value x n ≡ v) zero_ (ok_same (local_value x y) v e)
this_value o x v h e = absurd (false≢true h)

module _ (c : CoreTree) (formed : IsFormed c) (f : Frame) (s : List Object) (ds : List Due) (is : IsGoodFrame c f s) (are : IsFollowed c f s) where
  new_given : (o : ExprTree) (g : ℕ) (v w : Value) (z : List Object) → value_of o (scene c f s) ≡ Ok v → write_of c.classes s v g w ≡ Ok z → (is_non_null (field_type c.classes g) ≡ true → IsNotNull w) → is_this o ≡ true → (q : ℕ) → q ≡ g → HasGiven c z (this_of f.locals) q
  new_given o g v w z ev h not_null this q same j x iso ex null =
      let v_is : v ≡ value.Obj j = sym (this_value o (scene c f s) v this ev) ∙ iso in
      let h2 = subst (λ u. write_of c.classes s u g w ≡ Ok z) v_is h in
      let w_null : value.Null ≡ w = write_slot c.classes s j g w z h2 x ex value.Null (subst (λ n. field_value x n ≡ Some value.Null) same null) in
      subst (λ n. is_non_null (field_type c.classes n) ≡ false) (sym same)
      (⊎_elim (λ nn. absurd (not_null nn (sym w_null))) (λ other. other) (cases_Bool (is_non_null (field_type c.classes g))))

  pub written_followed : (p : Place) (o : ExprTree) (g : ℕ) (m : Mark) (t : ℕ) (e : ExprTree) (v w : Value) (z : List Object) → f.left ≡ Statement (WriteStmt p o g m t e) ∷ ds → value_of o (scene c f s) ≡ Ok v → value_of e (scene c f s) ≡ Ok w → write_of c.classes s v g w ≡ Ok z → IsFollowed c (record f { left = ds }) z
  written_followed p o g m t e v w z at ev ew h =
      let not_null = written_not_null c formed f s ds is p o g m t e w at ew in
      quiet_followed c f s (WriteStmt p o g m t e) ds refl at is are z (later_write c.classes (entry_size f) s v g w z not_null h) (λ y. refl)
      (λ k so. record {
        facts = so.facts;
        sides = λ x u eu. let side = so.sides x u eu in record { facts = side.facts; there = side.there; so = side.so };
        fields = λ ctor q kq. ⊎_elim
            (λ known. so.fields ctor q known)
            (λ new. let r = and_parts (is_this o) (eqb q g) new in new_given o g v w z ev h not_null r.0 q (eqb-true q g r.1))
            (or_cases (k.fields q) (is_this o && eqb q g) kq);
      })

  -- ---- `ready this`

  pub ready_is_followed : (p : Place) (o : ℕ) → f.left ≡ Statement (ReadyStmt p) ∷ ds → this_of f.locals ≡ value.Obj o → f.body.flags.ctor ≡ true → IsFollowed c (record f { left = ds }) (ready_of s o)
  ready_is_followed p o at this ctor =
      let few : entry_size f ≤ o = let zero_ : entry_size f ≡ 0 = rw ctor refl in omega (arith, zero_) in
      let later = later_ready c.classes (entry_size f) s o few in
      let given = all_given c f s (ReadyStmt p) ds refl at is p refl in
      let object = is.constructs given.0 in
      quiet_followed c f s (ReadyStmt p) ds refl at is are (ready_of s o) later (λ y. refl)
      (λ k so. record {
        facts = so.facts;
        sides = λ x u eu. let side = so.sides x u eu in record { facts = side.facts; there = side.there; so = side.so };
        fields = λ ctor q kq. later_given c (entry_size f) s (ready_of s o) later (this_of f.locals) object.position object.object object.this object.there q (given.1 q);
      })

  -- ---- `base(..)`

  module _ (p : Place) (x : Option ℕ) (n : ℕ) (es : List ExprTree) (at : f.left ≡ Statement (CallStmt p x (BaseConstructor n) es) ∷ ds) where
    pub base_is : IsBase c f.body n
    base_is = base_of c formed f.body p x n es (typed_here c f s (CallStmt p x (BaseConstructor n) es) ds refl at is)

    -- in a constructor alone it stands
    pub base_ctor : f.body.flags.ctor ≡ true
    base_ctor = ⊎_elim (λ ctor. ctor)
        (λ plain. let before = before_fields c f s (CallStmt p x (BaseConstructor n) es) ds refl at is in absurd (false≢true (if_not f.body.flags.ctor (fields_asked c f.body (CallStmt p x (BaseConstructor n) es) before.known) plain before.checked)))
        (cases_Bool f.body.flags.ctor)
      where
        if_not : (k a : Bool) → k ≡ false → (if k then a else false) ≡ true → false ≡ true
        if_not true a e h = absurd (true≢false e)
        if_not false a e h = h

    -- one that isn't delayed has given the fields of its class
    own_given : f.body.flags.delayed ≡ false → (g : ℕ) → (field_class c.classes g == f.body.class) ≡ true → HasGiven c s (this_of f.locals) g
    own_given undelayed g own =
        let before = before_fields c f s (CallStmt p x (BaseConstructor n) es) ds refl at is in
        let asked = if_true f.body.flags.ctor (f.body.flags.delayed || has_own_fields c.classes f.body.class before.known) false base_ctor before.checked in
        let has = ⊎_elim (λ delayed. absurd (true≢false (sym delayed ∙ undelayed))) (λ z. z) (or_cases f.body.flags.delayed (has_own_fields c.classes f.body.class before.known) asked) in
        given_known c s (this_of f.locals) (λ u. u == f.body.class) before.known (λ h kh. before.so.fields base_ctor h kh) has g own

    -- and all those that no class above declares
    lower_given : f.body.flags.delayed ≡ false → (g : ℕ) → below c.classes base_is.body.class (field_class c.classes g) ≡ false → HasGiven c s (this_of f.locals) g
    lower_given undelayed g apart = ⊎_elim
        (λ here. ⊎_elim
        (λ own. own_given undelayed g (subst (λ z. (z == f.body.class) ≡ true) (eqb-true f.body.class (field_class c.classes g) own) (eq-eqb f.body.class f.body.class refl)))
        (λ up. absurd (true≢false (sym up ∙ subst (λ z. below c.classes z (field_class c.classes g) ≡ false) base_is.class apart)))
        (or_cases (eqb f.body.class (field_class c.classes g)) (below c.classes (above c.classes f.body.class) (field_class c.classes g)) (sym (below_up c.classes is.sound.chain f.body.class (field_class c.classes g) (declared_not_object c.classes f.body.class is.formed.class)) ∙ here)))
        (λ other. (is.constructs base_ctor).given undelayed g other)
        (cases_Bool (below c.classes f.body.class (field_class c.classes g)))

    -- what the base hasn't given was given before it
    answered : (z : List Object) (v : Value) → IsLater c.classes (entry_size f) s z → IsGiven c base_is.body (ToCall x) (this_of f.locals) z v → (g : ℕ) → (not f.body.flags.delayed ≡ true) ⊎ (is_field_above c f.body g ≡ true) → HasGiven c z (this_of f.locals) g
    answered z v later given g which = ⊎_elim
        (λ up. given.fields x refl base_is.ctor g (λ delayed. up))
        (λ apart. ⊎_elim
        (λ late. let object = is.constructs base_ctor in
        later_given c (entry_size f) s z later (this_of f.locals) object.position object.object object.this object.there g
        (lower_given (⊎_elim (λ undelayed. not_true f.body.flags.delayed undelayed) (λ field_above. absurd (true≢false (sym (is_above field_above) ∙ apart))) which) g apart))
        (λ undelayed. given.fields x refl base_is.ctor g (λ late. absurd (true≢false (sym late ∙ undelayed))))
        (cases_Bool base_is.body.flags.delayed))
        (cases_Bool (below c.classes base_is.body.class (field_class c.classes g)))
      where
        is_above : is_field_above c f.body g ≡ true → below c.classes base_is.body.class (field_class c.classes g) ≡ true
        is_above h =
            let r = and_parts (below c.classes f.body.class (field_class c.classes g)) (not (field_class c.classes g == f.body.class)) h in
            ⊎_elim
            (λ own. absurd (false≢true (sym (ap not (subst (λ z. (z == f.body.class) ≡ true) (eqb-true f.body.class (field_class c.classes g) own) (eq-eqb f.body.class f.body.class refl))) ∙ r.1)))
            (λ up. subst (λ z. below c.classes z (field_class c.classes g) ≡ true) (sym base_is.class) up)
            (or_cases (eqb f.body.class (field_class c.classes g)) (below c.classes (above c.classes f.body.class) (field_class c.classes g)) (sym (below_up c.classes is.sound.chain f.body.class (field_class c.classes g) (declared_not_object c.classes f.body.class is.formed.class)) ∙ r.0))

    pub constructor_followed : WillBeFollowed c s base_is.body (ToCall x) (this_of f.locals) (record f { left = ds })
    constructor_followed z v later given =
        let st = CallStmt p x (BaseConstructor n) es in
        let k = called c f s p x (BaseConstructor n) es ds at is in
        let b = base_is.body in
        let nn0 = is_non_null_type (result_of (callee_of c f.body (BaseConstructor n))) in
        let result : nn0 ≡ is_non_null_type b.result = ap (λ o. is_non_null_type (result_of o)) base_is.is_callee in
        let same : k.body ≡ b = let both : Some k.body ≡ Some b = sym k.is_callee ∙ base_is.is_callee in cc in
        after_followed c f s st ds refl at is are z x v later
        (λ j so.
        let kept = kept_true c f s st ds refl at is x v (λ y. refl) z k.body.result k.fits nn0 (λ h. given.non_null (sym result ∙ h)) j so in
        record {
          facts = kept.facts;
          sides = λ y u eu. let side = kept.sides y u eu in record { facts = side.facts; there = side.there; so = side.so };
          fields = λ ctor g kg. ⊎_elim
              (λ first. ⊎_elim
              (λ known. kept.fields ctor g known)
              (λ undelayed. subst (λ u. HasGiven c z u g) (sym (this_same c f s st ds refl at is x v (λ y. refl) ctor)) (answered z v later given g (inl undelayed)))
              (or_cases ((with_kept x nn0 j).fields g) (not f.body.flags.delayed) first))
              (λ field_above. subst (λ u. HasGiven c z u g) (sym (this_same c f s st ds refl at is x v (λ y. refl) ctor)) (answered z v later given g (inr field_above)))
              (or_cases ((with_kept x nn0 j).fields g || not f.body.flags.delayed) (is_field_above c f.body g) kg);
        })
        (kept_assigned c f s st ds refl at is x v (λ y. refl) z k.body.result k.fits (λ y e nn. given.non_null (subst (λ (w : BodyTree). is_non_null_type w.result ≡ true) same (k.keeps y e nn))))

  -- ---- the return of a constructor

  -- what it constructs isn't touched by its result, which it hasn't
  pub this_at_end : (v : Value) → f.body.flags.ctor ≡ true → this_of (put (steps.result_local f.body) v f.locals) ≡ this_of f.locals
  this_at_end v ctor = ap (λ x. this_of (put x v f.locals)) (here f.body.result (constructor_result f.body is.sound.flags ctor))
    where
      here : (r : Option Ty) → r ≡ None → (if is_some r then Some (result_number f.body) else None) ≡ None
      here None h = refl
      here (Some t) h = absurd (let no_one : ⊥ = cc in no_one)
