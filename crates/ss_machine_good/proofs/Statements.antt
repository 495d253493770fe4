-- A frame after a statement that enters no body.
use Rattle.std.proofs.Common.{◌≡◌, ℕ, ℤ, pos, negsuc, ◌+◌, ◌≤◌, List, [], ◌∷◌, ◌++◌, length, Bool, true, false, not, ◌==◌, ◌&&◌, Option, Some, None, Ok, Err, eqb, refl, sym, ◌∙◌, ap, subst, arith, ⊎_elim}
use Rattle.std.specs.Prelude.{slice_get, if◌then◌else◌, Result}
use Rattle.std.proofs.lemmas.Bool.{false≢true, true≢false, and_parts, or_cases, or_right, cases_Bool, eqb-true, eq-eqb}
use Rattle.std.proofs.lemmas.Option.{slice_get_within}
use Rattle.ss_core.specs.declared.names.Kind.{Kind}
use Rattle.ss_core.specs.declared.names.Kind.TheVariants as kind
use Rattle.ss_core.specs.declared.names.Mark.{Mark}
use Rattle.ss_core.specs.declared.names.Place.{Place}
use Rattle.ss_core.specs.declared.names.Ty.{Ty}
use Rattle.ss_core.specs.Tree.{ClassTree, ExprTree, LocalExpr, StmtTree, AssignStmt, WriteStmt, WriteElementStmt, NewArrayStmt, ReadyStmt, UnpackStmt, PackStmt, BodyTree, CoreTree}
use Rattle.ss_core.specs.Chain.{below, DeclaredField, all_fields}
use Rattle.ss_core.proofs.Chains.{sub_self}
use Rattle.ss_store_rules.specs.declared.Value.{Value}
use Rattle.ss_store_rules.specs.declared.Value.TheVariants as value
use Rattle.ss_store_rules.specs.Store.{Slot, Object, slot_value, field_value}
use Rattle.ss_store_rules.specs.Reads.{as_int, as_bool}
use Rattle.ss_store_rules.specs.Values.{Setting, local_value, value_of}
use Rattle.ss_store_rules.specs.Changes.{packed, field_class, field_mark, field_type, type_of_field, changed, with_field, written, with_owners, then_written, writing, unpack_of, pack_of, write_of, write_element_of, new_array, new_array_of, made_ready, ready_of}
use Rattle.ss_store_rules.specs.Admissible.{is_this, invariants_hold}
use Rattle.ss_store_rules.specs.Types.{class_type, is_int, code_type, element_of}
use Rattle.ss_store_rules.specs.Locals.{local_types, each_inside, is_kept_in, is_target}
use Rattle.ss_store_rules.specs.Typed.{has_type_in, fits_kept, is_write_of, is_element_write, has_exposable, is_typed}
use Rattle.ss_store_rules.specs.Good.{has_type, is_non_null, IsReady}
use Rattle.ss_store_rules.specs.Types.{in_code, is_condition}
use Rattle.ss_store_rules.specs.Assigned.{reads_assigned}
use Rattle.ss_store_rules.specs.NonNull.{says_nothing, Known, with_kept, known_after, is_non_null_type, is_this_object, site_of, is_never_null, learned, may_stand, may_stand_at}
use Rattle.ss_store_rules.specs.Construction.{has_fields_from, has_all_fields}
use Rattle.ss_store_rules.specs.Formed.{IsFormed}
use Rattle.ss_store_rules.proofs.Objects.{was, new_get, same_object}
use Rattle.ss_store_rules.proofs.Owners.{check_ok, on_object_ok, not_true}
use Rattle.ss_store_rules.proofs.Keeps.{Keeps-ready}
use Rattle.ss_machine_rules.specs.Frame.{this_of}
use Rattle.ss_machine_rules.specs.Good.{IsGoodStore}
use Rattle.ss_machine_rules.specs.States.{Due, Statement, Frame, scene}
use Rattle.ss_machine_rules.specs.Steps as steps
use Rattle.ss_machine_typed.proofs.Outcomes.{ok_same}
use Rattle.ss_machine_typed.proofs.Sound.{value_sound}
use Rattle.ss_machine_good.specs.Flows.{is_simple}
use Rattle.ss_machine_good.specs.Known.{IsNotNull, IsTrueOf}
use Rattle.ss_machine_good.specs.Frames.{all_left}
use Rattle.ss_machine_good.proofs.Puts.{put_true}
use Rattle.ss_machine_good.proofs.Tests.{learned_true}
use Rattle.ss_machine_good.proofs.Steps.{fits_typed, value_fits, code_typed, fitting_some, write_good, write_element_good, unpack_good, pack_good, new_array_good}
use Rattle.ss_machine_good.proofs.Calls.{one_ready}
use Rattle.ss_machine_good.proofs.Frames.{declared_some, bool_typed, frame_setting}
use Rattle.ss_machine_good.specs.Checks.{fields_check, makes_ready}
use Rattle.ss_machine_good.proofs.Fields.{field_had}
use Rattle.ss_machine_good.specs.Later.{IsLater}
use Rattle.ss_machine_good.specs.LaterFrames.{HasGiven, IsGoodFrame, entry_size}
use Rattle.ss_machine_good.proofs.Later.{later_self, later_unpack, later_pack, later_write, later_write_element, later_new_array, later_ready}
use Rattle.ss_machine_good.proofs.Behind.{each_simple, kept_is, variable_apart, later_given, MayBePut, put_variable, after_frame, ready_as_before}
use Rattle.ss_machine_good.proofs.Values.{before_assigned, before_known, before_fields, may_pass, reads_evaluated, known_not_null, stands_not_null}

pub if_true : (k a b : Bool) → k ≡ true → (if k then a else b) ≡ true → a ≡ true
if_true true a b e h = h
if_true false a b e h = absurd (false≢true e)

if_false : (k a b : Bool) → k ≡ false → (if k then a else b) ≡ true → b ≡ true
if_false true a b e h = absurd (true≢false e)
if_false false a b e h = h

-- ---- fields that have their values

-- what is known of these fields is so of all fields of these classes
pub given_known : (c : CoreTree) (s : List Object) (v : Value) (classes : ℕ → Bool) (k : Known) → ((g : ℕ) → k.fields g ≡ true → HasGiven c s v g) → has_fields_from classes k.fields 0 (all_fields c.classes) ≡ true → (g : ℕ) → classes (field_class c.classes g) ≡ true → HasGiven c s v g
given_known c s v classes k so h g is o x iso ex null = here (slice_get (all_fields c.classes) g) refl
  where
    zero_more : 0 + g ≡ g
    zero_more = omega arith

    here : (d : Option DeclaredField) → slice_get (all_fields c.classes) g ≡ d → is_non_null (field_type c.classes g) ≡ false
    here None e = ap (λ d. is_non_null (type_of_field d)) e
    here (Some d) e = ⊎_elim
        (λ nn.
        let class : classes d.class ≡ true = subst (λ z. classes z ≡ true) (let q : field_class c.classes g ≡ d.class = rw e refl in q) is in
        so g (subst (λ n. k.fields n ≡ true) zero_more (field_had classes k.fields 0 (all_fields c.classes) h g d e class nn)) o x iso ex null)
        (λ other. ap (λ z. is_non_null (type_of_field z)) e ∙ other)
        (cases_Bool (is_non_null d.field.ty))

written_slot : (xs : List Slot) (f : ℕ) (v u : Value) → slot_value (with_field xs f v) f ≡ Some u → u ≡ v
written_slot [] f v u e = absurd (let none : ⊥ = cc in none)
written_slot (x ∷ xs) f v u e = ⊎_elim
    (λ here. let is : Some v ≡ Some u = rw here at e in cc)
    (λ past. written_slot xs f v u (rw past at e))
    (cases_Bool (eqb x.field f))

then_slot : (o f : ℕ) (v : Value) (r : Result (List Object) Kind) (z : List Object) → then_written o f v r ≡ Ok z → (x : Object) → slice_get z o ≡ Some x → (u : Value) → field_value x f ≡ Some u → u ≡ v
then_slot o f v (Err k) z h x ex u eu = absurd (let none : ⊥ = cc in none)
then_slot o f v (Ok y) z h x ex u eu =
    let same : changed (written o f v) y ≡ z = cc in
    let w = was (written o f v) y o x (subst (λ n. slice_get n o ≡ Some x) (sym same) ex) in
    let is : slot_value (if o == o then with_field w.0.fields f v else w.0.fields) f ≡ Some u = subst (λ (n : Object). field_value n f ≡ Some u) (sym w.2) eu in
    written_slot w.0.fields f v u (rw (eq-eqb o o refl) at is)

-- a written field has the value
write_slot : (cs : List ClassTree) (s : List Object) (o f : ℕ) (v : Value) (z : List Object) → write_of cs s (value.Obj o) f v ≡ Ok z → (x : Object) → slice_get z o ≡ Some x → (u : Value) → field_value x f ≡ Some u → u ≡ v
write_slot cs s o f v z h x ex u eu =
    let r = on_object_ok s (value.Obj o) (writing cs s f v) z h in
    let same : r.0 ≡ o = let e = r.1 in cc in
    let a = check_ok (not (packed cs r.2.0 (field_class cs f))) kind.WriteLevel (then_written r.0 f v (with_owners (field_mark cs f) s r.0 (field_class cs f) v)) z r.2.2 in
    then_slot r.0 f v (with_owners (field_mark cs f) s r.0 (field_class cs f) v) z a.1 x (subst (λ n. slice_get z n ≡ Some x) (sym same) ex) u eu

this_value : (o : ExprTree) (x : Setting) (v : Value) → is_this o ≡ true → value_of o x ≡ Ok v → local_value x 0 ≡ v
this_value (LocalExpr p y) x v h e = let zero_ = eqb-true y 0 h in subst (λ n. local_value x n ≡ v) zero_ (ok_same (local_value x y) v e)
this_value o x v h e = absurd (false≢true h)

write_field : (cs : List ClassTree) (b : BodyTree) (o : ExprTree) (m : Mark) (t : ℕ) (e : ExprTree) (od : Option DeclaredField) → is_write_of cs b o m t e od ≡ true → has_type_in cs b e (type_of_field od) ≡ true
write_field cs b o m t e None h = absurd (false≢true h)
write_field cs b o m t e (Some d) h = (and_parts _ (has_type_in cs b e d.field.ty) h).1

element_some : (cs : List ClassTree) (b : BodyTree) (e : ExprTree) (o : Option Ty) → is_element_write cs b e o ≡ true → (t : Ty) × (has_type_in cs b e t ≡ true)
element_some cs b e None h = absurd (false≢true h)
element_some cs b e (Some t) h = (t, h)

array_at : (s : List Object) (t : ℕ) (n : ℤ) (z : List Object) → new_array_of s t n ≡ Ok z → (x : Object) × (slice_get z (length s) ≡ Some x) × (x.class ≡ t) × (x.ready ≡ true)
array_at s t (pos n) z h = let same : s ++ new_array t n (length s) ∷ [] ≡ z = cc in (new_array t n (length s), subst (λ y. slice_get y (length s) ≡ Some (new_array t n (length s))) same (new_get s (new_array t n (length s))), refl, refl)
array_at s t (negsuc n) z h = absurd (let none : ⊥ = cc in none)

module _ (c : CoreTree) (f : Frame) (s : List Object) (st : StmtTree) (ds : List Due) (simple : is_simple st ≡ true) (at : f.left ≡ Statement st ∷ ds) (is : IsGoodFrame c f s) where
  pub typed_here : is_typed c f.body st ≡ true
  typed_here = sym (each_simple (is_typed c f.body) st simple) ∙ (and_parts (each_inside (is_typed c f.body) st) _ (subst (λ l. all_left (is_typed c f.body) (is_condition c.classes f.body in_code) l ≡ true) at is.sound.typed)).0

  exposable_here : has_exposable c.classes f.body st ≡ true
  exposable_here = sym (each_simple (has_exposable c.classes f.body) st simple) ∙ (and_parts (each_inside (has_exposable c.classes f.body) st) _ (subst (λ l. all_left (has_exposable c.classes f.body) (λ d. true) l ≡ true) at is.exposed)).0

  -- ---- nothing is assigned

  no_put : (z : List Object) (v : Value) → ((y : ℕ) → is_target st y ≡ false) → MayBePut c f.body st z None v
  no_put z v none = record {
    target = λ y e. cc;
    only = λ y h. absurd (false≢true (sym (none y) ∙ h));
    types = λ y e. absurd (let no_one : ⊥ = cc in no_one);
    ready = λ y e. absurd (let no_one : ⊥ = cc in no_one);
    non_null = λ y e nn. absurd (let no_one : ⊥ = cc in no_one);
  }

  pub quiet_frame : (z : List Object) → IsLater c.classes (entry_size f) s z → IsGoodStore c z → ((y : ℕ) → is_target st y ≡ false) → makes_ready c st ≡ false → ((k : Known) → known_after c f.body st k ≡ k) → IsGoodFrame c (record f { left = ds }) z
  quiet_frame z later good none nothing same =
      let may = no_put z value.Null none in
      after_frame c f s st ds simple at is z None value.Null later good may (λ k so. subst (λ j. IsTrueOf f.body.flags.ctor j (scene c f z)) (sym (same k)) so) (ready_as_before c f s st ds simple at is z None value.Null may nothing)

  -- ---- a local may be

  pub kept_known : (z : List Object) (x : Option ℕ) (v : Value) → MayBePut c f.body st z x v → (nn : Bool) → (nn ≡ true → IsNotNull v) → (k : Known) → IsTrueOf f.body.flags.ctor k (scene c f z) →
      IsTrueOf f.body.flags.ctor (with_kept x nn k) (scene c (steps.with_local x v (record f { left = ds })) z)
  kept_known z None v may nn not_null k so = so
  kept_known z (Some y) v may nn not_null k so =
      let t = may.types y refl in
      let there = slice_get_within (local_types f.body) y t.0 t.1 in
      let count = is.sound.locals.count in
      put_true (scene c f z) y v (omega (arith, there, count)) f.body.flags.ctor nn says_nothing k so (variable_apart f.body y is.sound.flags (put_variable c f s st ds simple at is z (Some y) v may y refl)) not_null (λ u e w h. absurd (false≢true h))

  -- a value of this type fits the local that keeps it
  pub kept_may : (z : List Object) (x : Option ℕ) (v : Value) (o : Option Ty) → ((y : ℕ) → is_target st y ≡ is_kept_in x y) → fits_kept c.classes f.body x o ≡ true → ((t : Ty) → o ≡ Some t → has_type c.classes z t v ≡ true) → IsReady z v →
      ((y : ℕ) → x ≡ Some y → is_non_null_type (slice_get (local_types f.body) y) ≡ true → IsNotNull v) → MayBePut c f.body st z x v
  kept_may z x v o targets fits typed ready not_null = record {
    target = λ y e. targets y ∙ subst (λ w. is_kept_in w y ≡ true) (sym e) (eq-eqb y y refl);
    only = λ y h. kept_is x y (sym (targets y) ∙ h);
    types = λ y e.
        let d = declared_some c.classes o (slice_get (local_types f.body) y) (subst (λ w. fits_kept c.classes f.body w o ≡ true) e fits) in
        let a = fitting_some c.classes o d.0 d.2 in
        (d.0, d.1, fits_typed c.classes is.sound.chain is.sound.beside z a.0 d.0 v a.2 (typed a.0 a.1));
    ready = λ y e. ready;
    non_null = not_null;
  }

  -- ---- `ready this`

  -- the object of the constructor has its fields
  pub all_given : (p : Place) → st ≡ ReadyStmt p → (f.body.flags.ctor ≡ true) × ((g : ℕ) → HasGiven c s (this_of f.locals) g)
  all_given p is_ready =
      let before = before_fields c f s st ds simple at is in
      let checked : (fields_check c f.body).statement (ReadyStmt p) before.known ≡ true = subst (λ u. (fields_check c f.body).statement u before.known ≡ true) is_ready before.checked in
      ⊎_elim
      (λ ctor.
      let asked = if_true f.body.flags.ctor (not f.body.flags.delayed && has_all_fields c.classes f.body.class before.known) false ctor checked in
      let q = and_parts (not f.body.flags.delayed) (has_all_fields c.classes f.body.class before.known) asked in (
        ctor,
        λ g. ⊎_elim
            (λ own. given_known c s (this_of f.locals) (below c.classes f.body.class) before.known (λ h kh. before.so.fields ctor h kh) q.1 g own)
            (λ other. (is.constructs ctor).given (not_true f.body.flags.delayed q.0) g other)
            (cases_Bool (below c.classes f.body.class (field_class c.classes g))),
      ))
      (λ plain. absurd (false≢true (if_false f.body.flags.ctor (not f.body.flags.delayed && has_all_fields c.classes f.body.class before.known) false plain checked)))
      (cases_Bool f.body.flags.ctor)

module _ (c : CoreTree) (formed : IsFormed c) (f : Frame) (s : List Object) (ds : List Due) (is : IsGoodFrame c f s) where
  -- ---- an assignment

  pub assigned_good : (p : Place) (x : ℕ) (e : ExprTree) (v : Value) → f.left ≡ Statement (AssignStmt p x e) ∷ ds → value_of e (scene c f s) ≡ Ok v → IsGoodFrame c (steps.with_local (Some x) v (record f { left = ds })) s
  assigned_good p x e v at ev =
      let b = f.body in
      let st = AssignStmt p x e in
      let good = frame_setting c f s is.sound in
      let fits = declared_some c.classes (code_type c.classes b e) (slice_get (local_types b) x) (typed_here c f s st ds refl at is) in
      let pass = may_pass c f s st ds refl at is in
      let v_typed = value_fits (scene c f s) b b.flags.ctor good e fits.0 v fits.2 ev in
      let v_ready = one_ready (scene c f s) b pass.constructs pass.setting e fits.0 v fits.2 (not_true (pass.constructs && is_this_object e) (and_parts (not (pass.constructs && is_this_object e)) true pass.apart).0) ev in
      let before = before_known c f s st ds refl at is in
      let reads_ = (and_parts (reads_assigned b (before_assigned c f s st ds refl at is).known e) true (reads_evaluated c f s st ds refl at is)).0 in
      let stands : may_stand c b before.known e fits.0 ≡ true = subst (λ o. may_stand_at c b before.known e o ≡ true) fits.1 before.checked in
      let a = fitting_some c.classes (code_type c.classes b e) fits.0 fits.2 in
      let e_typed = code_typed c.classes b e a.0 a.1 in
      let there = slice_get_within (local_types b) x fits.0 fits.1 in
      let count = is.sound.locals.count in
      let may : MayBePut c b st s (Some x) v = record {
        target = λ y eq. let same : x ≡ y = cc in eq-eqb x y same;
        only = λ y h. ap (λ n. Some n) (eqb-true x y h);
        types = λ y eq. let same : x ≡ y = cc in subst (λ n. (t : Ty) × (slice_get (local_types b) n ≡ Some t) × (has_type c.classes s t v ≡ true)) same (fits.0, fits.1, v_typed);
        ready = λ y eq. v_ready;
        non_null = λ y eq nn.
            let same : x ≡ y = cc in
            let nn_x : is_non_null_type (slice_get (local_types b) x) ≡ true = subst (λ n. is_non_null_type (slice_get (local_types b) n) ≡ true) (sym same) nn in
            stands_not_null c f s st ds refl at is e fits.0 v reads_ fits.2 stands ev (sym (ap is_non_null_type fits.1) ∙ nn_x);
      } in
      after_frame c f s st ds refl at is s (Some x) v (later_self c.classes (entry_size f) s) is.sound.store may
      (λ k so. put_true (scene c f s) x v (omega (arith, there, count)) b.flags.ctor (is_never_null (site_of c b) k false e) (learned k e) k so
      (variable_apart b x is.sound.flags (put_variable c f s st ds refl at is s (Some x) v may x refl))
      (λ never. known_not_null c f s st ds refl at is k so e fits.0 v reads_ fits.2 never ev)
      (λ u vu. learned_true (scene c f s) (local_types b) b.flags.ctor good k so e u
      (e_typed ∙ ap (λ t. Some t) (bool_typed c.classes s a.0 v u (value_sound e (scene c f s) (local_types b) b.flags.ctor good a.0 v e_typed ev) vu)) (v, ev, ap as_bool vu)))
      (ready_as_before c f s st ds refl at is s (Some x) v may refl)

  -- ---- writes

  pub written_not_null : (p : Place) (o : ExprTree) (g : ℕ) (m : Mark) (t : ℕ) (e : ExprTree) (w : Value) → f.left ≡ Statement (WriteStmt p o g m t e) ∷ ds → value_of e (scene c f s) ≡ Ok w → is_non_null (field_type c.classes g) ≡ true → IsNotNull w
  written_not_null p o g m t e w at ew nn =
      let b = f.body in
      let st = WriteStmt p o g m t e in
      let reads_ = and_parts (reads_assigned b (before_assigned c f s st ds refl at is).known o) _ (reads_evaluated c f s st ds refl at is) in
      let reads_e = (and_parts (reads_assigned b (before_assigned c f s st ds refl at is).known e) true reads_.1).0 in
      let typed = write_field c.classes b o m t e (slice_get (all_fields c.classes) g) (typed_here c f s st ds refl at is) in
      stands_not_null c f s st ds refl at is e (field_type c.classes g) w reads_e typed (before_known c f s st ds refl at is).checked ew nn

  pub written_good : (p : Place) (o : ExprTree) (g : ℕ) (m : Mark) (t : ℕ) (e : ExprTree) (v w : Value) (z : List Object) → f.left ≡ Statement (WriteStmt p o g m t e) ∷ ds → value_of o (scene c f s) ≡ Ok v → value_of e (scene c f s) ≡ Ok w → write_of c.classes s v g w ≡ Ok z → IsGoodFrame c (record f { left = ds }) z
  written_good p o g m t e v w z at ev ew h =
      let b = f.body in
      let st = WriteStmt p o g m t e in
      let good = frame_setting c f s is.sound in
      let typed = typed_here c f s st ds refl at is in
      let e_typed = write_field c.classes b o m t e (slice_get (all_fields c.classes) g) typed in
      let pass = may_pass c f s st ds refl at is in
      let w_ready = one_ready (scene c f s) b pass.constructs pass.setting e (field_type c.classes g) w e_typed (not_true (pass.constructs && is_this_object e) (and_parts (not (pass.constructs && is_this_object e)) true pass.apart).0) ew in
      let not_null = written_not_null p o g m t e w at ew in
      let z_good = write_good (scene c f s) b b.flags.ctor good formed.admissible o e m t g v w z typed ev ew w_ready
      (λ null. ⊎_elim (λ nn. absurd (not_null nn null)) (λ other. other) (cases_Bool (is_non_null (field_type c.classes g)))) h in
      let may = no_put c f s st ds refl at is z value.Null (λ y. refl) in
      after_frame c f s st ds refl at is z None value.Null (later_write c.classes (entry_size f) s v g w z not_null h) z_good may
      (λ k so. record {
        facts = so.facts;
        sides = λ x u eu. let side = so.sides x u eu in record { facts = side.facts; there = side.there; so = side.so };
        fields = λ ctor q kq. ⊎_elim
            (λ known. so.fields ctor q known)
            (λ new. let r = and_parts (is_this o) (eqb q g) new in new_given o g e v w z ev h not_null r.0 q (eqb-true q g r.1))
            (or_cases (k.fields q) (is_this o && eqb q g) kq);
      })
      (ready_as_before c f s st ds refl at is z None value.Null may refl)
    where
      new_given : (o : ExprTree) (g : ℕ) (e : ExprTree) (v w : Value) (z : List Object) → value_of o (scene c f s) ≡ Ok v → write_of c.classes s v g w ≡ Ok z → (is_non_null (field_type c.classes g) ≡ true → IsNotNull w) → is_this o ≡ true → (q : ℕ) → q ≡ g → HasGiven c z (this_of f.locals) q
      new_given o g e v w z ev h not_null this q same j x iso ex null =
          let v_is : v ≡ value.Obj j = sym (this_value o (scene c f s) v this ev) ∙ iso in
          let h2 = subst (λ u. write_of c.classes s u g w ≡ Ok z) v_is h in
          let w_null : value.Null ≡ w = write_slot c.classes s j g w z h2 x ex value.Null (subst (λ n. field_value x n ≡ Some value.Null) same null) in
          subst (λ n. is_non_null (field_type c.classes n) ≡ false) (sym same)
          (⊎_elim (λ nn. absurd (not_null nn (sym w_null))) (λ other. other) (cases_Bool (is_non_null (field_type c.classes g))))

  pub element_good : (p : Place) (a i e : ExprTree) (v w : Value) (n : ℤ) (z : List Object) → f.left ≡ Statement (WriteElementStmt p a i e) ∷ ds → value_of a (scene c f s) ≡ Ok v → value_of e (scene c f s) ≡ Ok w → write_element_of s v n w ≡ Ok z → IsGoodFrame c (record f { left = ds }) z
  element_good p a i e v w n z at ev ew h =
      let b = f.body in
      let st = WriteElementStmt p a i e in
      let typed = (and_parts (is_int (code_type c.classes b i)) _ (typed_here c f s st ds refl at is)).1 in
      let t = element_some c.classes b e (element_of c.classes (code_type c.classes b a)) typed in
      let pass = may_pass c f s st ds refl at is in
      let w_ready = one_ready (scene c f s) b pass.constructs pass.setting e t.0 w t.1 (not_true (pass.constructs && is_this_object e) (and_parts (not (pass.constructs && is_this_object e)) true pass.apart).0) ew in
      quiet_frame c f s st ds refl at is z (later_write_element c.classes (entry_size f) s v n w z h)
      (write_element_good (scene c f s) b b.flags.ctor (frame_setting c f s is.sound) formed.admissible a e v w n z typed ev ew w_ready h) (λ y. refl) refl (λ k. refl)

  -- ---- unpack and pack

  pub unpacked_good : (p : Place) (x t : ℕ) (z : List Object) → f.left ≡ Statement (UnpackStmt p x t) ∷ ds → unpack_of c.classes s (local_value (scene c f s) x) t ≡ Ok z → IsGoodFrame c (record f { left = ds }) z
  unpacked_good p x t z at h =
      let st = UnpackStmt p x t in
      quiet_frame c f s st ds refl at is z (later_unpack c.classes (entry_size f) s (local_value (scene c f s) x) t z h)
      (unpack_good (scene c f s) f.body f.body.flags.ctor (frame_setting c f s is.sound) formed.admissible x t z (exposable_here c f s st ds refl at is) h) (λ y. refl) refl (λ k. refl)

  pub packed_good : (p : Place) (x t : ℕ) (z : List Object) → f.left ≡ Statement (PackStmt p x t) ∷ ds → pack_of c.classes (invariants_hold c.classes) s (local_value (scene c f s) x) t ≡ Ok z → IsGoodFrame c (record f { left = ds }) z
  packed_good p x t z at h =
      let st = PackStmt p x t in
      quiet_frame c f s st ds refl at is z (later_pack c.classes (entry_size f) (invariants_hold c.classes) s (local_value (scene c f s) x) t z h)
      (pack_good (scene c f s) f.body f.body.flags.ctor (frame_setting c f s is.sound) formed.admissible x t z (exposable_here c f s st ds refl at is) h) (λ y. refl) refl (λ k. refl)

  -- ---- new arrays

  pub array_good : (p : Place) (x : Option ℕ) (t : ℕ) (e : ExprTree) (n : Value) (z : List Object) → f.left ≡ Statement (NewArrayStmt p x t e) ∷ ds → value_of e (scene c f s) ≡ Ok n → new_array_of s t (as_int n) ≡ Ok z →
      IsGoodFrame c (steps.with_local x (value.Obj (length s)) (record f { left = ds })) z
  array_good p x t e n z at en h =
      let b = f.body in
      let st = NewArrayStmt p x t e in
      let typed = typed_here c f s st ds refl at is in
      let q = and_parts _ (is_int (code_type c.classes b e)) typed in
      let r = and_parts _ (fits_kept c.classes b x (Some (class_type t))) q.0 in
      let z_good = new_array_good (scene c f s) b b.flags.ctor (frame_setting c f s is.sound) formed.admissible t e n z r.0 q.1 en h in
      let new = array_at s t (as_int n) z h in
      let v_typed : (u : Ty) → Some (class_type t) ≡ Some u → has_type c.classes z u (value.Obj (length s)) ≡ true = λ u eu.
      let same : class_type t ≡ u = cc in subst (λ y. has_type c.classes z y (value.Obj (length s)) ≡ true) same (rw (new.1, new.2) (sub_self c.classes t)) in
      let v_ready : IsReady z (value.Obj (length s)) = λ o y iso ey.
      let same : length s ≡ o = cc in subst (λ (u : Object). u.ready ≡ true) (same_object z (length s) new.0 y new.1 (subst (λ m. slice_get z m ≡ Some y) (sym same) ey)) new.3 in
      let v_not : IsNotNull (value.Obj (length s)) = λ null. cc in
      let may = kept_may c f s st ds refl at is z x (value.Obj (length s)) (Some (class_type t)) (λ y. refl) r.1 v_typed v_ready (λ y e2 nn. v_not) in
      after_frame c f s st ds refl at is z x (value.Obj (length s)) (later_new_array c.classes (entry_size f) s t (as_int n) z h) z_good may
      (kept_known c f s st ds refl at is z x (value.Obj (length s)) may true (λ nn. v_not)) (ready_as_before c f s st ds refl at is z x (value.Obj (length s)) may refl)

  -- ---- `ready this`

  pub made_ready_good : (p : Place) (o : ℕ) → f.left ≡ Statement (ReadyStmt p) ∷ ds → this_of f.locals ≡ value.Obj o → IsGoodFrame c (record f { left = ds }) (ready_of s o)
  made_ready_good p o at this =
      let b = f.body in
      let st = ReadyStmt p in
      let given = all_given c f s st ds refl at is p refl in
      let ctor = given.0 in
      let object = is.constructs ctor in
      let few : entry_size f ≤ o = let zero_ : entry_size f ≡ 0 = rw ctor refl in omega (arith, zero_) in
      let later = later_ready c.classes (entry_size f) s o few in
      let z_good = Keeps-ready c.classes s (ready_of s o) o refl (λ x g ex null. given.1 g o x this ex null) is.sound.chain formed.admissible is.sound.store in
      let may = no_put c f s st ds refl at is (ready_of s o) value.Null (λ y. refl) in
      after_frame c f s st ds refl at is (ready_of s o) None value.Null later z_good may
      (λ k so. record {
        facts = so.facts;
        sides = λ x u eu. let side = so.sides x u eu in record { facts = side.facts; there = side.there; so = side.so };
        fields = λ ctor2 q kq. later_given c (entry_size f) s (ready_of s o) later (this_of f.locals) object.position object.object object.this object.there q (given.1 q);
      })
      (λ r so ctor2 h q x iso ex.
      let both : value.Obj o ≡ value.Obj q = sym this ∙ iso in
      let same : o ≡ q = cc in
      let w = was (made_ready o) s q x ex in
      subst (λ (u : Object). u.ready ≡ true) w.2 (or_right w.0.ready (eqb q o) (eq-eqb q o (sym same))))
