-- A return gives back a good caller.
use Rattle.std.proofs.Common.{◌≡◌, ℕ, List, [], ◌∷◌, Bool, true, false, not, ◌&&◌, ◌||◌, Option, Some, None, Ok, eqb, refl, sym, ◌∙◌, ap, subst, ⊎_elim}
use Rattle.std.specs.Prelude.{slice_get, if◌then◌else◌, is_none, is_some, option_to_list}
use Rattle.std.specs.List.{list_all}
use Rattle.std.proofs.lemmas.Bool.{false≢true, true≢false, and_parts, or_cases, or_right, cases_Bool, eq-eqb}
use Rattle.ss_core.specs.declared.names.Place.{Place}
use Rattle.ss_core.specs.declared.names.Kind.TheVariants as kind
use Rattle.ss_core.specs.declared.names.Ty.{Ty}
use Rattle.ss_core.specs.Tree.{ClassTree, ExprTree, ReturnStmt, BodyTree, CoreTree}
use Rattle.ss_core.specs.Chain.{below}
use Rattle.ss_core.proofs.Chains.{sub_self}
use Rattle.ss_store_rules.specs.declared.Value.{Value}
use Rattle.ss_store_rules.specs.declared.Value.TheVariants as value
use Rattle.ss_store_rules.specs.Store.{Object}
use Rattle.ss_store_rules.specs.Values.{value_of}
use Rattle.ss_store_rules.specs.Changes.{field_class, made_ready, ready_of}
use Rattle.ss_store_rules.specs.Types.{class_type, in_code, is_condition, code_type}
use Rattle.ss_store_rules.specs.Locals.{result_number}
use Rattle.ss_store_rules.specs.Typed.{has_type_in, is_returned, is_typed}
use Rattle.ss_store_rules.specs.Good.{has_type, is_non_null, IsReady}
use Rattle.ss_store_rules.specs.Keeps.{HasItsFields}
use Rattle.ss_store_rules.specs.Assigned.{assigned_flow, assigned_check, reads_assigned}
use Rattle.ss_store_rules.specs.NonNull.{known_flow, null_check, is_this_object, is_non_null_type, site_of, is_never_null, may_stand, may_stand_at, may_return}
use Rattle.ss_store_rules.specs.Construction.{has_all_fields}
use Rattle.ss_store_rules.specs.Formed.{has_flags, IsFormed}
use Rattle.ss_store_rules.proofs.Keeps.{Keeps-ready}
use Rattle.ss_store_rules.proofs.Levels.{declared_at_level}
use Rattle.ss_store_rules.proofs.Objects.{was, same_object}
use Rattle.ss_store_rules.proofs.Owners.{not_true}
use Rattle.ss_machine_rules.specs.Frame.{this_of, is_kept}
use Rattle.ss_machine_rules.specs.States.{Due, Statement, Target, ToCall, ToNew, Frame, put, scene, span}
use Rattle.ss_machine_rules.specs.Steps as steps
use Rattle.ss_machine_typed.proofs.Outcomes.{ok_same}
use Rattle.ss_machine_good.specs.Flows.{IsKnown, IsEnd}
use Rattle.ss_machine_good.specs.Known.{IsNotNull, IsTrueOf, AreAssigned}
use Rattle.ss_machine_good.specs.Frames.{all_left}
use Rattle.ss_machine_good.proofs.Flows.{known_return}
use Rattle.ss_machine_good.proofs.NonNull.{never_null}
use Rattle.ss_machine_good.proofs.Steps.{value_fits, code_typed, fitting_some}
use Rattle.ss_machine_good.proofs.Calls.{one_ready}
use Rattle.ss_machine_good.proofs.Frames.{frame_setting}
use Rattle.ss_machine_good.specs.Checks.{has_every_field, fields_check, ready_flow, ready_check, IsThisReady}
use Rattle.ss_machine_good.specs.LaterFrames.{HasGiven, IsToNew, IsGoodFrame, entry_size, constructed, IsAnswer, IsWaiting, AreWaiting, IsNewTo, AreNew}
use Rattle.ss_machine_good.proofs.Later.{later_self, later_ready}
use Rattle.ss_machine_good.proofs.Behind.{later_given}
use Rattle.ss_machine_good.proofs.Statements.{given_known, if_true}
use Rattle.ss_machine_good.specs.Stacks.{IsGoodStack, GoesGood}
use Rattle.ss_machine_good.proofs.Waiting.{all_waiting_ready, same_waiting}
use Rattle.ss_machine_good.proofs.CallsOfRuns.{holds_then, constructs_this}

none_if : (ctor static none delayed : Bool) → ((not ctor || not static && none) && (not delayed || ctor)) ≡ true → ctor ≡ true → none ≡ true
none_if true static none delayed h e = (and_parts (not static) none (and_parts (not static && none) (not delayed || true) h).0).1
none_if false static none delayed h e = absurd (false≢true e)

-- a constructor has no result
pub constructor_result : (b : BodyTree) → has_flags b ≡ true → b.flags.ctor ≡ true → b.result ≡ None
constructor_result b flags ctor = here b.result (none_if b.flags.ctor b.flags.is_static (is_none b.result) b.flags.delayed flags ctor)
  where
    here : (o : Option Ty) → is_none o ≡ true → o ≡ None
    here None h = refl
    here (Some t) h = absurd (false≢true h)

nothing_returned : (cs : List ClassTree) (b : BodyTree) (r : Option Ty) → is_returned cs b r None ≡ true → r ≡ None
nothing_returned cs b None h = refl
nothing_returned cs b (Some t) h = absurd (false≢true h)

something_returned : (cs : List ClassTree) (b : BodyTree) (r : Option Ty) (x : ExprTree) → is_returned cs b r (Some x) ≡ true → (t : Ty) × (r ≡ Some t) × (has_type_in cs b x t ≡ true)
something_returned cs b None x h = absurd (false≢true h)
something_returned cs b (Some t) x h = (t, refl, h)

-- a value that a body may give back as its result
pub record IsResult (c : CoreTree) (b : BodyTree) (s : List Object) (v : Value) : Type 0 where
  types : (t : Ty) → b.result ≡ Some t → has_type c.classes s t v ≡ true
  ready : IsReady s v
  non_null : is_non_null_type b.result ≡ true → IsNotNull v

module _ (c : CoreTree) (formed : IsFormed c) (f : Frame) (s : List Object) (p : Place) (e : Option ExprTree) (ds : List Due) (at : f.left ≡ Statement (ReturnStmt p e) ∷ ds) (is : IsGoodFrame c f s) where
  assigned_end : IsEnd assigned_flow (assigned_check f.body) (AreAssigned f.body) (ReturnStmt p e) (scene c f s)
  assigned_end = known_return assigned_flow (assigned_check f.body) (AreAssigned f.body) p e ds (scene c f s) (subst (λ l. IsKnown assigned_flow (assigned_check f.body) (AreAssigned f.body) l (scene c f s)) at is.sound.assigned)

  known_end : IsEnd (known_flow c f.body) (null_check c f.body) (IsTrueOf f.body.flags.ctor) (ReturnStmt p e) (scene c f s)
  known_end = known_return (known_flow c f.body) (null_check c f.body) (IsTrueOf f.body.flags.ctor) p e ds (scene c f s) (subst (λ l. IsKnown (known_flow c f.body) (null_check c f.body) (IsTrueOf f.body.flags.ctor) l (scene c f s)) at is.sound.known)

  fields_end : IsEnd (known_flow c f.body) (fields_check c f.body) (IsTrueOf f.body.flags.ctor) (ReturnStmt p e) (scene c f s)
  fields_end = known_return (known_flow c f.body) (fields_check c f.body) (IsTrueOf f.body.flags.ctor) p e ds (scene c f s) (subst (λ l. IsKnown (known_flow c f.body) (fields_check c f.body) (IsTrueOf f.body.flags.ctor) l (scene c f s)) at is.fields)

  ready_end : IsEnd (ready_flow c) (ready_check f.body) (IsThisReady f.body.flags.ctor) (ReturnStmt p e) (scene c f s)
  ready_end = known_return (ready_flow c) (ready_check f.body) (IsThisReady f.body.flags.ctor) p e ds (scene c f s) (subst (λ l. IsKnown (ready_flow c) (ready_check f.body) (IsThisReady f.body.flags.ctor) l (scene c f s)) at is.ready)

  typed_end : is_returned c.classes f.body f.body.result e ≡ true
  typed_end = (and_parts (is_typed c f.body (ReturnStmt p e)) _ (subst (λ l. all_left (is_typed c f.body) (is_condition c.classes f.body in_code) l ≡ true) at is.sound.typed)).0

  result_none : (v : Value) → f.body.result ≡ None → v ≡ value.Null → IsResult c f.body s v
  result_none v none null = record {
    types = λ t some. absurd (let both : None ≡ Some t = sym none ∙ some in let no_one : ⊥ = cc in no_one);
    ready = λ o x iso ex. absurd (let both : value.Null ≡ value.Obj o = sym null ∙ iso in let no_one : ⊥ = cc in no_one);
    non_null = λ h. absurd (false≢true (sym (ap is_non_null_type none) ∙ h));
  }

  result_some : (x : ExprTree) (v : Value) → e ≡ Some x → value_of x (scene c f s) ≡ Ok v → IsResult c f.body s v
  result_some x v is_some_ ev =
      let b = f.body in
      let r = something_returned c.classes b b.result x (subst (λ o. is_returned c.classes b b.result o ≡ true) is_some_ typed_end) in
      let good = frame_setting c f s is.sound in
      let plain = ⊎_elim (λ ctor. absurd (let both : None ≡ Some r.0 = sym (constructor_result b is.sound.flags ctor) ∙ r.1 in let no_one : ⊥ = cc in no_one)) (λ other. other) (cases_Bool b.flags.ctor) in
      let a = fitting_some c.classes (code_type c.classes b x) r.0 r.2 in
      let reads_all = (and_parts (list_all (reads_assigned b assigned_end.known) (option_to_list e)) true assigned_end.checked).0 in
      let reads_ = (and_parts (reads_assigned b assigned_end.known x) true (subst (λ o. list_all (reads_assigned b assigned_end.known) (option_to_list o) ≡ true) is_some_ reads_all)).0 in
      let may : may_return c b known_end.known (Some x) ≡ true = subst (λ o. may_return c b known_end.known o ≡ true) is_some_ known_end.checked in
      let stands : may_stand c b known_end.known x r.0 ≡ true = subst (λ o. may_stand_at c b known_end.known x o ≡ true) r.1 may in
      let v_typed = value_fits (scene c f s) b b.flags.ctor good x r.0 v r.2 ev in
      record {
        types = λ t some. let both : Some r.0 ≡ Some t = sym r.1 ∙ some in let same : r.0 ≡ t = cc in subst (λ z. has_type c.classes s z v ≡ true) same v_typed;
        ready = one_ready (scene c f s) b b.flags.ctor good x r.0 v r.2 (apart_if b.flags.ctor (is_this_object x) plain) ev;
        non_null = λ h.
            let nn : is_non_null r.0 ≡ true = sym (ap is_non_null_type r.1) ∙ h in
            ⊎_elim
            (λ no_need. absurd (true≢false (sym nn ∙ not_true (is_non_null r.0) no_need)))
            (λ never. never_null b assigned_end.known known_end.known x (scene c f s) good is.sound.was_ready assigned_end.so known_end.so false refl reads_ a.0 (code_typed c.classes b x a.0 a.1) never v ev)
            (or_cases (not (is_non_null r.0)) (is_never_null (site_of c b) known_end.known false x) stands);
      }
    where
      apart_if : (k m : Bool) → k ≡ false → (k && m) ≡ false
      apart_if true m h = absurd (true≢false h)
      apart_if false m h = refl

  pub result_is : (o : Option ExprTree) → e ≡ o → (v : Value) → steps.result_value o (scene c f s) ≡ Ok v → IsResult c f.body s v
  result_is None same v ev = result_none v (nothing_returned c.classes f.body f.body.result (subst (λ o. is_returned c.classes f.body f.body.result o ≡ true) same typed_end)) (sym (ok_same value.Null v ev))
  result_is (Some x) same v ev = result_some x v same ev

  -- the fields that a constructor has given
  given_end : f.body.flags.ctor ≡ true → (g : ℕ) → (f.body.flags.delayed ≡ true → below c.classes f.body.class (field_class c.classes g) ≡ true) → HasGiven c s (constructed f) g
  given_end ctor g own =
      let asked = if_true f.body.flags.ctor (if f.body.flags.delayed then has_all_fields c.classes f.body.class fields_end.known else has_every_field c.classes fields_end.known) _ ctor fields_end.checked in
      subst (λ u. HasGiven c s u g) (sym (constructs_this f ctor))
      (⊎_elim
      (λ delayed. given_known c s (this_of f.locals) (below c.classes f.body.class) fields_end.known (λ h kh. fields_end.so.fields ctor h kh) (if_true f.body.flags.delayed _ _ delayed asked) g (own delayed))
      (λ undelayed. given_known c s (this_of f.locals) (λ t. true) fields_end.known (λ h kh. fields_end.so.fields ctor h kh) (if_other f.body.flags.delayed _ _ undelayed asked) g refl)
      (cases_Bool f.body.flags.delayed))
    where
      if_other : (k a d : Bool) → k ≡ false → (if k then a else d) ≡ true → d ≡ true
      if_other true a d h g = absurd (true≢false h)
      if_other false a d h g = g

  whole_end : f.body.flags.ctor ≡ true → f.body.flags.delayed ≡ false → IsReady s (constructed f)
  whole_end ctor undelayed = subst (IsReady s) (sym (constructs_this f ctor))
      (⊎_elim
      (λ plain. absurd (false≢true (sym (ap not ctor) ∙ plain)))
      (λ rest. ⊎_elim (λ delayed. absurd (true≢false (sym delayed ∙ undelayed))) (λ ready. ready_end.so ctor ready) (or_cases f.body.flags.delayed ready_end.known rest))
      (or_cases (not f.body.flags.ctor) (f.body.flags.delayed || ready_end.known) ready_end.checked))

  pub answer_call : (x : Option ℕ) (v : Value) → IsResult c f.body s v → IsAnswer c f.body (ToCall x) (constructed f) s v
  answer_call x v result = record { types = result.types; ready = result.ready; non_null = result.non_null; fields = given_end; whole = whole_end }

  module _ (fs : List Frame) (caller : Frame) (waiting : AreWaiting c s f (caller ∷ fs)) (new : AreNew (f ∷ caller ∷ fs)) where
    called_back : (x : Option ℕ) (v : Value) → f.into ≡ ToCall x → IsResult c f.body s v → IsGoodStack c (steps.with_local x v caller ∷ fs) s
    called_back x v into result =
        let wait = subst (λ i. IsWaiting c s f.body i (constructed f) caller) into waiting.0 in (
          wait.goes_on s v (later_self c.classes (entry_size caller) s) is.sound.store (answer_call x v result),
          same_waiting c s caller (steps.with_local x v caller) fs refl refl (wait.keeps v) waiting.1,
          (subst (λ u. IsNewTo u fs) (sym (wait.keeps v)) new.1.0, new.1.1),
        )

    new_back : (x : Option ℕ) (o : ℕ) → f.into ≡ ToNew x → f.body.flags.ctor ≡ true → this_of f.locals ≡ value.Obj o → IsGoodStack c (steps.with_local x (value.Obj o) caller ∷ fs) (ready_of s o)
    new_back x o into ctor this =
        let b = f.body in
        let z = ready_of s o in
        let wait = subst (λ i. IsWaiting c s f.body i (constructed f) caller) into waiting.0 in
        let k = is.constructs ctor in
        let same_place : k.position ≡ o = let both : value.Obj k.position ≡ value.Obj o = sym k.this ∙ this in cc in
        let there : slice_get s o ≡ Some k.object = subst (λ n. slice_get s n ≡ Some k.object) same_place k.there in
        let of_class : k.object.class ≡ b.class = k.exact (subst IsToNew (sym into) tt) in
        let built : constructed f ≡ value.Obj o = constructs_this f ctor ∙ this in
        let apart = subst (λ u. IsNewTo u (caller ∷ fs)) built new.0 in
        let later = later_ready c.classes (entry_size caller) s o (apart.0 o refl) in
        let has : HasItsFields c.classes s o = λ y g ey null.
        let y_is : k.object ≡ y = same_object s o k.object y there ey in
        let level = declared_at_level c.classes s y g value.Null (is.sound.store o y ey).values null in
        let own : below c.classes b.class (field_class c.classes g) ≡ true = subst (λ n. below c.classes n (field_class c.classes g) ≡ true) (ap (λ (n : Object). n.class) (sym y_is) ∙ of_class) level in
        given_end ctor g (λ delayed. own) o y built ey null in
        let good = Keeps-ready c.classes s z o refl has is.sound.chain formed.admissible is.sound.store in
        let r = later.older o k.object there in
        let o_ready : IsReady z (value.Obj o) = λ q y iso ey.
        let same : o ≡ q = cc in
        let w = was (made_ready o) s q y ey in
        subst (λ (u : Object). u.ready ≡ true) w.2 (or_right w.0.ready (eqb q o) (eq-eqb q o (sym same))) in
        let answer : IsAnswer c b (ToNew x) (constructed f) z (value.Obj o) = record {
          types = λ t some.
              let same : class_type b.class ≡ t = cc in
              let class : r.object.class ≡ b.class = r.class ∙ of_class in
              subst (λ n. has_type c.classes z n (value.Obj o) ≡ true) same (rw (r.there, class) (sub_self c.classes b.class));
          ready = o_ready;
          non_null = λ h null. cc;
          fields = λ ctor2 g own. later_given c (entry_size caller) s z later (constructed f) o k.object built there g (given_end ctor g own);
          whole = λ ctor2 undelayed. subst (IsReady z) (sym built) o_ready;
        } in (
          wait.goes_on z (value.Obj o) later good answer,
          all_waiting_ready c s z o (λ n low. later_ready c.classes n s o low) (steps.with_local x (value.Obj o) caller) fs apart.1
              (same_waiting c s caller (steps.with_local x (value.Obj o) caller) fs refl refl (wait.keeps (value.Obj o)) waiting.1),
          (subst (λ u. IsNewTo u fs) (sym (wait.keeps (value.Obj o))) new.1.0, new.1.1),
        )

    -- what a constructor constructs isn't touched by its result, which it hasn't
    this_end : (v : Value) → f.body.flags.ctor ≡ true → this_of (put (steps.result_local f.body) v f.locals) ≡ this_of f.locals
    this_end v ctor = ap (λ x. this_of (put x v f.locals)) (here f.body.result (constructor_result f.body is.sound.flags ctor))
      where
        here : (r : Option Ty) → r ≡ None → (if is_some r then Some (result_number f.body) else None) ≡ None
        here None h = refl
        here (Some t) h = absurd (let no_one : ⊥ = cc in no_one)

    back_good : (into : Target) (v : Value) → f.into ≡ into → IsResult c f.body s v → GoesGood c (steps.back into v (this_of (put (steps.result_local f.body) v f.locals)) caller fs s)
    back_good (ToCall x) v into result = called_back x v into result
    back_good (ToNew x) v into result =
        let ctor = is.new (subst IsToNew (sym into) tt) in
        let k = is.constructs ctor in
        let this = this_end v ctor ∙ k.this in
        subst (λ u. IsGoodStack c (steps.with_local x u caller ∷ fs) (steps.with_ready s u)) (sym this) (new_back x k.position into ctor k.this)

  leave_good : (fs : List Frame) → AreWaiting c s f fs → AreNew (f ∷ fs) → (v : Value) → IsResult c f.body s v → GoesGood c (steps.leave v (steps.with_local (steps.result_local f.body) v (record f { left = ds })) fs s)
  leave_good [] waiting new v result = is.sound.store
  leave_good (caller ∷ fs) waiting new v result = back_good fs caller waiting new f.into v refl result

  -- a return, its checks passed
  pub return_good : (fs : List Frame) → AreWaiting c s f fs → AreNew (f ∷ fs) → (v : Value) → steps.result_value e (scene c f s) ≡ Ok v → GoesGood c (steps.exit c p v (record f { left = ds }) fs s)
  return_good fs waiting new v ev =
      let g = steps.with_local (steps.result_local f.body) v (record f { left = ds }) in
      let frame = steps.where_holds (is_kept (span c g s [])) kind.Frame p (steps.leave v g fs s) in
      holds_then c (steps.all_hold g.body.exit (scene c g s)) kind.Postcondition p frame
      (holds_then c (is_kept (span c g s [])) kind.Frame p (steps.leave v g fs s) (leave_good fs waiting new v (result_is e refl v ev)))
