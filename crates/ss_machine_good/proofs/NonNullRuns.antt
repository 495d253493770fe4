-- What is known of null along the code of a body is so in the frame that runs, in each state of a run.
use Rattle.std.proofs.Common.{◌≡◌, ℕ, zero, suc, ℤ, ◌+◌, ◌<◌, List, [], ◌∷◌, ◌++◌, map, length, Bool, true, false, not, ◌==◌, ◌&&◌, Option, Some, None, Ok, Err, refl, sym, ◌∙◌, ap, subst, arith, length-append, append_assoc}
use Rattle.std.specs.Prelude.{slice_get, if◌then◌else◌, Result, option_to_list}
use Rattle.std.proofs.lemmas.Bool.{and_parts, eqb-true, ltb-true}
use Rattle.std.proofs.lemmas.List.{length-map}
use Rattle.ss_core.specs.declared.names.Place.{Place}
use Rattle.ss_core.specs.declared.names.Kind.{Kind}
use Rattle.ss_core.specs.declared.names.Kind.TheVariants as kind
use Rattle.ss_core.specs.Tree.{ExprTree, CalleeTree, Dispatched, Static, Base, BaseConstructor, ExposedTree, StmtTree, AssignStmt, WriteStmt, WriteElementStmt, NewStmt, NewArrayStmt, CallStmt, ReadyStmt, IfStmt, LoopStmt, UnpackStmt, PackStmt, AssertStmt, AssumeStmt, PrintStmt, PrintTextStmt, ReturnStmt, BodyTree, CoreTree}
use Rattle.ss_core.specs.Chain.{is_declared, above, below}
use Rattle.ss_core.proofs.Chains.{sub-below}
use Rattle.ss_store_rules.specs.declared.Value.{Value}
use Rattle.ss_store_rules.specs.declared.Value.TheVariants as value
use Rattle.ss_store_rules.specs.declared.Undefined.{Undefined}
use Rattle.ss_store_rules.specs.Store.{Object, default_value}
use Rattle.ss_store_rules.specs.Numbers.{Outcome}
use Rattle.ss_store_rules.specs.Reads.{as_int, as_bool, object_at}
use Rattle.ss_store_rules.specs.Values.{setting, local_value, value_of, holds}
use Rattle.ss_store_rules.specs.Changes.{unpack_of, pack_of, write_of, write_element_of, new_object_of, new_array_of, ready_of}
use Rattle.ss_store_rules.specs.Admissible.{invariants_hold}
use Rattle.ss_store_rules.specs.Admitted.{first_store, first_locals}
use Rattle.ss_store_rules.specs.Locals.{types_of, argument_types, argument_count, local_types, is_target}
use Rattle.ss_store_rules.specs.Types.{class_type, is_int, code_type}
use Rattle.ss_store_rules.specs.Typed.{is_instance_method, stands_in_table, body_at, method_at, constructor_of, fits_kept, is_call_of, is_constructor_of}
use Rattle.ss_store_rules.specs.Assigned.{assigned_flow, assigned_check}
use Rattle.ss_store_rules.specs.NonNull.{Known, known_after, may_enter, arguments_may_stand}
use Rattle.ss_store_rules.specs.Formed.{IsFormed}
use Rattle.ss_store_rules.proofs.Owners.{not_true}
use Rattle.ss_machine_rules.specs.Frame.{this_of, is_kept}
use Rattle.ss_machine_rules.specs.States.{Due, Statement, Test, dues, Target, ToCall, ToNew, Frame, State, Running, Done, Failed, Stopped, Next, Goes, Over, Fails, Stops, locals_at_entry, put, frame_at_entry, scene, span}
use Rattle.ss_machine_rules.specs.Steps as steps
use Rattle.ss_machine_rules.specs.Steps.{go_into}
use Rattle.ss_machine_rules.specs.Runs.{then_is, step, start_with, run}
use Rattle.ss_machine_typed.specs.Inputs.{IsInput}
use Rattle.ss_machine_typed.proofs.Sound.{class_of_type, object_typed, value_sound}
use Rattle.ss_machine_good.specs.Flows.{is_simple, Loop, IsKnown}
use Rattle.ss_machine_good.specs.Known.{IsNotNull, IsTrueOf, AreAssigned}
use Rattle.ss_machine_good.proofs.Dispatch.{dispatch_finds}
use Rattle.ss_machine_good.proofs.Flows.{known_unended}
use Rattle.ss_machine_good.proofs.Frames.{frame_setting}
use Rattle.ss_machine_good.proofs.Start.{argument_not_null, static_arguments}
use Rattle.ss_machine_good.proofs.Steps.{code_typed}
use Rattle.ss_machine_good.proofs.Bases.{where_some}
use Rattle.ss_machine_good.specs.Later.{IsLater}
use Rattle.ss_machine_good.specs.LaterFrames.{IsToNew, IsGoodFrame, entry_size, constructed, IsWaiting, AreWaiting, IsNewTo, AreNew}
use Rattle.ss_machine_good.proofs.Later.{later_self, later_trans, later_unpack, later_pack, later_write, later_write_element, later_new_object, later_new_array, later_ready}
use Rattle.ss_machine_good.proofs.Behind.{constructor_instance}
use Rattle.ss_machine_good.proofs.Values.{before_known, reads_evaluated, arguments_not_null}
use Rattle.ss_machine_good.proofs.Statements.{typed_here, all_given, written_not_null}
use Rattle.ss_machine_good.specs.Stacks.{IsGoodStack, HasGoodStack, GoesGood}
use Rattle.ss_machine_good.proofs.Entering.{AreNotNullArguments, arguments_assigned}
use Rattle.ss_machine_good.proofs.CallsOfRuns.{constructs_this, with_this, call_parts, called, static_stack, dispatched_stack, base_stack}
use Rattle.ss_machine_good.proofs.Constructions.{found_passes, new_stack, constructor_stack}
use Rattle.ss_machine_good.proofs.Returns.{result_is, answer_call}
use Rattle.ss_machine_good.proofs.Runs.{run_stack}
use Rattle.ss_machine_good.proofs.Followed.{IsFollowed, IsGiven, WillBeFollowed, AreFollowed, same_followed, later_followed, ready_followed, entered_followed, after_followed, quiet_followed, constructed_same, kept_true, kept_assigned, assigned_followed, forked_followed, looping_followed, tested_followed, caller_followed}
use Rattle.ss_machine_good.proofs.Constructors.{written_followed, ready_is_followed, base_is, base_ctor, constructor_followed, this_at_end}

abbrev pub IsFollowedStack : CoreTree → List Frame → List Object → Type 0
IsFollowedStack c [] s = Unit {0}
IsFollowedStack c (f ∷ fs) s = IsFollowed c f s × AreFollowed c s f fs

abbrev pub HasFollowed : CoreTree → State → Type 0
HasFollowed c (Running fs s before) = IsFollowedStack c fs s
HasFollowed c (Done s before) = Unit {0}
HasFollowed c (Failed k at before) = Unit {0}
HasFollowed c (Stopped at s before) = Unit {0}

abbrev pub GoesFollowed : CoreTree → Next → Type 0
GoesFollowed c (Goes fs s piece) = IsFollowedStack c fs s
GoesFollowed c (Over s) = Unit {0}
GoesFollowed c (Fails k at) = Unit {0}
GoesFollowed c (Stops at) = Unit {0}

-- where the locals have the count of the body, so have its arguments
count_of : (b : BodyTree) (vs : List Value) → length (locals_at_entry b vs) ≡ length (local_types b) → length vs ≡ argument_count b
count_of b vs h =
    let grouped : length (local_types b) ≡ length (argument_types b ++ (types_of b.locals ++ option_to_list b.result)) = ap length (append_assoc (argument_types b) (types_of b.locals) (option_to_list b.result)) in
    let sum : length vs + length (map default_value (types_of b.locals ++ option_to_list b.result)) ≡ length (argument_types b) + length (types_of b.locals ++ option_to_list b.result) =
    sym (length-append vs (map default_value (types_of b.locals ++ option_to_list b.result))) ∙ h ∙ grouped ∙ length-append (argument_types b) (types_of b.locals ++ option_to_list b.result) in
    let defaults = length-map (types_of b.locals ++ option_to_list b.result) default_value in
    omega (arith, sum, defaults)

module _ (c : CoreTree) where
  value_then : (r : Outcome) (k : Value → Next) → ((v : Value) → r ≡ Ok v → GoesFollowed c (k v)) → GoesFollowed c (steps.with_value r k)
  value_then (Ok v) k h = h v refl
  value_then (Err u) k h = tt

  values_then : (r : Result (List Value) Undefined) (k : List Value → Next) → ((vs : List Value) → r ≡ Ok vs → GoesFollowed c (k vs)) → GoesFollowed c (steps.with_values r k)
  values_then (Ok vs) k h = h vs refl
  values_then (Err u) k h = tt

  change_then : (r : Result (List Object) Kind) (at : Place) (f : Frame) (fs : List Frame) → ((z : List Object) → r ≡ Ok z → IsFollowedStack c (f ∷ fs) z) → GoesFollowed c (steps.changes r at f fs)
  change_then (Ok z) at f fs h = h z refl
  change_then (Err k) at f fs h = tt

  array_then : (r : Result (List Object) Kind) (o : ℕ) (at : Place) (x : Option ℕ) (f : Frame) (fs : List Frame) → ((z : List Object) → r ≡ Ok z → IsFollowedStack c (steps.with_local x (value.Obj o) f ∷ fs) z) → GoesFollowed c (steps.made_array r o at x f fs)
  array_then (Ok z) o at x f fs h = h z refl
  array_then (Err k) o at x f fs h = tt

  assume_then : (b : Bool) (at : Place) (n : Next) → GoesFollowed c n → GoesFollowed c (if b then n else Stops at)
  assume_then true at n h = h
  assume_then false at n h = tt

  holds_then : (b : Bool) (k : Kind) (at : Place) (n : Next) → GoesFollowed c n → GoesFollowed c (steps.where_holds b k at n)
  holds_then true k at n h = h
  holds_then false k at n h = tt

  head_then : (at : Place) (invariants : List ExprTree) (exposes : List ExposedTree) (f : Frame) (fs : List Frame) (s : List Object) (n : Next) → GoesFollowed c n → GoesFollowed c (steps.at_head c at invariants exposes f fs s n)
  head_then at invariants exposes f fs s n h =
      let level = steps.where_holds (steps.are_exposed c.classes s f exposes) kind.LoopLevel at n in
      let frame = steps.where_holds (is_kept (span c f s (map (steps.held_by f) exposes))) kind.LoopFrame at level in
      holds_then (steps.all_hold invariants (scene c f s)) kind.LoopInvariant at frame
      (holds_then (is_kept (span c f s (map (steps.held_by f) exposes))) kind.LoopFrame at level (holds_then (steps.are_exposed c.classes s f exposes) kind.LoopLevel at n h))

  -- a body is entered with a good frame
  enter_then : (o : Option BodyTree) (b : BodyTree) (at : Place) (into : Target) (vs : List Value) (f : Frame) (fs : List Frame) (s : List Object) → o ≡ Some b → GoesGood c (steps.enter c o at into vs f fs s) →
      (IsGoodFrame c (frame_at_entry b (locals_at_entry b vs) s into) s → IsFollowedStack c (frame_at_entry b (locals_at_entry b vs) s into ∷ f ∷ fs) s) → GoesFollowed c (steps.enter c o at into vs f fs s)
  enter_then o b at into vs f fs s is good stack =
      subst (λ z. GoesGood c (steps.enter c z at into vs f fs s) → GoesFollowed c (steps.enter c z at into vs f fs s)) (sym is) (here (steps.all_hold b.entry (setting c.classes s s (locals_at_entry b vs)))) good
    where
      here : (t : Bool) → GoesGood c (steps.where_holds t kind.Precondition at (Goes (frame_at_entry b (locals_at_entry b vs) s into ∷ f ∷ fs) s [])) → GoesFollowed c (steps.where_holds t kind.Precondition at (Goes (frame_at_entry b (locals_at_entry b vs) s into ∷ f ∷ fs) s []))
      here true q = stack q.0
      here false q = tt

  module _ (formed : IsFormed c) (f : Frame) (s : List Object) (fs : List Frame) (is : IsGoodFrame c f s) (waiting : AreWaiting c s f fs) (new : AreNew (f ∷ fs)) (are : IsFollowed c f s) (below_are : AreFollowed c s f fs) where
    -- the frame goes on
    on_stack : (g : Frame) (z : List Object) → IsFollowed c g z → ((n : ℕ) → IsLater c.classes n s z) → g.body ≡ f.body → g.into ≡ f.into → constructed g ≡ constructed f → IsFollowedStack c (g ∷ fs) z
    on_stack g z now later body into same = (now, same_followed c z f g fs body into same (later_followed c s z later f fs below_are))

    -- after a statement that makes nothing known
    quiet : (st : StmtTree) (ds : List Due) (z : List Object) → is_simple st ≡ true → f.left ≡ Statement st ∷ ds → ((n : ℕ) → IsLater c.classes n s z) → ((y : ℕ) → is_target st y ≡ false) → ((k : Known) → known_after c f.body st k ≡ k) → IsFollowedStack c (record f { left = ds } ∷ fs) z
    quiet st ds z simple at later none same =
        on_stack (record f { left = ds }) z (quiet_followed c f s st ds simple at is are z (later (entry_size f)) none (λ k so. subst (λ j. IsTrueOf f.body.flags.ctor j (scene c f z)) (sym (same k)) so)) later refl refl refl

    -- a body is entered, and the frame waits for it
    entered : (b : BodyTree) (vs : List Value) (z : List Object) (into : Target) (ds : List Due) → ((m : ℕ) → IsLater c.classes m s z) → AreNotNullArguments b vs → ((this : Value) → WillBeFollowed c z b into this (record f { left = ds })) →
        IsGoodFrame c (frame_at_entry b (locals_at_entry b vs) z into) z → IsFollowedStack c (frame_at_entry b (locals_at_entry b vs) z into ∷ record f { left = ds } ∷ fs) z
    entered b vs z into ds later not_null will good = (
      entered_followed c b good.formed (locals_at_entry b vs) z into (arguments_assigned c b z vs (count_of b vs good.sound.locals.count) not_null),
      (will (constructed (frame_at_entry b (locals_at_entry b vs) z into)), same_followed c z f (record f { left = ds }) fs refl refl refl (later_followed c s z later f fs below_are)),
    )

    -- ---- calls

    new_followed : (p : Place) (x : Option ℕ) (t : ℕ) (es : List ExprTree) (vs : List Value) (ds : List Due) → f.left ≡ Statement (NewStmt p x t es) ∷ ds → steps.values_of es (scene c f s) ≡ Ok vs →
        GoesFollowed c (steps.enter c (constructor_of c t) p (ToNew x) (value.Obj (length s) ∷ vs) (record f { left = ds }) fs (new_object_of c.classes s t))
    new_followed p x t es vs ds at h =
        let st = NewStmt p x t es in
        let s1 = new_object_of c.classes s t in
        let typed = and_parts (is_declared c.classes t && fits_kept c.classes f.body x (Some (class_type t))) (is_call_of c.classes f.body None es (constructor_of c t)) (typed_here c f s st ds refl at is) in
        let q = and_parts (is_declared c.classes t) (fits_kept c.classes f.body x (Some (class_type t))) typed.0 in
        let k = call_parts c f.body None es (constructor_of c t) typed.1 in
        let b = k.0 in
        let found = found_passes (is_constructor_of t) c.bodies b k.1 in
        let r = and_parts b.flags.ctor (b.class == t) found.2 in
        let instance_ = constructor_instance b (formed.bodies found.0 b found.1).flags r.0 in
        let before = before_known c f s st ds refl at is in
        let stands : arguments_may_stand c f.body before.known es (types_of b.params) ≡ true = subst (λ z. may_enter c f.body before.known es z ≡ true) k.1 before.checked in
        let not_null = arguments_not_null c f s st ds refl at is es (types_of b.params) vs (reads_evaluated c f s st ds refl at is) k.2 stands h in
        enter_then (constructor_of c t) b p (ToNew x) (value.Obj (length s) ∷ vs) (record f { left = ds }) fs s1 k.1 (new_stack c formed f s ds fs is waiting new p x t es vs at h)
        (entered b (value.Obj (length s) ∷ vs) s1 (ToNew x) ds (λ n. later_new_object c.classes n s t) (with_this b vs (length s) instance_ not_null)
        (λ this z v later given. after_followed c f s st ds refl at is are z x v (later_trans c.classes (entry_size f) s s1 z (later_new_object c.classes (entry_size f) s t) later)
        (λ j so. kept_true c f s st ds refl at is x v (λ y. refl) z (Some (class_type t)) q.1 true (λ yes. given.non_null refl) j so)
        (kept_assigned c f s st ds refl at is x v (λ y. refl) z (Some (class_type t)) q.1 (λ y e nn. given.non_null refl))))

    method_followed : (b : BodyTree) (p : Place) (x : Option ℕ) (vs : List Value) (ds : List Due) (o : Option BodyTree) → o ≡ Some b → GoesGood c (steps.enter c o p (ToCall x) vs (record f { left = ds }) fs s) → AreNotNullArguments b vs → ((this : Value) → WillBeFollowed c s b (ToCall x) this (record f { left = ds })) →
        GoesFollowed c (steps.enter c o p (ToCall x) vs (record f { left = ds }) fs s)
    method_followed b p x vs ds o is_b good not_null will = enter_then o b p (ToCall x) vs (record f { left = ds }) fs s is_b good (entered b vs s (ToCall x) ds (λ m. later_self c.classes m s) not_null will)

    dispatched_followed : (p : Place) (x : Option ℕ) (e : ExprTree) (t m : ℕ) (es : List ExprTree) (o : ℕ) (vs : List Value) (ds : List Due) → f.left ≡ Statement (CallStmt p x (Dispatched e t m) es) ∷ ds → value_of e (scene c f s) ≡ Ok (value.Obj o) → steps.values_of es (scene c f s) ≡ Ok vs →
        GoesFollowed c (steps.enter c (method_at c (object_at s o).class m) p (ToCall x) (value.Obj o ∷ vs) (record f { left = ds }) fs s)
    dispatched_followed p x e t m es o vs ds at eo h =
        let k = called c f s p x (Dispatched e t m) es ds at is in
        let w = where_some is_instance_method (method_at c t m) k.body k.is_callee in
        let u = class_of_type (λ z. z == t) (code_type c.classes f.body e) k.receiver in
        let e_typed = code_typed c.classes f.body e _ u.2 in
        let o_typed = value_sound e (scene c f s) (local_types f.body) f.body.flags.ctor (frame_setting c f s is.sound) _ (value.Obj o) e_typed eo in
        let y = object_typed c.classes s u.0 u.1 o o_typed in
        let down : below c.classes y.0.class t ≡ true = subst (λ z. below c.classes y.0.class z ≡ true) (eqb-true u.0 t u.3) (sym (sub-below c.classes is.sound.beside y.0.class u.0) ∙ y.2) in
        let found = dispatch_finds c is.sound.chain formed.tables t m k.body w.0 y.0.class down in
        let entry : object_at s o ≡ y.0 = rw (y.1) refl in
        let there : method_at c (object_at s o).class m ≡ Some found.to = ap (λ (z : Object). method_at c z.class m) entry ∙ found.at in
        let q = and_parts (not k.body.flags.is_static) (not k.body.flags.ctor) w.1 in
        let instance_ : found.to.flags.is_static ≡ false = found.static ∙ not_true k.body.flags.is_static q.0 in
        method_followed found.to p x (value.Obj o ∷ vs) ds (method_at c (object_at s o).class m) there (dispatched_stack c formed f s ds fs is waiting new p x e t m es o vs at eo h)
        (with_this found.to vs o instance_ (λ i u2 v eu ev nn. k.not_null vs h i u2 v (subst (λ ts. slice_get ts i ≡ Some u2) {y = types_of k.body.params} found.params eu) ev nn))
        (λ this. caller_followed c f s is are p x (Dispatched e t m) es ds at found.to this found.result (λ j. refl))

    base_followed : (p : Place) (x : Option ℕ) (n : ℕ) (es : List ExprTree) (vs : List Value) (ds : List Due) → f.left ≡ Statement (CallStmt p x (Base n) es) ∷ ds → steps.values_of es (scene c f s) ≡ Ok vs → GoesFollowed c (steps.enter c (body_at c n) p (ToCall x) (this_of f.locals ∷ vs) (record f { left = ds }) fs s)
    base_followed p x n es vs ds at h =
        let k = called c f s p x (Base n) es ds at is in
        let b = k.body in
        let w = where_some (λ (z : BodyTree). is_instance_method z && not f.body.flags.is_static && stands_in_table c (above c.classes f.body.class) n) (body_at c n) b k.is_callee in
        let w1 = and_parts (is_instance_method b && not f.body.flags.is_static) (stands_in_table c (above c.classes f.body.class) n) w.1 in
        let w2 = and_parts (is_instance_method b) (not f.body.flags.is_static) w1.0 in
        let q = and_parts (not b.flags.is_static) (not b.flags.ctor) w2.0 in
        let this = is.instance (not_true f.body.flags.is_static w2.1) in
        method_followed b p x (this_of f.locals ∷ vs) ds (body_at c n) w.0 (base_stack c formed f s ds fs is waiting new p x n es vs at h)
        (subst (λ u. AreNotNullArguments b (u ∷ vs)) (sym this.1) (with_this b vs this.0 (not_true b.flags.is_static q.0) (k.not_null vs h)))
        (λ u. caller_followed c f s is are p x (Base n) es ds at b u refl (λ j. refl))

    base_constructor_followed : (p : Place) (x : Option ℕ) (n : ℕ) (es : List ExprTree) (vs : List Value) (ds : List Due) → f.left ≡ Statement (CallStmt p x (BaseConstructor n) es) ∷ ds → steps.values_of es (scene c f s) ≡ Ok vs →
        GoesFollowed c (steps.enter c (body_at c n) p (ToCall x) (this_of f.locals ∷ vs) (record f { left = ds }) fs s)
    base_constructor_followed p x n es vs ds at h =
        let k = called c f s p x (BaseConstructor n) es ds at is in
        let base = base_is c formed f s ds is are p x n es at in
        let b = base.body in
        let same : k.body ≡ b = let both : Some k.body ≡ Some b = sym k.is_callee ∙ base.is_callee in cc in
        let object = is.constructs (base_ctor c formed f s ds is are p x n es at) in
        let instance_ = constructor_instance b (formed.bodies n b base.at).flags base.ctor in
        let not_null = with_this b vs object.position instance_ (λ i u v eu ev nn. k.not_null vs h i u v (subst (λ (z : BodyTree). slice_get (types_of z.params) i ≡ Some u) (sym same) eu) ev nn) in
        let g = frame_at_entry b (locals_at_entry b (this_of f.locals ∷ vs)) s (ToCall x) in
        let arguments = subst (λ u. AreNotNullArguments b (u ∷ vs)) (sym object.this) not_null in
        let will : WillBeFollowed c s b (ToCall x) (constructed g) (record f { left = ds }) = subst (λ u. WillBeFollowed c s b (ToCall x) u (record f { left = ds })) (sym (constructs_this g base.ctor)) (constructor_followed c formed f s ds is are p x n es at) in
        enter_then (body_at c n) b p (ToCall x) (this_of f.locals ∷ vs) (record f { left = ds }) fs s base.at (constructor_stack c formed f s ds fs is waiting new p x n es at vs h)
        (λ good. (
          entered_followed c b good.formed (locals_at_entry b (this_of f.locals ∷ vs)) s (ToCall x) (arguments_assigned c b s (this_of f.locals ∷ vs) (count_of b (this_of f.locals ∷ vs) good.sound.locals.count) arguments),
          (will, same_followed c s f (record f { left = ds }) fs refl refl refl below_are),
        ))

    call_followed : (p : Place) (x : Option ℕ) (callee : CalleeTree) (es : List ExprTree) (ds : List Due) → f.left ≡ Statement (CallStmt p x callee es) ∷ ds → GoesFollowed c (steps.call c callee p x es (record f { left = ds }) fs s)
    call_followed p x (Dispatched e t m) es ds at =
        value_then (value_of e (scene c f s)) _ (λ v ev. values_then (steps.values_of es (scene c f s)) _ (λ vs eh. dispatched v ev vs eh))
      where
        dispatched : (v : Value) → value_of e (scene c f s) ≡ Ok v → (vs : List Value) → steps.values_of es (scene c f s) ≡ Ok vs → GoesFollowed c (steps.dispatch c m p x v vs (record f { left = ds }) fs s)
        dispatched (value.Obj o) ev vs eh = dispatched_followed p x e t m es o vs ds at ev eh
        dispatched (value.Int i) ev vs eh = tt
        dispatched (value.Bool b) ev vs eh = tt
        dispatched value.Null ev vs eh = tt
    call_followed p x (Static n) es ds at =
        let k = called c f s p x (Static n) es ds at is in
        let w = where_some (λ (z : BodyTree). z.flags.is_static) (body_at c n) k.body k.is_callee in
        values_then (steps.values_of es (scene c f s)) _ (λ vs h. method_followed k.body p x vs ds (body_at c n) w.0 (static_stack c formed f s ds fs is waiting new p x n es vs at h)
        (λ i u v eu ev nn. k.not_null vs h i u v (subst (λ ts. slice_get ts i ≡ Some u) (static_arguments k.body w.1) eu) ev nn)
        (λ this. caller_followed c f s is are p x (Static n) es ds at k.body this refl (λ j. refl)))
    call_followed p x (Base n) es ds at = values_then (steps.values_of es (scene c f s)) _ (λ vs h. base_followed p x n es vs ds at h)
    call_followed p x (BaseConstructor n) es ds at = values_then (steps.values_of es (scene c f s)) _ (λ vs h. base_constructor_followed p x n es vs ds at h)

    -- ---- returns

    module _ (p : Place) (e : Option ExprTree) (ds : List Due) (at : f.left ≡ Statement (ReturnStmt p e) ∷ ds) (v : Value) (ev : steps.result_value e (scene c f s) ≡ Ok v) where
      module _ (caller : Frame) (gs : List Frame) (waits : AreWaiting c s f (caller ∷ gs)) (news : AreNew (f ∷ caller ∷ gs)) (will_be : AreFollowed c s f (caller ∷ gs)) where
        called_back : (x : Option ℕ) → f.into ≡ ToCall x → IsFollowedStack c (steps.with_local x v caller ∷ gs) s
        called_back x into =
            let wait = subst (λ i. IsWaiting c s f.body i (constructed f) caller) into waits.0 in
            let will = subst (λ i. WillBeFollowed c s f.body i (constructed f) caller) into will_be.0 in
            let answer = answer_call c formed f s p e ds at is x v (result_is c formed f s p e ds at is e refl v ev) in
            let given : IsGiven c f.body (ToCall x) (constructed f) s v = record { non_null = answer.non_null; fields = λ y same. answer.fields } in
            (will s v (later_self c.classes (entry_size caller) s) given, same_followed c s caller (steps.with_local x v caller) gs refl refl (wait.keeps v) will_be.1)

        new_back : (x : Option ℕ) (o : ℕ) → f.into ≡ ToNew x → f.body.flags.ctor ≡ true → this_of f.locals ≡ value.Obj o → IsFollowedStack c (steps.with_local x (value.Obj o) caller ∷ gs) (ready_of s o)
        new_back x o into ctor this =
            let z = ready_of s o in
            let wait = subst (λ i. IsWaiting c s f.body i (constructed f) caller) into waits.0 in
            let will = subst (λ i. WillBeFollowed c s f.body i (constructed f) caller) into will_be.0 in
            let apart = subst (λ u. IsNewTo u (caller ∷ gs)) (constructs_this f ctor ∙ this) news.0 in
            let given : IsGiven c f.body (ToNew x) (constructed f) z (value.Obj o) = record { non_null = λ given null. cc; fields = λ y same. absurd (let none : ⊥ = cc in none) } in (
              will z (value.Obj o) (later_ready c.classes (entry_size caller) s o (apart.0 o refl)) given,
              ready_followed c s z o (λ n low. later_ready c.classes n s o low) (steps.with_local x (value.Obj o) caller) gs apart.1
                  (same_followed c s caller (steps.with_local x (value.Obj o) caller) gs refl refl (wait.keeps (value.Obj o)) will_be.1),
            )

        back_followed : (into : Target) → f.into ≡ into → GoesFollowed c (steps.back into v (this_of (put (steps.result_local f.body) v f.locals)) caller gs s)
        back_followed (ToCall x) into = called_back x into
        back_followed (ToNew x) into =
            let ctor = is.new (subst IsToNew (sym into) tt) in
            let k = is.constructs ctor in
            let this = this_at_end c formed f s ds is are v ctor ∙ k.this in
            subst (λ u. IsFollowedStack c (steps.with_local x u caller ∷ gs) (steps.with_ready s u)) (sym this) (new_back x k.position into ctor k.this)

      leave_followed : (gs : List Frame) → AreWaiting c s f gs → AreNew (f ∷ gs) → AreFollowed c s f gs → GoesFollowed c (steps.leave v (steps.with_local (steps.result_local f.body) v (record f { left = ds })) gs s)
      leave_followed [] waits news will_be = tt
      leave_followed (caller ∷ gs) waits news will_be = back_followed caller gs waits news will_be f.into refl

    return_followed : (p : Place) (e : Option ExprTree) (ds : List Due) → f.left ≡ Statement (ReturnStmt p e) ∷ ds → GoesFollowed c (steps.act c (ReturnStmt p e) (record f { left = ds }) fs s)
    return_followed p e ds at =
        value_then (steps.result_value e (scene c f s)) _ (λ v ev.
        let g = steps.with_local (steps.result_local f.body) v (record f { left = ds }) in
        let frame = steps.where_holds (is_kept (span c g s [])) kind.Frame p (steps.leave v g fs s) in
        holds_then (steps.all_hold g.body.exit (scene c g s)) kind.Postcondition p frame
        (holds_then (is_kept (span c g s [])) kind.Frame p (steps.leave v g fs s) (leave_followed p e ds at v ev fs waiting new below_are)))

    -- ---- one step

    print_followed : (p : Place) (e : Option ExprTree) (newline : Bool) (ds : List Due) → f.left ≡ Statement (PrintStmt p e newline) ∷ ds → GoesFollowed c (steps.print e newline c (record f { left = ds }) fs s)
    print_followed p None newline ds at = quiet (PrintStmt p None newline) ds s refl at (λ n. later_self c.classes n s) (λ y. refl) (λ k. refl)
    print_followed p (Some e) newline ds at = value_then (value_of e (scene c f s)) _ (λ v ev. quiet (PrintStmt p (Some e) newline) ds s refl at (λ n. later_self c.classes n s) (λ y. refl) (λ k. refl))

    act_followed : (st : StmtTree) (ds : List Due) → f.left ≡ Statement st ∷ ds → GoesFollowed c (steps.act c st (record f { left = ds }) fs s)
    act_followed (AssignStmt p x e) ds at =
        value_then (value_of e (scene c f s)) _ (λ v ev.
        on_stack (steps.with_local (Some x) v (record f { left = ds })) s (assigned_followed c f s is are p x e ds v at ev) (λ n. later_self c.classes n s) refl refl
        (constructed_same c f s (AssignStmt p x e) ds refl at is (Some x) v (λ y. refl)))
    act_followed (WriteStmt p o g m t e) ds at =
        value_then (value_of o (scene c f s)) _ (λ v ev. value_then (value_of e (scene c f s)) _ (λ w ew. change_then (write_of c.classes s v g w) p (record f { left = ds }) fs (λ z h.
        on_stack (record f { left = ds }) z (written_followed c formed f s ds is are p o g m t e v w z at ev ew h) (λ n. later_write c.classes n s v g w z (written_not_null c formed f s ds is p o g m t e w at ew) h) refl refl refl)))
    act_followed (WriteElementStmt p a i e) ds at =
        value_then (value_of a (scene c f s)) _ (λ v ev. value_then (value_of i (scene c f s)) _ (λ n en. value_then (value_of e (scene c f s)) _ (λ w ew. change_then (write_element_of s v (as_int n) w) p (record f { left = ds }) fs (λ z h.
        quiet (WriteElementStmt p a i e) ds z refl at (λ k. later_write_element c.classes k s v (as_int n) w z h) (λ y. refl) (λ k. refl)))))
    act_followed (NewStmt p x t es) ds at = values_then (steps.values_of es (scene c f s)) _ (λ vs h. new_followed p x t es vs ds at h)
    act_followed (NewArrayStmt p x t e) ds at =
        let st = NewArrayStmt p x t e in
        let o = length s in
        let o_not : IsNotNull (value.Obj (length s)) = λ null. cc in
        let q = and_parts _ (is_int (code_type c.classes f.body e)) (typed_here c f s st ds refl at is) in
        let r = and_parts _ (fits_kept c.classes f.body x (Some (class_type t))) q.0 in
        value_then (value_of e (scene c f s)) _ (λ n en. array_then (new_array_of s t (as_int n)) o p x (record f { left = ds }) fs (λ z h.
        on_stack (steps.with_local x (value.Obj o) (record f { left = ds })) z
        (after_followed c f s st ds refl at is are z x (value.Obj o) (later_new_array c.classes (entry_size f) s t (as_int n) z h)
        (λ j so. kept_true c f s st ds refl at is x (value.Obj o) (λ y. refl) z (Some (class_type t)) r.1 true (λ yes. o_not) j so)
        (kept_assigned c f s st ds refl at is x (value.Obj o) (λ y. refl) z (Some (class_type t)) r.1 (λ y is_x nn. o_not)))
        (λ k. later_new_array c.classes k s t (as_int n) z h) refl refl (constructed_same c f s st ds refl at is x (value.Obj o) (λ y. refl))))
    act_followed (CallStmt p x callee es) ds at = call_followed p x callee es ds at
    act_followed (ReadyStmt p) ds at =
        let given = all_given c f s (ReadyStmt p) ds refl at is p refl in
        let k = is.constructs given.0 in
        let o = k.position in
        let z = ready_of s o in
        let apart = subst (λ u. IsNewTo u fs) (constructs_this f given.0 ∙ k.this) new.0 in
        subst (λ u. IsFollowedStack c (record f { left = ds } ∷ fs) (steps.with_ready s u)) (sym k.this) (
          ready_is_followed c formed f s ds is are p o at k.this given.0,
          same_followed c z f (record f { left = ds }) fs refl refl refl (ready_followed c s z o (λ n low. later_ready c.classes n s o low) f fs apart below_are),
        )
    act_followed (IfStmt p e one other) ds at =
        value_then (value_of e (scene c f s)) _ (λ v ev.
        on_stack (go_into (dues (if as_bool v then one else other)) (record f { left = ds })) s (forked_followed c f s is are p e one other ds v at ev) (λ n. later_self c.classes n s) refl refl refl)
    act_followed (LoopStmt p invariants prelude e body exposes) ds at =
        let l : Loop = record { place = p; invariants = invariants; prelude = prelude; test = e; body = body; exposes = exposes } in
        let g = go_into (dues prelude ++ Test e body (LoopStmt p invariants prelude e body exposes) ∷ []) (record f { left = ds }) in
        head_then p invariants exposes (record f { left = ds }) fs s (steps.goes g fs s) (on_stack g s (looping_followed c f s is are l ds at) (λ n. later_self c.classes n s) refl refl refl)
    act_followed (UnpackStmt p x t) ds at =
        change_then (unpack_of c.classes s (local_value (scene c f s) x) t) p (record f { left = ds }) fs (λ z h.
        quiet (UnpackStmt p x t) ds z refl at (λ n. later_unpack c.classes n s (local_value (scene c f s) x) t z h) (λ y. refl) (λ k. refl))
    act_followed (PackStmt p x t) ds at =
        change_then (pack_of c.classes (invariants_hold c.classes) s (local_value (scene c f s) x) t) p (record f { left = ds }) fs (λ z h.
        quiet (PackStmt p x t) ds z refl at (λ n. later_pack c.classes n (invariants_hold c.classes) s (local_value (scene c f s) x) t z h) (λ y. refl) (λ k. refl))
    act_followed (AssertStmt p e) ds at = holds_then (holds e (scene c f s)) kind.Assert p (steps.goes (record f { left = ds }) fs s) (quiet (AssertStmt p e) ds s refl at (λ n. later_self c.classes n s) (λ y. refl) (λ k. refl))
    act_followed (AssumeStmt p e) ds at = assume_then (holds e (scene c f s)) p (steps.goes (record f { left = ds }) fs s) (quiet (AssumeStmt p e) ds s refl at (λ n. later_self c.classes n s) (λ y. refl) (λ k. refl))
    act_followed (PrintStmt p e newline) ds at = print_followed p e newline ds at
    act_followed (PrintTextStmt p text newline) ds at = quiet (PrintTextStmt p text newline) ds s refl at (λ n. later_self c.classes n s) (λ y. refl) (λ k. refl)
    act_followed (ReturnStmt p e) ds at = return_followed p e ds at

    either_stack : (g h : Frame) (b : Bool) → IsFollowed c (if b then g else h) s → g.body ≡ f.body → h.body ≡ f.body → g.into ≡ f.into → h.into ≡ f.into → constructed g ≡ constructed f → constructed h ≡ constructed f → IsFollowedStack c ((if b then g else h) ∷ fs) s
    either_stack g h true now b1 b2 i1 i2 k1 k2 = on_stack g s now (λ n. later_self c.classes n s) b1 i1 k1
    either_stack g h false now b1 b2 i1 i2 k1 k2 = on_stack h s now (λ n. later_self c.classes n s) b2 i2 k2

    first_followed : (l : List Due) → f.left ≡ l → GoesFollowed c (steps.act_first c l f fs s)
    first_followed [] at = absurd (known_unended assigned_flow (assigned_check f.body) (AreAssigned f.body) (scene c f s) (subst (λ l. IsKnown assigned_flow (assigned_check f.body) (AreAssigned f.body) l (scene c f s)) at is.sound.assigned))
    first_followed (Statement st ∷ ds) at = act_followed st ds at
    first_followed (Test e body loop ∷ ds) at =
        value_then (value_of e (scene c f s)) _ (λ v ev.
        either_stack (go_into (dues body ++ Statement loop ∷ []) (record f { left = ds })) (record f { left = ds }) (as_bool v) (tested_followed c f s is are e body loop ds v at ev) refl refl refl refl refl refl)

  -- ---- runs

  module _ (formed : IsFormed c) where
    next_followed : (fs : List Frame) (s : List Object) → IsGoodStack c fs s → IsFollowedStack c fs s → GoesFollowed c (steps.next c fs s)
    next_followed [] s is followed = tt
    next_followed (f ∷ fs) s is followed = first_followed formed f s fs is.0 is.1 is.2 followed.0 followed.1 f.left refl

    then_followed : (s : List Object) (before : List ℕ) (n : Next) → GoesFollowed c n → HasFollowed c (then_is s before n)
    then_followed s before (Goes fs z piece) h = h
    then_followed s before (Over z) h = tt
    then_followed s before (Fails k at) h = tt
    then_followed s before (Stops at) h = tt

    step_followed : (r : State) → HasGoodStack c r → HasFollowed c r → HasFollowed c (step c r)
    step_followed (Running fs s before) is followed = then_followed s before (steps.next c fs s) (next_followed fs s is followed)
    step_followed (Done s before) is followed = tt
    step_followed (Failed k at before) is followed = tt
    step_followed (Stopped at s before) is followed = tt

    start_followed : (input : List ℤ) → HasFollowed c (start_with input (body_at c c.main))
    start_followed input =
        let b = formed.main.0 in
        let main = formed.main.2 in
        subst (λ o. HasFollowed c (start_with input o)) (sym formed.main.1) (
          entered_followed c b (formed.bodies c.main b formed.main.1) (first_locals b) (first_store input) (ToCall None)
              (λ x arg typed. argument_not_null b.params _ x main.params (subst (λ ts. x < length ts) (static_arguments b main.static) (ltb-true x (length (argument_types b)) arg))),
          tt,
        )

    pub run_followed : (input : List ℤ) → IsInput input → (n : ℕ) → HasFollowed c (run c input n)
    run_followed input is zero = start_followed input
    run_followed input is (suc n) = step_followed (run c input n) (run_stack c formed input is n) (run_followed input is n)
