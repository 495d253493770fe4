-- Each state of a run is good.
use Rattle.std.proofs.Common.{◌≡◌, ℕ, zero, suc, ℤ, ◌<◌, List, [], ◌∷◌, ◌++◌, map, length, Bool, true, false, Option, Some, None, Ok, Err, refl, sym, ◌∙◌, subst}
use Rattle.std.specs.Prelude.{if◌then◌else◌, Result}
use Rattle.std.proofs.lemmas.Bool.{true≢false, ltb-true, eq-eqb}
use Rattle.ss_core.specs.declared.names.Place.{Place}
use Rattle.ss_core.specs.declared.names.Kind.{Kind}
use Rattle.ss_core.specs.declared.names.Kind.TheVariants as kind
use Rattle.ss_core.specs.Tree.{ExprTree, CalleeTree, Dispatched, Static, Base, BaseConstructor, ExposedTree, StmtTree, AssignStmt, WriteStmt, WriteElementStmt, NewStmt, NewArrayStmt, CallStmt, ReadyStmt, IfStmt, LoopStmt, UnpackStmt, PackStmt, AssertStmt, AssumeStmt, PrintStmt, PrintTextStmt, ReturnStmt, BodyTree, CoreTree}
use Rattle.ss_store_rules.specs.declared.Value.{Value}
use Rattle.ss_store_rules.specs.declared.Value.TheVariants as value
use Rattle.ss_store_rules.specs.declared.Undefined.{Undefined}
use Rattle.ss_store_rules.specs.Store.{Object}
use Rattle.ss_store_rules.specs.Numbers.{Outcome}
use Rattle.ss_store_rules.specs.Reads.{as_int, as_bool}
use Rattle.ss_store_rules.specs.Values.{local_value, value_of, holds}
use Rattle.ss_store_rules.specs.Changes.{unpack_of, pack_of, write_of, write_element_of, new_array_of, ready_of}
use Rattle.ss_store_rules.specs.Admissible.{invariants_hold}
use Rattle.ss_store_rules.specs.Admitted.{first_store, first_locals}
use Rattle.ss_store_rules.specs.Locals.{argument_types, is_kept_in, is_target}
use Rattle.ss_store_rules.specs.Typed.{body_at}
use Rattle.ss_store_rules.specs.Assigned.{assigned_flow, assigned_check}
use Rattle.ss_store_rules.specs.NonNull.{Known, known_after}
use Rattle.ss_store_rules.specs.Formed.{IsMain, IsFormed}
use Rattle.ss_machine_rules.specs.Frame.{this_of, is_kept}
use Rattle.ss_machine_rules.specs.States.{Due, Statement, Test, dues, ToCall, Frame, State, Running, Done, Failed, Stopped, Next, Goes, Over, Fails, Stops, frame_at_entry, scene, span}
use Rattle.ss_machine_rules.specs.Steps as steps
use Rattle.ss_machine_rules.specs.Steps.{go_into}
use Rattle.ss_machine_rules.specs.Runs.{then_is, step, start_with, run}
use Rattle.ss_machine_rules.specs.Good.{AreGoodFrames, IsGoodStore, IsGoodState}
use Rattle.ss_machine_typed.specs.Inputs.{IsInput}
use Rattle.ss_machine_typed.proofs.First.{first_good, main_locals}
use Rattle.ss_machine_good.specs.Flows.{is_simple, Loop, IsKnown}
use Rattle.ss_machine_good.specs.Known.{AreAssigned}
use Rattle.ss_machine_good.proofs.Flows.{known_unended}
use Rattle.ss_machine_good.proofs.Start.{argument_not_null, static_arguments}
use Rattle.ss_machine_good.specs.Checks.{makes_ready}
use Rattle.ss_machine_good.specs.Later.{IsLater}
use Rattle.ss_machine_good.specs.LaterFrames.{IsGoodFrame, entry_size, constructed, AreWaiting, IsNewTo, AreNew}
use Rattle.ss_machine_good.proofs.Later.{later_self, later_unpack, later_pack, later_write, later_write_element, later_new_array, later_ready}
use Rattle.ss_machine_good.proofs.Behind.{constructor_instance, put_this, variable_apart, target_variable}
use Rattle.ss_machine_good.proofs.Statements.{quiet_frame, all_given, assigned_good, written_not_null, written_good, element_good, unpacked_good, packed_good, array_good, made_ready_good}
use Rattle.ss_machine_good.proofs.Paths.{forked_good, looping_good, tested_good}
use Rattle.ss_machine_good.specs.Stacks.{IsGoodStack, HasGoodStack, GoesGood}
use Rattle.ss_machine_good.proofs.Entering.{entered_with}
use Rattle.ss_machine_good.proofs.Waiting.{all_waiting, all_waiting_ready, same_waiting, same_constructed}
use Rattle.ss_machine_good.proofs.CallsOfRuns.{constructs_this, holds_then, static_stack, dispatched_stack, base_stack}
use Rattle.ss_machine_good.proofs.Constructions.{new_stack, constructor_stack}
use Rattle.ss_machine_good.proofs.Returns.{return_good}

module _ (c : CoreTree) where
  value_then : (r : Outcome) (k : Value → Next) → ((v : Value) → r ≡ Ok v → GoesGood c (k v)) → GoesGood c (steps.with_value r k)
  value_then (Ok v) k h = h v refl
  value_then (Err u) k h = tt

  values_then : (r : Result (List Value) Undefined) (k : List Value → Next) → ((vs : List Value) → r ≡ Ok vs → GoesGood c (k vs)) → GoesGood c (steps.with_values r k)
  values_then (Ok vs) k h = h vs refl
  values_then (Err u) k h = tt

  change_then : (r : Result (List Object) Kind) (at : Place) (f : Frame) (fs : List Frame) → ((z : List Object) → r ≡ Ok z → IsGoodStack c (f ∷ fs) z) → GoesGood c (steps.changes r at f fs)
  change_then (Ok z) at f fs h = h z refl
  change_then (Err k) at f fs h = tt

  array_then : (r : Result (List Object) Kind) (o : ℕ) (at : Place) (x : Option ℕ) (f : Frame) (fs : List Frame) → ((z : List Object) → r ≡ Ok z → IsGoodStack c (steps.with_local x (value.Obj o) f ∷ fs) z) → GoesGood c (steps.made_array r o at x f fs)
  array_then (Ok z) o at x f fs h = h z refl
  array_then (Err k) o at x f fs h = tt

  assume_then : (b : Bool) (at : Place) (n : Next) → GoesGood c n → GoesGood c (if b then n else Stops at)
  assume_then true at n h = h
  assume_then false at n h = tt

  head_then : (at : Place) (invariants : List ExprTree) (exposes : List ExposedTree) (f : Frame) (fs : List Frame) (s : List Object) (n : Next) → GoesGood c n → GoesGood c (steps.at_head c at invariants exposes f fs s n)
  head_then at invariants exposes f fs s n h =
      let level = steps.where_holds (steps.are_exposed c.classes s f exposes) kind.LoopLevel at n in
      let frame = steps.where_holds (is_kept (span c f s (map (steps.held_by f) exposes))) kind.LoopFrame at level in
      holds_then c (steps.all_hold invariants (scene c f s)) kind.LoopInvariant at frame
      (holds_then c (is_kept (span c f s (map (steps.held_by f) exposes))) kind.LoopFrame at level (holds_then c (steps.are_exposed c.classes s f exposes) kind.LoopLevel at n h))

  -- ---- the frame that runs goes on

  on_stack : (f g : Frame) (fs : List Frame) (s z : List Object) → IsGoodFrame c g z → ((n : ℕ) → IsLater c.classes n s z) → g.body ≡ f.body → g.into ≡ f.into → constructed g ≡ constructed f → AreWaiting c s f fs → AreNew (f ∷ fs) → IsGoodStack c (g ∷ fs) z
  on_stack f g fs s z good later body into same waiting new = (good, same_waiting c z f g fs body into same (all_waiting c s z later f fs waiting), (subst (λ u. IsNewTo u fs) (sym same) new.0, new.1))

  module _ (formed : IsFormed c) (f : Frame) (s : List Object) (fs : List Frame) (is : IsGoodFrame c f s) (waiting : AreWaiting c s f fs) (new : AreNew (f ∷ fs)) where
    -- a statement that assigns nothing and leaves the store
    quiet : (st : StmtTree) (ds : List Due) → is_simple st ≡ true → f.left ≡ Statement st ∷ ds → ((y : ℕ) → is_target st y ≡ false) → makes_ready c st ≡ false → ((k : Known) → known_after c f.body st k ≡ k) → IsGoodStack c (record f { left = ds } ∷ fs) s
    quiet st ds simple at none nothing same = on_stack f (record f { left = ds }) fs s s (quiet_frame c f s st ds simple at is s (later_self c.classes (entry_size f) s) is.sound.store none nothing same) (λ n. later_self c.classes n s) refl refl refl waiting new

    -- what it assigns isn't the `this` of a constructor
    kept_constructed : (st : StmtTree) (ds : List Due) → is_simple st ≡ true → f.left ≡ Statement st ∷ ds → (x : Option ℕ) (v : Value) → ((y : ℕ) → x ≡ Some y → is_target st y ≡ true) → constructed (steps.with_local x v (record f { left = ds })) ≡ constructed f
    kept_constructed st ds simple at x v target =
        same_constructed f (steps.with_local x v (record f { left = ds })) refl (λ ctor. put_this f.locals x v (λ y e. variable_apart f.body y is.sound.flags (target_variable c f s st ds simple at is y (target y e)) ctor))

    ready_stack : (p : Place) (ds : List Due) (o : ℕ) → f.left ≡ Statement (ReadyStmt p) ∷ ds → f.body.flags.ctor ≡ true → this_of f.locals ≡ value.Obj o → IsGoodStack c (record f { left = ds } ∷ fs) (ready_of s o)
    ready_stack p ds o at ctor this =
        let built : constructed f ≡ value.Obj o = constructs_this f ctor ∙ this in (
          made_ready_good c formed f s ds is p o at this,
          same_waiting c (ready_of s o) f (record f { left = ds }) fs refl refl refl (all_waiting_ready c s (ready_of s o) o (λ n low. later_ready c.classes n s o low) f fs (subst (λ u. IsNewTo u fs) built new.0) waiting),
          new,
        )

    call_good : (p : Place) (x : Option ℕ) (callee : CalleeTree) (es : List ExprTree) (ds : List Due) → f.left ≡ Statement (CallStmt p x callee es) ∷ ds → GoesGood c (steps.call c callee p x es (record f { left = ds }) fs s)
    call_good p x (Dispatched e t m) es ds at =
        value_then (value_of e (scene c f s)) _ (λ v ev. values_then (steps.values_of es (scene c f s)) _ (λ vs eh. dispatched v ev vs eh))
      where
        dispatched : (v : Value) → value_of e (scene c f s) ≡ Ok v → (vs : List Value) → steps.values_of es (scene c f s) ≡ Ok vs → GoesGood c (steps.dispatch c m p x v vs (record f { left = ds }) fs s)
        dispatched (value.Obj o) ev vs eh = dispatched_stack c formed f s ds fs is waiting new p x e t m es o vs at ev eh
        dispatched (value.Int i) ev vs eh = tt
        dispatched (value.Bool b) ev vs eh = tt
        dispatched value.Null ev vs eh = tt
    call_good p x (Static n) es ds at = values_then (steps.values_of es (scene c f s)) _ (λ vs h. static_stack c formed f s ds fs is waiting new p x n es vs at h)
    call_good p x (Base n) es ds at = values_then (steps.values_of es (scene c f s)) _ (λ vs h. base_stack c formed f s ds fs is waiting new p x n es vs at h)
    call_good p x (BaseConstructor n) es ds at = values_then (steps.values_of es (scene c f s)) _ (λ vs h. constructor_stack c formed f s ds fs is waiting new p x n es at vs h)

    print_good : (p : Place) (e : Option ExprTree) (newline : Bool) (ds : List Due) → f.left ≡ Statement (PrintStmt p e newline) ∷ ds → GoesGood c (steps.print e newline c (record f { left = ds }) fs s)
    print_good p None newline ds at = quiet (PrintStmt p None newline) ds refl at (λ y. refl) refl (λ k. refl)
    print_good p (Some e) newline ds at = value_then (value_of e (scene c f s)) _ (λ v ev. quiet (PrintStmt p (Some e) newline) ds refl at (λ y. refl) refl (λ k. refl))

    act_good : (st : StmtTree) (ds : List Due) → f.left ≡ Statement st ∷ ds → GoesGood c (steps.act c st (record f { left = ds }) fs s)
    act_good (AssignStmt p x e) ds at =
        value_then (value_of e (scene c f s)) _ (λ v ev.
        on_stack f (steps.with_local (Some x) v (record f { left = ds })) fs s s (assigned_good c formed f s ds is p x e v at ev) (λ n. later_self c.classes n s) refl refl
        (kept_constructed (AssignStmt p x e) ds refl at (Some x) v (λ y eq. let same : x ≡ y = cc in eq-eqb x y same)) waiting new)
    act_good (WriteStmt p o g m t e) ds at =
        value_then (value_of o (scene c f s)) _ (λ v ev. value_then (value_of e (scene c f s)) _ (λ w ew. change_then (write_of c.classes s v g w) p (record f { left = ds }) fs (λ z h.
        on_stack f (record f { left = ds }) fs s z (written_good c formed f s ds is p o g m t e v w z at ev ew h) (λ n. later_write c.classes n s v g w z (written_not_null c formed f s ds is p o g m t e w at ew) h) refl refl refl waiting new)))
    act_good (WriteElementStmt p a i e) ds at =
        value_then (value_of a (scene c f s)) _ (λ v ev. value_then (value_of i (scene c f s)) _ (λ n en. value_then (value_of e (scene c f s)) _ (λ w ew. change_then (write_element_of s v (as_int n) w) p (record f { left = ds }) fs (λ z h.
        on_stack f (record f { left = ds }) fs s z (element_good c formed f s ds is p a i e v w (as_int n) z at ev ew h) (λ k. later_write_element c.classes k s v (as_int n) w z h) refl refl refl waiting new))))
    act_good (NewStmt p x t es) ds at = values_then (steps.values_of es (scene c f s)) _ (λ vs h. new_stack c formed f s ds fs is waiting new p x t es vs at h)
    act_good (NewArrayStmt p x t e) ds at =
        value_then (value_of e (scene c f s)) _ (λ n en. array_then (new_array_of s t (as_int n)) (length s) p x (record f { left = ds }) fs (λ z h.
        on_stack f (steps.with_local x (value.Obj (length s)) (record f { left = ds })) fs s z (array_good c formed f s ds is p x t e n z at en h) (λ k. later_new_array c.classes k s t (as_int n) z h) refl refl
        (kept_constructed (NewArrayStmt p x t e) ds refl at x (value.Obj (length s)) (λ y eq. subst (λ w. is_kept_in w y ≡ true) (sym eq) (eq-eqb y y refl))) waiting new))
    act_good (CallStmt p x callee es) ds at = call_good p x callee es ds at
    act_good (ReadyStmt p) ds at =
        let given = all_given c f s (ReadyStmt p) ds refl at is p refl in
        let k = is.constructs given.0 in
        subst (λ u. IsGoodStack c (record f { left = ds } ∷ fs) (steps.with_ready s u)) (sym k.this) (ready_stack p ds k.position at given.0 k.this)
    act_good (IfStmt p e one other) ds at =
        value_then (value_of e (scene c f s)) _ (λ v ev.
        on_stack f (go_into (dues (if as_bool v then one else other)) (record f { left = ds })) fs s s (forked_good c f s is p e one other ds v at ev) (λ n. later_self c.classes n s) refl refl refl waiting new)
    act_good (LoopStmt p invariants prelude e body exposes) ds at =
        let l : Loop = record { place = p; invariants = invariants; prelude = prelude; test = e; body = body; exposes = exposes } in
        let g = go_into (dues prelude ++ Test e body (LoopStmt p invariants prelude e body exposes) ∷ []) (record f { left = ds }) in
        head_then p invariants exposes (record f { left = ds }) fs s (steps.goes g fs s) (on_stack f g fs s s (looping_good c f s is l ds at) (λ n. later_self c.classes n s) refl refl refl waiting new)
    act_good (UnpackStmt p x t) ds at =
        change_then (unpack_of c.classes s (local_value (scene c f s) x) t) p (record f { left = ds }) fs (λ z h.
        on_stack f (record f { left = ds }) fs s z (unpacked_good c formed f s ds is p x t z at h) (λ n. later_unpack c.classes n s (local_value (scene c f s) x) t z h) refl refl refl waiting new)
    act_good (PackStmt p x t) ds at =
        change_then (pack_of c.classes (invariants_hold c.classes) s (local_value (scene c f s) x) t) p (record f { left = ds }) fs (λ z h.
        on_stack f (record f { left = ds }) fs s z (packed_good c formed f s ds is p x t z at h) (λ n. later_pack c.classes n (invariants_hold c.classes) s (local_value (scene c f s) x) t z h) refl refl refl waiting new)
    act_good (AssertStmt p e) ds at = holds_then c (holds e (scene c f s)) kind.Assert p (steps.goes (record f { left = ds }) fs s) (quiet (AssertStmt p e) ds refl at (λ y. refl) refl (λ k. refl))
    act_good (AssumeStmt p e) ds at = assume_then (holds e (scene c f s)) p (steps.goes (record f { left = ds }) fs s) (quiet (AssumeStmt p e) ds refl at (λ y. refl) refl (λ k. refl))
    act_good (PrintStmt p e newline) ds at = print_good p e newline ds at
    act_good (PrintTextStmt p text newline) ds at = quiet (PrintTextStmt p text newline) ds refl at (λ y. refl) refl (λ k. refl)
    act_good (ReturnStmt p e) ds at = value_then (steps.result_value e (scene c f s)) _ (λ v ev. return_good c formed f s p e ds at is fs waiting new v ev)

    either_stack : (g h : Frame) (b : Bool) → IsGoodFrame c (if b then g else h) s → g.body ≡ f.body → h.body ≡ f.body → g.into ≡ f.into → h.into ≡ f.into → constructed g ≡ constructed f → constructed h ≡ constructed f → IsGoodStack c ((if b then g else h) ∷ fs) s
    either_stack g h true good b1 b2 i1 i2 k1 k2 = on_stack f g fs s s good (λ n. later_self c.classes n s) b1 i1 k1 waiting new
    either_stack g h false good b1 b2 i1 i2 k1 k2 = on_stack f h fs s s good (λ n. later_self c.classes n s) b2 i2 k2 waiting new

    first_good_step : (l : List Due) → f.left ≡ l → GoesGood c (steps.act_first c l f fs s)
    first_good_step [] at = absurd (known_unended assigned_flow (assigned_check f.body) (AreAssigned f.body) (scene c f s) (subst (λ l. IsKnown assigned_flow (assigned_check f.body) (AreAssigned f.body) l (scene c f s)) at is.sound.assigned))
    first_good_step (Statement st ∷ ds) at = act_good st ds at
    first_good_step (Test e body loop ∷ ds) at =
        value_then (value_of e (scene c f s)) _ (λ v ev.
        either_stack (go_into (dues body ++ Statement loop ∷ []) (record f { left = ds })) (record f { left = ds }) (as_bool v) (tested_good c f s is e body loop ds v at ev) refl refl refl refl refl refl)

  -- ---- steps

  module _ (formed : IsFormed c) where
    next_good : (fs : List Frame) (s : List Object) → IsGoodStack c fs s → GoesGood c (steps.next c fs s)
    next_good [] s is = is
    next_good (f ∷ fs) s is = first_good_step formed f s fs is.0 is.1 is.2 f.left refl

    store_of : (fs : List Frame) (s : List Object) → IsGoodStack c fs s → IsGoodStore c s
    store_of [] s is = is
    store_of (f ∷ fs) s is = is.0.sound.store

    then_good : (s : List Object) (before : List ℕ) (n : Next) → IsGoodStore c s → GoesGood c n → HasGoodStack c (then_is s before n)
    then_good s before (Goes fs z piece) good h = h
    then_good s before (Over z) good h = h
    then_good s before (Fails k at) good h = tt
    then_good s before (Stops at) good h = good

    pub step_good : (r : State) → HasGoodStack c r → HasGoodStack c (step c r)
    step_good (Running fs s before) h = then_good s before (steps.next c fs s) (store_of fs s h) (next_good fs s h)
    step_good (Done s before) h = h
    step_good (Failed k at before) h = tt
    step_good (Stopped at s before) h = h

    -- ---- state 0

    main_good : (input : List ℤ) → IsInput input → (b : BodyTree) → body_at c c.main ≡ Some b → IsMain b → IsGoodFrame c (frame_at_entry b (first_locals b) (first_store input) (ToCall None)) (first_store input)
    main_good input is b at main =
        let fb = formed.bodies c.main b at in
        let plain : b.flags.ctor ≡ true → ⊥ = λ ctor. true≢false (sym main.static ∙ constructor_instance b fb.flags ctor) in
        entered_with c formed b fb (first_locals b) (first_store input) (ToCall None) (first_good c.classes formed.chain input is) (main_locals c.classes input b main)
        (λ x arg typed. argument_not_null b.params _ x main.params (subst (λ ts. x < length ts) (static_arguments b main.static) (ltb-true x (length (argument_types b)) arg)))
        (λ ctor. absurd (plain ctor)) (λ instance_. absurd (true≢false (sym main.static ∙ instance_))) (λ n. absurd n)

    pub start_stack : (input : List ℤ) → IsInput input → HasGoodStack c (start_with input (body_at c c.main))
    start_stack input is =
        let b = formed.main.0 in
        subst (λ o. HasGoodStack c (start_with input o)) (sym formed.main.1) (main_good input is b formed.main.1 formed.main.2, tt, (tt, tt))

    pub run_stack : (input : List ℤ) → IsInput input → (n : ℕ) → HasGoodStack c (run c input n)
    run_stack input is zero = start_stack input is
    run_stack input is (suc n) = step_good (run c input n) (run_stack input is n)

  -- ---- good states

  waiting_locals : (s : List Object) (f : Frame) (fs : List Frame) → AreWaiting c s f fs → AreGoodFrames c s fs
  waiting_locals s f [] are = tt
  waiting_locals s f (g ∷ fs) are = (are.0.locals, waiting_locals s g fs are.1)

  running_good : (fs : List Frame) (s : List Object) (before : List ℕ) → IsGoodStack c fs s → IsGoodState c (Running fs s before)
  running_good [] s before is = (is, tt)
  running_good (f ∷ fs) s before is = (is.0.sound.store, (is.0.sound.locals, waiting_locals s f fs is.1))

  state_good : (r : State) → HasGoodStack c r → IsGoodState c r
  state_good (Running fs s before) is = running_good fs s before is
  state_good (Done s before) is = is
  state_good (Failed k at before) is = tt
  state_good (Stopped at s before) is = is

  -- every unfailed state of a run of a formed program is good
  pub run_good : IsFormed c → (input : List ℤ) → IsInput input → (n : ℕ) → IsGoodState c (run c input n)
  run_good formed input is n = state_good (run c input n) (run_stack formed input is n)
