-- A call of a body that runs safely doesn't fail at its entry. The body goes on safely, and the caller waits for it safely.
use Rattle.std.proofs.Common.{◌≡◌, ℕ, List, [], ◌∷◌, length, true, ◌&&◌, Option, Some, None, Ok, refl, sym, ◌∙◌, ap, subst}
use Rattle.std.proofs.lemmas.Bool.{and_parts}
use Rattle.ss_core.specs.declared.names.Place.{Place}
use Rattle.ss_core.specs.declared.names.Kind.TheVariants as kind
use Rattle.ss_core.specs.Tree.{ExprTree, CalleeTree, Dispatched, Static, Base, BaseConstructor, NewStmt, CallStmt, BodyTree, CoreTree}
use Rattle.ss_core.specs.Chain.{is_declared}
use Rattle.ss_store_rules.specs.declared.Value.{Value}
use Rattle.ss_store_rules.specs.declared.Value.TheVariants as value
use Rattle.ss_store_rules.specs.Store.{Object}
use Rattle.ss_store_rules.specs.Reads.{object_at}
use Rattle.ss_store_rules.specs.Values.{setting, value_of}
use Rattle.ss_store_rules.specs.Changes.{new_object_of}
use Rattle.ss_store_rules.specs.Admissible.{invariants_hold}
use Rattle.ss_store_rules.specs.Locals.{is_variable, is_kept_among}
use Rattle.ss_store_rules.specs.Types.{class_type}
use Rattle.ss_store_rules.specs.Typed.{body_at, constructor_of, method_at, fits_kept, is_call_of}
use Rattle.ss_store_rules.specs.Formed.{IsFormed}
use Rattle.ss_machine_rules.specs.Frame.{this_of}
use Rattle.ss_machine_rules.specs.States.{Due, Statement, Target, ToCall, ToNew, Frame, Goes, locals_at_entry, frame_at_entry, scene}
use Rattle.ss_machine_rules.specs.Steps as steps
use Rattle.ss_machine_rules.specs.Steps.{values_of}
use Rattle.ss_machine_rules.specs.Good.{IsGoodStore}
use Rattle.ss_machine_typed.specs.Changes.{NewObject}
use Rattle.ss_machine_good.proofs.Frames.{frame_setting}
use Rattle.ss_machine_good.proofs.Steps.{new_object_good}
use Rattle.ss_machine_good.specs.LaterFrames.{entry_size, kept_in}
use Rattle.ss_machine_good.proofs.Later.{later_self}
use Rattle.ss_machine_good.proofs.Statements.{typed_here}
use Rattle.ss_machine_good.proofs.CallsOfRuns.{method_number}
use Rattle.ss_machine_good.specs.Stacks.{IsGoodStack}
use Rattle.ss_logic.specs.Values.{Table}
use Rattle.ss_vcgen_heaps.specs.Contracts.{seen, called}
use Rattle.ss_sound_outcomes.specs.Points.{HasGrown, Fits, IsSound, ArePassed}
use Rattle.ss_sound_outcomes.specs.Outcomes.{IsReturn, CallsSafely, IsObject, ConstructsSafely, Safely, AllRunSafely}
use Rattle.ss_sound_runs.specs.Frames.{activation_of, point_of}
use Rattle.ss_sound_runs.specs.Passed.{IsPassed}
use Rattle.ss_sound_runs.proofs.Grown.{grown_self, grown_trans, grown_change}
use Rattle.ss_sound_runs.proofs.Tables.{fits_before, good_table}
use Rattle.ss_sound_runs.proofs.Points.{sound_point}
use Rattle.ss_sound_runs.proofs.Behind.{call_after, new_after}
use Rattle.ss_sound_runs.proofs.StepsPassed.{static_passed, dispatched_passed, base_passed, constructor_passed, new_passed}
use Rattle.ss_sound_runs.specs.Served.{Serves, IsCalledOn}
use Rattle.ss_sound_runs.proofs.Passed.{passed_at_entry}
use Rattle.ss_sound_runs.proofs.Served.{entered, returned_as_seen}
use Rattle.ss_sound_runs.proofs.Serving.{serves}
use Rattle.ss_sound_runs.specs.Stacks.{LeftSafely, Stands, after_return, AllWaitSafely, StepsSafely}
use Rattle.ss_sound_runs.proofs.Left.{left_all}
use Rattle.ss_sound_runs.proofs.Steps.{fitting_table, targets_here, all_wait_on, value_steps, values_steps, holds_steps}

module _ (c : CoreTree) (formed : IsFormed c) (runs : AllRunSafely c) (f : Frame) (fs : List Frame) (s : List Object) (good : IsGoodStack c (f ∷ fs) s) (arguments : List Value) (stands : Stands f arguments s)
    (waits : AllWaitSafely c f.body f.into f.entry arguments s fs) where
  fitting : (t : Table) × Fits c.classes t s
  fitting = fitting_table c f fs s good

  -- The frame goes on safely from each return of the body b that its contract allows.
  abbrev GoesOnAfter : BodyTree → Target → List Object → List Value → List Due → Type 0
  GoesOnAfter b into s1 vs ds = (t : Table) (z : List Object) (v : Value) → Fits c.classes t z → IsReturn (activation_of c f t) b (ToCall (kept_in into)) vs s1 z v →
      IsSound (activation_of c f t) (after_return into v (this_of vs) (point_of f z)) → LeftSafely (activation_of c f t) ds (after_return into v (this_of vs) (point_of f z))

  enter_steps : (o : Option BodyTree) (b : BodyTree) (n : ℕ) → o ≡ Some b → body_at c n ≡ Some b → (p : Place) (into : Target) (vs : List Value) (s1 : List Object) (ds : List Due) → is_kept_among (is_variable f.body) (kept_in into) ≡ true →
      ArePassed c b s1 vs → steps.all_hold b.entry (setting c.classes s1 s1 (locals_at_entry b vs)) ≡ true → GoesOnAfter b into s1 vs ds → StepsSafely c fs s (steps.enter c o p into vs (record f { left = ds }) fs s1)
  enter_steps o b n is number p into vs s1 ds target passed enters goes_on =
      let g = frame_at_entry b (locals_at_entry b vs) s1 into in
      subst (λ q. StepsSafely c fs s (steps.enter c q p into vs (record f { left = ds }) fs s1)) (sym is)
      (holds_steps c fs s (steps.all_hold b.entry (setting c.classes s1 s1 (locals_at_entry b vs))) kind.Precondition p (Goes (g ∷ record f { left = ds } ∷ fs) s1 []) enters (λ is_good grown later. (
        vs,
        record { grown = grown_self s1; has = passed_at_entry b vs passed.good.count },
        λ t fits. left_all (activation_of c g t) b.code (point_of g s1) (runs n b number t s1 vs passed (sound_point c g s1 t is_good.0 (grown_self s1) fits) enters),
        (
          arguments,
          record { grown = grown_trans f.entry s s1 stands.grown grown; has = stands.has },
          record { later = later_self c.classes (entry_size f) s1; target = target; goes_on = goes_on },
          all_wait_on c s s1 grown f.body f.into f.entry arguments fs later waits,
        ),
      )))

  -- ---- calls

  module _ (p : Place) (x : Option ℕ) (callee : CalleeTree) (es : List ExprTree) (ds : List Due) (at : f.left ≡ Statement (CallStmt p x callee es) ∷ ds) where
    abbrev Called : List Value → Option BodyTree → Type 0
    Called vs o = (t : Table) → Fits c.classes t s → CallsSafely (activation_of c f t) (CallStmt p x callee es) (λ q. LeftSafely (activation_of c f t) ds q) (point_of f s) x o vs

    -- the contract by which the call goes is that of k, and the body b serves it
    served_steps : (o : Option BodyTree) (k b : BodyTree) (n : ℕ) (vs : List Value) → called c f.body callee ≡ Some k → ArePassed c k s vs → o ≡ Some b → body_at c n ≡ Some b → ArePassed c b s vs →
        (steps.all_hold k.entry (setting c.classes s s (locals_at_entry k vs)) ≡ true → steps.all_hold b.entry (setting c.classes s s (locals_at_entry b vs)) ≡ true) →
        ((t : Table) (z : List Object) (v : Value) → IsReturn (activation_of c f t) b (ToCall x) vs s z v → IsReturn (activation_of c f t) k (ToCall x) vs s z v) →
        Called vs (called c f.body callee) → StepsSafely c fs s (steps.enter c o p (ToCall x) vs (record f { left = ds }) fs s)
    served_steps o k b n vs named passed_k is number passed_b enters returns h =
        let h' : Called vs (Some k) = subst (λ q. Called vs q) named h in
        enter_steps o b n is number p (ToCall x) vs s ds (targets_here c f s good.0 (CallStmt p x callee es) ds at) passed_b (enters (h' fitting.0 fitting.1 passed_k).0)
        (λ t z v fits back sound.
        let r = returns t z v back in
        (h' t (fits_before c.classes t s z r.grown fits) passed_k).1 z v r sound
        (call_after c f s ds good.0 p x callee es at k named (this_of vs) v z r.later r.answer t))

    -- a body that is called by its own contract
    plain_steps : (n : ℕ) (vs : List Value) → IsPassed c f s callee (body_at c n) vs → Called vs (called c f.body callee) → StepsSafely c fs s (steps.enter c (body_at c n) p (ToCall x) vs (record f { left = ds }) fs s)
    plain_steps n vs is h = served_steps (body_at c n) is.body is.body n vs is.is_named is.passed is.is_entered is.is_entered is.passed (λ k. k) (λ t z v r. r) h

  dispatch_steps : (p : Place) (x : Option ℕ) (e : ExprTree) (t m : ℕ) (es : List ExprTree) (ds : List Due) → f.left ≡ Statement (CallStmt p x (Dispatched e t m) es) ∷ ds → (v : Value) → value_of e (scene c f s) ≡ Ok v → (vs : List Value) → values_of es (scene c f s) ≡ Ok vs →
      ((y : Table) → Fits c.classes y s → IsObject v × CallsSafely (activation_of c f y) (CallStmt p x (Dispatched e t m) es) (λ q. LeftSafely (activation_of c f y) ds q) (point_of f s) x (called c f.body (Dispatched e t m)) (v ∷ vs)) →
      StepsSafely c fs s (steps.dispatch c m p x v vs (record f { left = ds }) fs s)
  dispatch_steps p x e t m es ds at (value.Obj o) ev vs evs h =
      let d = dispatched_passed c formed f s ds good.0 p x e t m es o vs at ev evs in
      let found = serves c formed t m d.from d.names d.instance d.object.class d.class in
      let same : found.0 ≡ d.to = let both : Some found.0 ≡ Some d.to = sym found.1 ∙ d.enters in cc in
      let is_served : Serves c d.object.class d.from d.to = subst (λ b. Serves c d.object.class d.from b) same found.2 in
      let on : IsCalledOn s d.object.class (value.Obj o ∷ vs) = record { position = o; this = refl; object = d.object; there = d.there; class = refl } in
      let number = method_number c d.object.class m d.to d.enters in
      let there : method_at c (object_at s o).class m ≡ Some d.to = ap (λ (z : Object). method_at c z.class m) d.is_object ∙ d.enters in
      let count = d.passed_from.good.count in
      served_steps p x (Dispatched e t m) es ds at (method_at c (object_at s o).class m) (seen d.from) d.to number.0 (value.Obj o ∷ vs) d.is_named d.passed_seen there number.1 d.passed_to
      (λ k. entered c d.object.class d.from d.to is_served s (value.Obj o ∷ vs) on count k)
      (λ y z v r. returned_as_seen (activation_of c f y) d.object.class d.from d.to is_served x s z (value.Obj o ∷ vs) v on count r)
      (λ y fits. (h y fits).1)
  dispatch_steps p x e t m es ds at (value.Int i) ev vs evs h = (h fitting.0 fitting.1).0
  dispatch_steps p x e t m es ds at (value.Bool b) ev vs evs h = (h fitting.0 fitting.1).0
  dispatch_steps p x e t m es ds at value.Null ev vs evs h = (h fitting.0 fitting.1).0

  pub call_steps : (p : Place) (x : Option ℕ) (callee : CalleeTree) (es : List ExprTree) (ds : List Due) → f.left ≡ Statement (CallStmt p x callee es) ∷ ds →
      ((t : Table) → Fits c.classes t s → Safely (activation_of c f t) (CallStmt p x callee es) (point_of f s) (λ q. LeftSafely (activation_of c f t) ds q)) →
      StepsSafely c fs s (steps.act c (CallStmt p x callee es) (record f { left = ds }) fs s)
  call_steps p x (Dispatched e t m) es ds at h =
      value_steps c fs s fitting.0 fitting.1 (value_of e (scene c f s)) _ _ h (λ v ev eq h1.
      values_steps c fs s fitting.0 fitting.1 (values_of es (scene c f s)) _ _ h1 (λ vs evs h2. dispatch_steps p x e t m es ds at v ev vs evs h2))
  call_steps p x (Static n) es ds at h =
      values_steps c fs s fitting.0 fitting.1 (values_of es (scene c f s)) _ _ h (λ vs evs h1. plain_steps p x (Static n) es ds at n vs (static_passed c formed f s ds good.0 p x n es vs at evs) h1)
  call_steps p x (Base n) es ds at h =
      values_steps c fs s fitting.0 fitting.1 (values_of es (scene c f s)) _ _ h (λ vs evs h1. plain_steps p x (Base n) es ds at n (this_of f.locals ∷ vs) (base_passed c formed f s ds good.0 p x n es vs at evs) h1)
  call_steps p x (BaseConstructor n) es ds at h =
      values_steps c fs s fitting.0 fitting.1 (values_of es (scene c f s)) _ _ h (λ vs evs h1. plain_steps p x (BaseConstructor n) es ds at n (this_of f.locals ∷ vs) (constructor_passed c formed f s ds good.0 p x n es vs at evs) h1)

  -- ---- new objects

  construct_steps : (p : Place) (x : Option ℕ) (t : ℕ) (es : List ExprTree) (ds : List Due) → f.left ≡ Statement (NewStmt p x t es) ∷ ds → (vs : List Value) → values_of es (scene c f s) ≡ Ok vs →
      ((y : Table) → Fits c.classes y s → IsGoodStore c (new_object_of c.classes s t) → Fits c.classes y (new_object_of c.classes s t) →
      ConstructsSafely (activation_of c f y) (NewStmt p x t es) (λ q. LeftSafely (activation_of c f y) ds q) (point_of f s) x (constructor_of c t) (value.Obj (length s)) vs (new_object_of c.classes s t)) →
      StepsSafely c fs s (steps.enter c (constructor_of c t) p (ToNew x) (value.Obj (length s) ∷ vs) (record f { left = ds }) fs (new_object_of c.classes s t))
  construct_steps p x t es ds at vs evs h =
      let st = NewStmt p x t es in
      let s1 = new_object_of c.classes s t in
      let this = value.Obj (length s) in
      let typed = typed_here c f s st ds refl at good.0 in
      let declared = (and_parts (is_declared c.classes t) (fits_kept c.classes f.body x (Some (class_type t)))
      (and_parts (is_declared c.classes t && fits_kept c.classes f.body x (Some (class_type t))) (is_call_of c.classes f.body None es (constructor_of c t)) typed).0).0 in
      let s1_good : IsGoodStore c s1 = new_object_good (scene c f s) f.body f.body.flags.ctor (frame_setting c f s good.0.sound) formed.admissible t declared in
      let new_table = good_table c s1 s1_good in
      let grown : HasGrown s s1 = grown_change c.classes (invariants_hold c.classes) s s1 (NewObject t refl) in
      let k = new_passed c formed f s ds good.0 p x t es vs at evs in
      let b = k.0 in
      let h' = λ (y : Table) (fits : Fits c.classes y s1). subst
      (λ (o : Option BodyTree). ConstructsSafely (activation_of c f y) st (λ q. LeftSafely (activation_of c f y) ds q) (point_of f s) x o this vs s1) k.1
      (h y (fits_before c.classes y s s1 grown fits) s1_good fits) k.3 in
      enter_steps (constructor_of c t) b k.2.0 k.1 k.2.1 p (ToNew x) (this ∷ vs) s1 ds (targets_here c f s good.0 st ds at) k.3 (h' new_table.0 new_table.1).0
      (λ y z v fits r sound. (h' y (fits_before c.classes y s1 z r.grown fits)).1 z v fits r sound (new_after c f s ds good.0 p x t es at z r.later y))

  pub new_steps : (p : Place) (x : Option ℕ) (t : ℕ) (es : List ExprTree) (ds : List Due) → f.left ≡ Statement (NewStmt p x t es) ∷ ds →
      ((y : Table) → Fits c.classes y s → Safely (activation_of c f y) (NewStmt p x t es) (point_of f s) (λ q. LeftSafely (activation_of c f y) ds q)) →
      StepsSafely c fs s (steps.act c (NewStmt p x t es) (record f { left = ds }) fs s)
  new_steps p x t es ds at h = values_steps c fs s fitting.0 fitting.1 (values_of es (scene c f s)) _ _ h (λ vs evs h1. construct_steps p x t es ds at vs evs h1)
