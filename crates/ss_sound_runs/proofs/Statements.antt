-- A statement that goes on in its frame leads to a point after it.
use Rattle.std.proofs.Common.{◌≡◌, ℕ, List, ◌∷◌, length, true, false, Option, Some, None, Ok, refl, sym, ◌∙◌, ap, subst, arith}
use Rattle.std.proofs.lemmas.Bool.{false≢true}
use Rattle.ss_core.specs.declared.names.Place.{Place}
use Rattle.ss_core.specs.declared.names.Kind.TheVariants as kind
use Rattle.ss_core.specs.Tree.{ExprTree, CalleeTree, Dispatched, Static, Base, BaseConstructor, StmtTree, AssignStmt, WriteStmt, WriteElementStmt, NewStmt, NewArrayStmt, CallStmt, ReadyStmt, IfStmt, LoopStmt, UnpackStmt, PackStmt, AssertStmt, AssumeStmt, PrintStmt, PrintTextStmt, ReturnStmt, BodyTree, CoreTree}
use Rattle.ss_store_rules.specs.declared.Value.{Value}
use Rattle.ss_store_rules.specs.declared.Value.TheVariants as value
use Rattle.ss_store_rules.specs.Store.{Object}
use Rattle.ss_store_rules.specs.Reads.{as_int, object_at}
use Rattle.ss_store_rules.specs.Values.{local_value, value_of, holds}
use Rattle.ss_store_rules.specs.Changes.{unpack_of, pack_of, write_of, write_element_of, new_object_of, new_array_of}
use Rattle.ss_store_rules.specs.Admissible.{invariants_hold}
use Rattle.ss_store_rules.specs.Locals.{is_target}
use Rattle.ss_store_rules.specs.Typed.{body_at, constructor_of, method_at}
use Rattle.ss_store_rules.specs.Formed.{IsFormed}
use Rattle.ss_machine_rules.specs.Frame.{this_of}
use Rattle.ss_machine_rules.specs.States.{Due, Statement, Target, ToCall, ToNew, Frame, Goes, scene}
use Rattle.ss_machine_rules.specs.Steps as steps
use Rattle.ss_machine_good.specs.Flows.{is_simple}
use Rattle.ss_machine_good.specs.LaterFrames.{IsGoodFrame, entry_size}
use Rattle.ss_machine_good.proofs.Later.{later_self}
use Rattle.ss_logic.specs.Values.{Table}
use Rattle.ss_sound_outcomes.specs.Points.{IsAfter}
use Rattle.ss_sound_runs.specs.Frames.{activation_of, point_of}
use Rattle.ss_sound_runs.proofs.Goes.{GoesTo, goes_to, value_goes, values_goes, change_goes, array_goes, assume_goes, holds_goes, enter_goes, print_goes}
use Rattle.ss_sound_runs.proofs.Behind.{quiet_after, assign_after, write_after, write_element_after, unpack_after, pack_after, array_after, ready_after}
use Rattle.ss_sound_runs.proofs.StepsPassed.{static_passed, dispatched_passed, base_passed, constructor_passed, new_passed}

module _ (c : CoreTree) (formed : IsFormed c) (f : Frame) (s : List Object) (ds : List Due) (is : IsGoodFrame c f s) (table : Table) (fs : List Frame) where
  abbrev LeadsAfter : StmtTree → List Frame → List Object → Type 0
  LeadsAfter st gs z = (g : Frame) → gs ≡ g ∷ fs → IsAfter (activation_of c f table) st (point_of f s) (point_of g z)

  on_frame : (st : StmtTree) (h : Frame) (z : List Object) → IsAfter (activation_of c f table) st (point_of f s) (point_of h z) → LeadsAfter st (h ∷ fs) z
  on_frame st h z behind g e = let same : h ≡ g = cc in subst (λ u. IsAfter (activation_of c f table) st (point_of f s) (point_of u z)) same behind

  -- a body that is entered has a frame of its own
  entered : (st : StmtTree) (o : Option BodyTree) (b : BodyTree) → o ≡ Some b → (p : Place) (into : Target) (vs : List Value) (z : List Object) → GoesTo (LeadsAfter st) (steps.enter c o p into vs (record f { left = ds }) fs z)
  entered st o b there p into vs z = enter_goes (LeadsAfter st) c o p into vs (record f { left = ds }) fs z
      (λ none. absurd (let both : None ≡ Some b = sym none ∙ there in let no_one : ⊥ = cc in no_one))
      (λ b2 is2 g e. absurd (let n = ap length e in omega (arith, n)))

  -- a statement that leaves the locals and the store
  quiet : (st : StmtTree) → is_simple st ≡ true → f.left ≡ Statement st ∷ ds → ((y : ℕ) → is_target st y ≡ false) → LeadsAfter st (record f { left = ds } ∷ fs) s
  quiet st simple at none = on_frame st (record f { left = ds }) s (quiet_after c f s st ds simple at is table s (later_self c.classes (entry_size f) s) none)

  called_after : (p : Place) (x : Option ℕ) (callee : CalleeTree) (es : List ExprTree) → f.left ≡ Statement (CallStmt p x callee es) ∷ ds → GoesTo (LeadsAfter (CallStmt p x callee es)) (steps.call c callee p x es (record f { left = ds }) fs s)
  called_after p x (Dispatched e t m) es at =
      value_goes (LeadsAfter (CallStmt p x (Dispatched e t m) es)) (value_of e (scene c f s)) _ (λ v ev.
      values_goes (LeadsAfter (CallStmt p x (Dispatched e t m) es)) (steps.values_of es (scene c f s)) _ (λ vs eh. dispatched v ev vs eh))
    where
      dispatched : (v : Value) → value_of e (scene c f s) ≡ Ok v → (vs : List Value) → steps.values_of es (scene c f s) ≡ Ok vs → GoesTo (LeadsAfter (CallStmt p x (Dispatched e t m) es)) (steps.dispatch c m p x v vs (record f { left = ds }) fs s)
      dispatched (value.Obj o) ev vs eh =
          let d = dispatched_passed c formed f s ds is p x e t m es o vs at ev eh in
          let there : method_at c (object_at s o).class m ≡ Some d.to = ap (λ (z : Object). method_at c z.class m) d.is_object ∙ d.enters in
          entered (CallStmt p x (Dispatched e t m) es) (method_at c (object_at s o).class m) d.to there p (ToCall x) (value.Obj o ∷ vs) s
      dispatched (value.Int i) ev vs eh = tt
      dispatched (value.Bool b) ev vs eh = tt
      dispatched value.Null ev vs eh = tt
  called_after p x (Static n) es at =
      values_goes (LeadsAfter (CallStmt p x (Static n) es)) (steps.values_of es (scene c f s)) _
      (λ vs h. let k = static_passed c formed f s ds is p x n es vs at h in entered (CallStmt p x (Static n) es) (body_at c n) k.body k.is_entered p (ToCall x) vs s)
  called_after p x (Base n) es at =
      values_goes (LeadsAfter (CallStmt p x (Base n) es)) (steps.values_of es (scene c f s)) _
      (λ vs h. let k = base_passed c formed f s ds is p x n es vs at h in entered (CallStmt p x (Base n) es) (body_at c n) k.body k.is_entered p (ToCall x) (this_of f.locals ∷ vs) s)
  called_after p x (BaseConstructor n) es at =
      values_goes (LeadsAfter (CallStmt p x (BaseConstructor n) es)) (steps.values_of es (scene c f s)) _
      (λ vs h. let k = constructor_passed c formed f s ds is p x n es vs at h in entered (CallStmt p x (BaseConstructor n) es) (body_at c n) k.body k.is_entered p (ToCall x) (this_of f.locals ∷ vs) s)

  acted_after : (st : StmtTree) → is_simple st ≡ true → f.left ≡ Statement st ∷ ds → GoesTo (LeadsAfter st) (steps.act c st (record f { left = ds }) fs s)
  acted_after (AssignStmt p x e) simple at =
      value_goes (LeadsAfter (AssignStmt p x e)) (value_of e (scene c f s)) _
      (λ v ev. on_frame (AssignStmt p x e) (steps.with_local (Some x) v (record f { left = ds })) s (assign_after c formed f s ds is table p x e v at ev))
  acted_after (WriteStmt p o g m t e) simple at =
      value_goes (LeadsAfter (WriteStmt p o g m t e)) (value_of o (scene c f s)) _ (λ v ev. value_goes (LeadsAfter (WriteStmt p o g m t e)) (value_of e (scene c f s)) _ (λ w ew.
      change_goes (LeadsAfter (WriteStmt p o g m t e)) (write_of c.classes s v g w) p (record f { left = ds }) fs
      (λ z h. on_frame (WriteStmt p o g m t e) (record f { left = ds }) z (write_after c formed f s ds is table p o g m t e v w z at ew h))))
  acted_after (WriteElementStmt p a i e) simple at =
      value_goes (LeadsAfter (WriteElementStmt p a i e)) (value_of a (scene c f s)) _ (λ v ev. value_goes (LeadsAfter (WriteElementStmt p a i e)) (value_of i (scene c f s)) _ (λ n en.
      value_goes (LeadsAfter (WriteElementStmt p a i e)) (value_of e (scene c f s)) _ (λ w ew.
      change_goes (LeadsAfter (WriteElementStmt p a i e)) (write_element_of s v (as_int n) w) p (record f { left = ds }) fs
      (λ z h. on_frame (WriteElementStmt p a i e) (record f { left = ds }) z (write_element_after c formed f s ds is table p a i e v w n z at h)))))
  acted_after (NewStmt p x t es) simple at =
      values_goes (LeadsAfter (NewStmt p x t es)) (steps.values_of es (scene c f s)) _
      (λ vs h. let k = new_passed c formed f s ds is p x t es vs at h in entered (NewStmt p x t es) (constructor_of c t) k.0 k.1 p (ToNew x) (value.Obj (length s) ∷ vs) (new_object_of c.classes s t))
  acted_after (NewArrayStmt p x t e) simple at =
      value_goes (LeadsAfter (NewArrayStmt p x t e)) (value_of e (scene c f s)) _ (λ n en. array_goes (LeadsAfter (NewArrayStmt p x t e)) (new_array_of s t (as_int n)) (length s) p x (record f { left = ds }) fs
      (λ z h. on_frame (NewArrayStmt p x t e) (steps.with_local x (value.Obj (length s)) (record f { left = ds })) z (array_after c formed f s ds is table p x t e n z at h)))
  acted_after (CallStmt p x callee es) simple at = called_after p x callee es at
  acted_after (ReadyStmt p) simple at = on_frame (ReadyStmt p) (record f { left = ds }) (steps.with_ready s (this_of f.locals)) (ready_after c formed f s ds is table p at)
  acted_after (IfStmt p e one other) simple at = absurd (false≢true simple)
  acted_after (LoopStmt p invariants prelude e body exposes) simple at = absurd (false≢true simple)
  acted_after (UnpackStmt p x t) simple at =
      change_goes (LeadsAfter (UnpackStmt p x t)) (unpack_of c.classes s (local_value (scene c f s) x) t) p (record f { left = ds }) fs
      (λ z h. on_frame (UnpackStmt p x t) (record f { left = ds }) z (unpack_after c formed f s ds is table p x t z at h))
  acted_after (PackStmt p x t) simple at =
      change_goes (LeadsAfter (PackStmt p x t)) (pack_of c.classes (invariants_hold c.classes) s (local_value (scene c f s) x) t) p (record f { left = ds }) fs
      (λ z h. on_frame (PackStmt p x t) (record f { left = ds }) z (pack_after c formed f s ds is table p x t z at h))
  acted_after (AssertStmt p e) simple at = holds_goes (LeadsAfter (AssertStmt p e)) (holds e (scene c f s)) kind.Assert p (steps.goes (record f { left = ds }) fs s) (quiet (AssertStmt p e) refl at (λ y. refl))
  acted_after (AssumeStmt p e) simple at = assume_goes (LeadsAfter (AssumeStmt p e)) (holds e (scene c f s)) p (steps.goes (record f { left = ds }) fs s) (quiet (AssumeStmt p e) refl at (λ y. refl))
  acted_after (PrintStmt p e newline) simple at = print_goes (LeadsAfter (PrintStmt p e newline)) e newline c (record f { left = ds }) fs s (quiet (PrintStmt p e newline) refl at (λ y. refl))
  acted_after (PrintTextStmt p text newline) simple at = quiet (PrintTextStmt p text newline) refl at (λ y. refl)
  acted_after (ReturnStmt p e) simple at = absurd (false≢true simple)

pub statement_after : (c : CoreTree) → IsFormed c → (f : Frame) (s : List Object) (ds : List Due) → IsGoodFrame c f s → (st : StmtTree) → is_simple st ≡ true → f.left ≡ Statement st ∷ ds →
    (fs : List Frame) (g : Frame) (z : List Object) (piece : List ℕ) → steps.next c (f ∷ fs) s ≡ Goes (g ∷ fs) z piece → (table : Table) → IsAfter (activation_of c f table) st (point_of f s) (point_of g z)
statement_after c formed f s ds is st simple at fs g z piece e table =
    goes_to (LeadsAfter c formed f s ds is table fs st) (steps.act c st (record f { left = ds }) fs s) (acted_after c formed f s ds is table fs st simple at) (g ∷ fs) z piece
    (subst (λ l. steps.act_first c l f fs s ≡ Goes (g ∷ fs) z piece) at e) g refl
