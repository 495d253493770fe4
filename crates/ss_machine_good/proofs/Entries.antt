-- Each step leaves the store at the entry of each frame older than the store.
use Rattle.std.proofs.Common.{◌≡◌, ℕ, zero, suc, ℤ, List, [], ◌∷◌, ◌++◌, map, length, Bool, true, false, Option, Some, None, Ok, Err, refl}
use Rattle.std.specs.Prelude.{if◌then◌else◌, Result}
use Rattle.ss_core.specs.declared.names.Place.{Place}
use Rattle.ss_core.specs.declared.names.Kind.{Kind}
use Rattle.ss_core.specs.declared.names.Kind.TheVariants as kind
use Rattle.ss_core.specs.Tree.{ExprTree, CalleeTree, Dispatched, Static, Base, BaseConstructor, ExposedTree, StmtTree, AssignStmt, WriteStmt, WriteElementStmt, NewStmt, NewArrayStmt, CallStmt, ReadyStmt, IfStmt, LoopStmt, UnpackStmt, PackStmt, AssertStmt, AssumeStmt, PrintStmt, PrintTextStmt, ReturnStmt, BodyTree, CoreTree}
use Rattle.ss_store_rules.specs.declared.Value.{Value}
use Rattle.ss_store_rules.specs.declared.Value.TheVariants as value
use Rattle.ss_store_rules.specs.declared.Undefined.{Undefined}
use Rattle.ss_store_rules.specs.Store.{Object}
use Rattle.ss_store_rules.specs.Numbers.{Outcome}
use Rattle.ss_store_rules.specs.Reads.{as_int, as_bool, object_at}
use Rattle.ss_store_rules.specs.Values.{local_value, value_of, holds}
use Rattle.ss_store_rules.specs.Changes.{unpack_of, pack_of, write_of, write_element_of, new_object_of, new_array_of}
use Rattle.ss_store_rules.specs.Admissible.{invariants_hold}
use Rattle.ss_store_rules.specs.Typed.{body_at, constructor_of, method_at}
use Rattle.ss_machine_rules.specs.Frame.{is_kept}
use Rattle.ss_machine_rules.specs.States.{Due, Statement, Test, dues, Target, ToCall, ToNew, Frame, State, Running, Done, Failed, Stopped, Next, Goes, Over, Fails, Stops, scene, span}
use Rattle.ss_machine_rules.specs.Steps
use Rattle.ss_machine_rules.specs.Runs.{then_is, step, start_with, run}
use Rattle.ss_machine_typed.specs.Older.{IsOlder}
use Rattle.ss_machine_typed.proofs.Older.{older_self, older_trans, older_unpack, older_pack, older_write, older_write_element, older_new_object, older_new_array, older_ready}
use Rattle.ss_machine_good.specs.Entries.{AreOlderEntries, HasOlderEntries}

-- it goes on with older entries, if it does
abbrev GoesOlder : Next → Type 0
GoesOlder (Goes fs s p) = AreOlderEntries fs s
GoesOlder (Over s) = Unit {0}
GoesOlder (Fails k at) = Unit {0}
GoesOlder (Stops at) = Unit {0}

entries_later : (fs : List Frame) (s s' : List Object) → IsOlder s s' → AreOlderEntries fs s → AreOlderEntries fs s'
entries_later [] s s' h are = tt
entries_later (f ∷ fs) s s' h are = (older_trans f.entry s s' are.0 h, entries_later fs s s' h are.1)

value_then : (r : Outcome) (k : Value → Next) → ((v : Value) → r ≡ Ok v → GoesOlder (k v)) → GoesOlder (Steps.with_value r k)
value_then (Ok v) k h = h v refl
value_then (Err u) k h = tt

values_then : (r : Result (List Value) Undefined) (k : List Value → Next) → ((vs : List Value) → GoesOlder (k vs)) → GoesOlder (Steps.with_values r k)
values_then (Ok vs) k h = h vs
values_then (Err u) k h = tt

holds_then : (b : Bool) (k : Kind) (at : Place) (n : Next) → GoesOlder n → GoesOlder (Steps.where_holds b k at n)
holds_then true k at n h = h
holds_then false k at n h = tt

change_then : (r : Result (List Object) Kind) (at : Place) (f : Frame) (fs : List Frame) (s : List Object) → ((z : List Object) → r ≡ Ok z → IsOlder s z) → AreOlderEntries (f ∷ fs) s → GoesOlder (Steps.changes r at f fs)
change_then (Ok z) at f fs s h are = entries_later (f ∷ fs) s z (h z refl) are
change_then (Err k) at f fs s h are = tt

module _ (c : CoreTree) where
  enter_older : (b : Option BodyTree) (at : Place) (into : Target) (vs : List Value) (f : Frame) (fs : List Frame) (s : List Object) → AreOlderEntries (f ∷ fs) s → GoesOlder (Steps.enter c b at into vs f fs s)
  enter_older None at into vs f fs s are = are
  enter_older (Some b) at into vs f fs s are = holds_then (Steps.all_hold b.entry _) kind.Precondition at _ (older_self s, are)

  dispatch_older : (m : ℕ) (at : Place) (x : Option ℕ) (v : Value) (vs : List Value) (f : Frame) (fs : List Frame) (s : List Object) → AreOlderEntries (f ∷ fs) s → GoesOlder (Steps.dispatch c m at x v vs f fs s)
  dispatch_older m at x (value.Obj o) vs f fs s are = enter_older (method_at c (object_at s o).class m) at (ToCall x) (value.Obj o ∷ vs) f fs s are
  dispatch_older m at x (value.Int i) vs f fs s are = tt
  dispatch_older m at x (value.Bool b) vs f fs s are = tt
  dispatch_older m at x value.Null vs f fs s are = tt

  call_older : (callee : CalleeTree) (at : Place) (x : Option ℕ) (es : List ExprTree) (f : Frame) (fs : List Frame) (s : List Object) → AreOlderEntries (f ∷ fs) s → GoesOlder (Steps.call c callee at x es f fs s)
  call_older (Dispatched e t m) at x es f fs s are = value_then (value_of e (scene c f s)) _ (λ v ev. values_then (Steps.values_of es (scene c f s)) _ (λ vs. dispatch_older m at x v vs f fs s are))
  call_older (Static n) at x es f fs s are = values_then (Steps.values_of es (scene c f s)) _ (λ vs. enter_older (body_at c n) at (ToCall x) vs f fs s are)
  call_older (Base n) at x es f fs s are = values_then (Steps.values_of es (scene c f s)) _ (λ vs. enter_older (body_at c n) at (ToCall x) _ f fs s are)
  call_older (BaseConstructor n) at x es f fs s are = values_then (Steps.values_of es (scene c f s)) _ (λ vs. enter_older (body_at c n) at (ToCall x) _ f fs s are)

  array_older : (r : Result (List Object) Kind) (o : ℕ) (at : Place) (x : Option ℕ) (f : Frame) (fs : List Frame) (s : List Object) → ((z : List Object) → r ≡ Ok z → IsOlder s z) → AreOlderEntries (f ∷ fs) s → GoesOlder (Steps.made_array r o at x f fs)
  array_older (Ok z) o at x f fs s h are = entries_later (f ∷ fs) s z (h z refl) are
  array_older (Err k) o at x f fs s h are = tt

  ready_older : (s : List Object) (v : Value) → IsOlder s (Steps.with_ready s v)
  ready_older s (value.Obj o) = older_ready s o
  ready_older s (value.Int i) = older_self s
  ready_older s (value.Bool b) = older_self s
  ready_older s value.Null = older_self s

  back_older : (into : Target) (v this : Value) (f : Frame) (fs : List Frame) (s : List Object) → AreOlderEntries (f ∷ fs) s → GoesOlder (Steps.back into v this f fs s)
  back_older (ToCall x) v this f fs s are = are
  back_older (ToNew x) v this f fs s are = entries_later (f ∷ fs) s (Steps.with_ready s this) (ready_older s this) are

  leave_older : (v : Value) (f : Frame) (fs : List Frame) (s : List Object) → AreOlderEntries fs s → GoesOlder (Steps.leave v f fs s)
  leave_older v f [] s are = tt
  leave_older v f (caller ∷ callers) s are = back_older f.into v _ caller callers s are

  exit_older : (at : Place) (v : Value) (f : Frame) (fs : List Frame) (s : List Object) → AreOlderEntries fs s → GoesOlder (Steps.exit_with c at v f fs s)
  exit_older at v f fs s are = holds_then (Steps.all_hold f.body.exit (scene c f s)) kind.Postcondition at _ (holds_then (is_kept (span c f s [])) kind.Frame at _ (leave_older v f fs s are))

  print_older : (e : Option ExprTree) (newline : Bool) (f : Frame) (fs : List Frame) (s : List Object) → AreOlderEntries (f ∷ fs) s → GoesOlder (Steps.print e newline c f fs s)
  print_older None newline f fs s are = are
  print_older (Some e) newline f fs s are = value_then (value_of e (scene c f s)) _ (λ v ev. are)

  assume_older : (b : Bool) (at : Place) (f : Frame) (fs : List Frame) (s : List Object) → AreOlderEntries (f ∷ fs) s → GoesOlder (if b then Steps.goes f fs s else Stops at)
  assume_older true at f fs s are = are
  assume_older false at f fs s are = tt

  head_older : (at : Place) (invariants : List ExprTree) (exposes : List ExposedTree) (f : Frame) (fs : List Frame) (s : List Object) (n : Next) → GoesOlder n → GoesOlder (Steps.at_head c at invariants exposes f fs s n)
  head_older at invariants exposes f fs s n h =
      let level = Steps.where_holds (Steps.are_exposed c.classes s f exposes) kind.LoopLevel at n in
      let frame = Steps.where_holds (is_kept (span c f s (map (Steps.held_by f) exposes))) kind.LoopFrame at level in
      holds_then (Steps.all_hold invariants (scene c f s)) kind.LoopInvariant at frame
      (holds_then (is_kept (span c f s (map (Steps.held_by f) exposes))) kind.LoopFrame at level (holds_then (Steps.are_exposed c.classes s f exposes) kind.LoopLevel at n h))

  act_older : (st : StmtTree) (f : Frame) (fs : List Frame) (s : List Object) → AreOlderEntries (f ∷ fs) s → GoesOlder (Steps.act c st f fs s)
  act_older (AssignStmt at x e) f fs s are = value_then (value_of e (scene c f s)) _ (λ v ev. are)
  act_older (WriteStmt at o g m t e) f fs s are =
      value_then (value_of o (scene c f s)) _ (λ v ev. value_then (value_of e (scene c f s)) _ (λ w ew. change_then (write_of c.classes s v g w) at f fs s (older_write c.classes s v g w) are))
  act_older (WriteElementStmt at a i e) f fs s are =
      value_then (value_of a (scene c f s)) _ (λ v ev. value_then (value_of i (scene c f s)) _ (λ n en. value_then (value_of e (scene c f s)) _ (λ w ew. change_then (write_element_of s v (as_int n) w) at f fs s (older_write_element s v (as_int n) w) are)))
  act_older (NewStmt at x t es) f fs s are =
      values_then (Steps.values_of es (scene c f s)) _ (λ vs. enter_older (constructor_of c t) at (ToNew x) _ f fs (new_object_of c.classes s t) (entries_later (f ∷ fs) s (new_object_of c.classes s t) (older_new_object c.classes s t) are))
  act_older (NewArrayStmt at x t e) f fs s are = value_then (value_of e (scene c f s)) _ (λ n en. array_older (new_array_of s t (as_int n)) (length s) at x f fs s (older_new_array s t (as_int n)) are)
  act_older (CallStmt at x callee es) f fs s are = call_older callee at x es f fs s are
  act_older (ReadyStmt at) f fs s are = entries_later (f ∷ fs) s _ (ready_older s _) are
  act_older (IfStmt at e one other) f fs s are = value_then (value_of e (scene c f s)) _ (λ v ev. are)
  act_older (LoopStmt at invariants prelude e body exposes) f fs s are =
      head_older at invariants exposes f fs s (Steps.goes (Steps.go_into (dues prelude ++ Test e body (LoopStmt at invariants prelude e body exposes) ∷ []) f) fs s) are
  act_older (UnpackStmt at x t) f fs s are = change_then (unpack_of c.classes s (local_value (scene c f s) x) t) at f fs s (older_unpack c.classes s (local_value (scene c f s) x) t) are
  act_older (PackStmt at x t) f fs s are =
      change_then (pack_of c.classes (invariants_hold c.classes) s (local_value (scene c f s) x) t) at f fs s (older_pack c.classes (invariants_hold c.classes) s (local_value (scene c f s) x) t) are
  act_older (AssertStmt at e) f fs s are = holds_then (holds e (scene c f s)) kind.Assert at _ are
  act_older (AssumeStmt at e) f fs s are = assume_older (holds e (scene c f s)) at f fs s are
  act_older (PrintStmt at e newline) f fs s are = print_older e newline f fs s are
  act_older (PrintTextStmt at text newline) f fs s are = are
  act_older (ReturnStmt at e) f fs s are = value_then (Steps.result_value e (scene c f s)) _ (λ v ev. exit_older at v (Steps.with_local (Steps.result_local f.body) v f) fs s are.1)

  if_older : (b : Bool) (f g : Frame) (fs : List Frame) (s : List Object) → AreOlderEntries (f ∷ fs) s → AreOlderEntries (g ∷ fs) s → AreOlderEntries ((if b then f else g) ∷ fs) s
  if_older true f g fs s are other = are
  if_older false f g fs s are other = other

  first_older : (ds : List Due) (f : Frame) (fs : List Frame) (s : List Object) → AreOlderEntries (f ∷ fs) s → GoesOlder (Steps.act_first c ds f fs s)
  first_older [] f fs s are = exit_older f.body.place value.Null (Steps.with_local (Steps.result_local f.body) value.Null f) fs s are.1
  first_older (Statement st ∷ ds) f fs s are = act_older st (record f { left = ds }) fs s are
  first_older (Test e body loop ∷ ds) f fs s are = value_then (value_of e (scene c f s)) _ (λ v ev. if_older (as_bool v) (Steps.go_into (dues body ++ Statement loop ∷ []) (record f { left = ds })) (record f { left = ds }) fs s are are)

  next_older : (fs : List Frame) (s : List Object) → AreOlderEntries fs s → GoesOlder (Steps.next c fs s)
  next_older [] s are = tt
  next_older (f ∷ fs) s are = first_older f.left f fs s are

  then_older : (s : List Object) (before : List ℕ) (n : Next) → GoesOlder n → HasOlderEntries (then_is s before n)
  then_older s before (Goes fs z p) h = h
  then_older s before (Over z) h = tt
  then_older s before (Fails k at) h = tt
  then_older s before (Stops at) h = tt

  step_older : (r : State) → HasOlderEntries r → HasOlderEntries (step c r)
  step_older (Running fs s before) h = then_older s before (Steps.next c fs s) (next_older fs s h)
  step_older (Done s before) h = tt
  step_older (Failed k at before) h = tt
  step_older (Stopped at s before) h = tt

  start_older : (input : List ℤ) (b : Option BodyTree) → HasOlderEntries (start_with input b)
  start_older input None = tt
  start_older input (Some b) = (older_self _, tt)

  -- in each state of each run
  pub run_older : (input : List ℤ) (n : ℕ) → HasOlderEntries (run c input n)
  run_older input zero = start_older input (body_at c c.main)
  run_older input (suc n) = step_older (run c input n) (run_older input n)
