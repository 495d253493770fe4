-- Points after the statements of a good frame.
use Rattle.std.proofs.Common.{◌≡◌, ℕ, ◌<◌, ◌≤◌, List, ◌∷◌, ◌++◌, length, true, false, ◌==◌, Option, Some, None, Ok, refl, sym, ◌∙◌, ap, subst, arith, length-append}
use Rattle.std.specs.Prelude.{slice_get, if◌then◌else◌, nat_le, nat_lt, option_map, option_to_list}
use Rattle.std.proofs.lemmas.Bool.{false≢true, and_parts, or_left, or_right, ltb-true, eq-eqb, eqb-true}
use Rattle.std.proofs.lemmas.List.{length-map}
use Rattle.ss_core.specs.declared.names.Place.{Place}
use Rattle.ss_core.specs.declared.names.Mark.{Mark}
use Rattle.ss_core.specs.Tree.{ExprTree, LocalTree, CalleeTree, Dispatched, Static, Base, BaseConstructor, StmtTree, AssignStmt, WriteStmt, WriteElementStmt, NewStmt, NewArrayStmt, CallStmt, ReadyStmt, UnpackStmt, PackStmt, BodyTree, CoreTree}
use Rattle.ss_store_rules.specs.declared.Value.{Value}
use Rattle.ss_store_rules.specs.declared.Value.TheVariants as value
use Rattle.ss_store_rules.specs.Store.{Object}
use Rattle.ss_store_rules.specs.Reads.{as_int}
use Rattle.ss_store_rules.specs.Values.{local_value, value_of}
use Rattle.ss_store_rules.specs.Changes.{unpack_of, pack_of, write_of, write_element_of, new_object_of, new_array_of}
use Rattle.ss_store_rules.specs.Admissible.{invariants_hold}
use Rattle.ss_store_rules.specs.Types.{code_type}
use Rattle.ss_store_rules.specs.Locals.{types_of, argument_types, argument_count, local_types, is_variable, result_number, is_kept_in, is_target}
use Rattle.ss_store_rules.specs.Typed.{callee_of}
use Rattle.ss_store_rules.specs.Assigned.{reads_assigned}
use Rattle.ss_store_rules.specs.NonNull.{is_non_null_type, may_stand, may_stand_at}
use Rattle.ss_store_rules.specs.Formed.{IsFormed}
use Rattle.ss_machine_rules.specs.Frame.{this_of}
use Rattle.ss_machine_rules.specs.States.{Due, Statement, Frame, ToCall, put, scene}
use Rattle.ss_machine_rules.specs.Steps as steps
use Rattle.ss_machine_good.specs.Flows.{is_simple}
use Rattle.ss_machine_good.specs.Known.{IsNotNull}
use Rattle.ss_machine_good.proofs.Frames.{declared_some}
use Rattle.ss_machine_good.proofs.Puts.{put_assigned}
use Rattle.ss_machine_good.specs.Later.{IsLater}
use Rattle.ss_machine_good.specs.LaterFrames.{IsGoodFrame, IsAnswer, entry_size}
use Rattle.ss_machine_good.proofs.Later.{later_self, later_trans, later_unpack, later_pack, later_write, later_write_element, later_new_object, later_new_array, later_ready}
use Rattle.ss_machine_good.proofs.Behind.{target_variable}
use Rattle.ss_machine_good.proofs.Statements.{typed_here, all_given, written_not_null}
use Rattle.ss_machine_good.proofs.Values.{before_assigned, before_known, reads_evaluated, stands_not_null}
use Rattle.ss_machine_good.proofs.Waiting.{older_size}
use Rattle.ss_machine_good.proofs.CallsOfRuns as calls
use Rattle.ss_machine_good.proofs.Constructions.{low_size}
use Rattle.ss_logic.specs.Values.{Table}
use Rattle.ss_vcgen_heaps.specs.Contracts.{seen, called}
use Rattle.ss_sound_outcomes.specs.Points.{Activation, Point, IsReached, IsAfter}
use Rattle.ss_sound_outcomes.specs.Points as points
use Rattle.ss_sound_outcomes.specs.Outcomes.{with_local, with_store}
use Rattle.ss_sound_runs.specs.Frames.{activation_of, point_of}

-- ---- what is reached

pub reached_self : (a : Activation) (p : Point) → IsReached a p p
reached_self a p = record { later = later_self a.program.classes (points.entry_size a) p.store; stays = λ x nn h. h }

pub reached_trans : (a : Activation) (p q r : Point) → IsReached a p q → IsReached a q r → IsReached a p r
reached_trans a p q r h k = record {
  later = later_trans a.program.classes (points.entry_size a) p.store q.store r.store h.later k.later;
  stays = λ x nn not_null. k.stays x nn (h.stays x nn not_null);
}

-- ---- where a local may get a value

variable_within : (b : BodyTree) (y : ℕ) → is_variable b y ≡ true → y < length (local_types b)
variable_within b y h =
    let low = ltb-true y (result_number b) (and_parts (nat_le (argument_count b) y) (nat_lt y (result_number b)) h).1 in
    let all = length-append (argument_types b ++ types_of b.locals) (option_to_list b.result) in
    let first = length-append (argument_types b) (types_of b.locals) in
    let count : length (types_of b.locals) ≡ length b.locals = length-map b.locals (λ (l : LocalTree). l.ty) in
    omega (arith, low, all, first, count)

module _ (c : CoreTree) (f : Frame) (s : List Object) (st : StmtTree) (ds : List Due) (simple : is_simple st ≡ true) (at : f.left ≡ Statement st ∷ ds) (is : IsGoodFrame c f s) (table : Table) where
  pub put_after : (x : Option ℕ) (v : Value) (z : List Object) → IsLater c.classes (entry_size f) s z → ((y : ℕ) → is_target st y ≡ is_kept_in x y) →
      ((y : ℕ) → x ≡ Some y → is_non_null_type (slice_get (local_types f.body) y) ≡ true → IsNotNull v) → IsAfter (activation_of c f table) st (point_of f s) (record { locals = put x v f.locals; store = z })
  put_after None v z later targets not_null = record {
    reached = record { later = later; stays = λ y nn h. h };
    assigned = λ y t nn. absurd (false≢true (sym (targets y) ∙ t));
  }
  put_after (Some w) v z later targets not_null =
      let b = f.body in
      let count = is.sound.locals.count in
      let inside = variable_within b w (target_variable c f s st ds simple at is w (targets w ∙ eq-eqb w w refl)) in
      let within : w < length f.locals = omega (arith, inside, count) in
      record {
        reached = record {
          later = later;
          stays = λ y nn h. put_assigned (scene c f z) w v within b (λ u. u == y) (λ u e typed. subst (λ n. IsNotNull (local_value (scene c f z) n)) (sym (eqb-true u y e)) h) (not_null w refl) y (or_right (w == y) (y == y) (eq-eqb y y refl)) nn;
        };
        assigned = λ y t nn. put_assigned (scene c f z) w v within b (λ u. false) (λ u e typed. absurd (false≢true e)) (not_null w refl) y (or_left (w == y) false (sym (targets y) ∙ t)) nn;
      }

  -- where it assigns nothing
  pub quiet_after : (z : List Object) → IsLater c.classes (entry_size f) s z → ((y : ℕ) → is_target st y ≡ false) → IsAfter (activation_of c f table) st (point_of f s) (record { locals = f.locals; store = z })
  quiet_after z later none = put_after None value.Null z later none (λ y e nn. absurd (let no_one : ⊥ = cc in no_one))

-- a reference isn't null
object_not_null : (o : ℕ) → IsNotNull (value.Obj o)
object_not_null o null = cc

module _ (c : CoreTree) (formed : IsFormed c) (f : Frame) (s : List Object) (ds : List Due) (is : IsGoodFrame c f s) (table : Table) where
  pub assign_after : (p : Place) (x : ℕ) (e : ExprTree) (v : Value) → f.left ≡ Statement (AssignStmt p x e) ∷ ds → value_of e (scene c f s) ≡ Ok v →
      IsAfter (activation_of c f table) (AssignStmt p x e) (point_of f s) (with_local (Some x) v (point_of f s))
  assign_after p x e v at ev =
      let b = f.body in
      let st = AssignStmt p x e in
      let fits = declared_some c.classes (code_type c.classes b e) (slice_get (local_types b) x) (typed_here c f s st ds refl at is) in
      let reads_ = (and_parts (reads_assigned b (before_assigned c f s st ds refl at is).known e) true (reads_evaluated c f s st ds refl at is)).0 in
      let stands : may_stand c b (before_known c f s st ds refl at is).known e fits.0 ≡ true = subst (λ o. may_stand_at c b (before_known c f s st ds refl at is).known e o ≡ true) fits.1 (before_known c f s st ds refl at is).checked in
      put_after c f s st ds refl at is table (Some x) v s (later_self c.classes (entry_size f) s) (λ y. refl)
      (λ y eq nn.
      let same : x ≡ y = cc in
      let nn_x : is_non_null_type (slice_get (local_types b) x) ≡ true = subst (λ n. is_non_null_type (slice_get (local_types b) n) ≡ true) (sym same) nn in
      stands_not_null c f s st ds refl at is e fits.0 v reads_ fits.2 stands ev (sym (ap is_non_null_type fits.1) ∙ nn_x))

  pub write_after : (p : Place) (o : ExprTree) (g : ℕ) (m : Mark) (t : ℕ) (e : ExprTree) (v w : Value) (z : List Object) → f.left ≡ Statement (WriteStmt p o g m t e) ∷ ds → value_of e (scene c f s) ≡ Ok w → write_of c.classes s v g w ≡ Ok z →
      IsAfter (activation_of c f table) (WriteStmt p o g m t e) (point_of f s) (with_store z (point_of f s))
  write_after p o g m t e v w z at ew h =
      quiet_after c f s (WriteStmt p o g m t e) ds refl at is table z (later_write c.classes (entry_size f) s v g w z (written_not_null c formed f s ds is p o g m t e w at ew) h) (λ y. refl)

  pub write_element_after : (p : Place) (a i e : ExprTree) (v w n : Value) (z : List Object) → f.left ≡ Statement (WriteElementStmt p a i e) ∷ ds → write_element_of s v (as_int n) w ≡ Ok z →
      IsAfter (activation_of c f table) (WriteElementStmt p a i e) (point_of f s) (with_store z (point_of f s))
  write_element_after p a i e v w n z at h = quiet_after c f s (WriteElementStmt p a i e) ds refl at is table z (later_write_element c.classes (entry_size f) s v (as_int n) w z h) (λ y. refl)

  pub unpack_after : (p : Place) (x t : ℕ) (z : List Object) → f.left ≡ Statement (UnpackStmt p x t) ∷ ds → unpack_of c.classes s (local_value (scene c f s) x) t ≡ Ok z →
      IsAfter (activation_of c f table) (UnpackStmt p x t) (point_of f s) (with_store z (point_of f s))
  unpack_after p x t z at h = quiet_after c f s (UnpackStmt p x t) ds refl at is table z (later_unpack c.classes (entry_size f) s (local_value (scene c f s) x) t z h) (λ y. refl)

  pub pack_after : (p : Place) (x t : ℕ) (z : List Object) → f.left ≡ Statement (PackStmt p x t) ∷ ds → pack_of c.classes (invariants_hold c.classes) s (local_value (scene c f s) x) t ≡ Ok z →
      IsAfter (activation_of c f table) (PackStmt p x t) (point_of f s) (with_store z (point_of f s))
  pack_after p x t z at h = quiet_after c f s (PackStmt p x t) ds refl at is table z (later_pack c.classes (entry_size f) (invariants_hold c.classes) s (local_value (scene c f s) x) t z h) (λ y. refl)

  pub array_after : (p : Place) (x : Option ℕ) (t : ℕ) (e : ExprTree) (n : Value) (z : List Object) → f.left ≡ Statement (NewArrayStmt p x t e) ∷ ds → new_array_of s t (as_int n) ≡ Ok z →
      IsAfter (activation_of c f table) (NewArrayStmt p x t e) (point_of f s) (with_local x (value.Obj (length s)) (with_store z (point_of f s)))
  array_after p x t e n z at h =
      put_after c f s (NewArrayStmt p x t e) ds refl at is table x (value.Obj (length s)) z (later_new_array c.classes (entry_size f) s t (as_int n) z h) (λ y. refl) (λ y eq nn. object_not_null (length s))

  pub ready_after : (p : Place) → f.left ≡ Statement (ReadyStmt p) ∷ ds → IsAfter (activation_of c f table) (ReadyStmt p) (point_of f s) (with_store (steps.with_ready s (this_of f.locals)) (point_of f s))
  ready_after p at =
      let ctor = (all_given c f s (ReadyStmt p) ds refl at is p refl).0 in
      let k = is.constructs ctor in
      let few : entry_size f ≤ k.position = let zero_ : entry_size f ≡ 0 = ap (λ d. if d then 0 else length f.entry) ctor in omega (arith, zero_) in
      quiet_after c f s (ReadyStmt p) ds refl at is table (steps.with_ready s (this_of f.locals))
      (subst (λ w. IsLater c.classes (entry_size f) s (steps.with_ready s w)) (sym k.this) (later_ready c.classes (entry_size f) s k.position few)) (λ y. refl)

-- ---- calls

seen_result : (o : Option BodyTree) (k b : BodyTree) → o ≡ Some k → option_map seen o ≡ Some b → b.result ≡ k.result
seen_result o k b e h = let both : Some (seen k) ≡ Some b = sym (ap (option_map seen) e) ∙ h in let same : seen k ≡ b = cc in ap (λ (u : BodyTree). u.result) (sym same)

plain_result : (o : Option BodyTree) (k b : BodyTree) → o ≡ Some k → o ≡ Some b → b.result ≡ k.result
plain_result o k b e h = let both : Some k ≡ Some b = sym e ∙ h in let same : k ≡ b = cc in ap (λ (u : BodyTree). u.result) (sym same)

-- what a caller sees of a body gives back the same
called_result : (c : CoreTree) (body : BodyTree) (callee : CalleeTree) (k b : BodyTree) → callee_of c body callee ≡ Some k → called c body callee ≡ Some b → b.result ≡ k.result
called_result c body (Dispatched e t m) k b h n = seen_result (callee_of c body (Dispatched e t m)) k b h n
called_result c body (Static n) k b h e = plain_result (callee_of c body (Static n)) k b h e
called_result c body (Base n) k b h e = plain_result (callee_of c body (Base n)) k b h e
called_result c body (BaseConstructor n) k b h e = plain_result (callee_of c body (BaseConstructor n)) k b h e

pub call_after : (c : CoreTree) (f : Frame) (s : List Object) (ds : List Due) → IsGoodFrame c f s → (p : Place) (x : Option ℕ) (callee : CalleeTree) (es : List ExprTree) → f.left ≡ Statement (CallStmt p x callee es) ∷ ds →
    (b : BodyTree) → called c f.body callee ≡ Some b → (this v : Value) (z : List Object) → IsLater c.classes (entry_size f) s z → IsAnswer c b (ToCall x) this z v →
    (table : Table) → IsAfter (activation_of c f table) (CallStmt p x callee es) (point_of f s) (with_local x v (with_store z (point_of f s)))
call_after c f s ds is p x callee es at b named this v z later answer table =
    let k = calls.called c f s p x callee es ds at is in
    put_after c f s (CallStmt p x callee es) ds refl at is table x v z later (λ y. refl)
    (λ y e nn. answer.non_null (ap is_non_null_type (called_result c f.body callee k.body b k.is_callee named) ∙ k.keeps y e nn))

pub new_after : (c : CoreTree) (f : Frame) (s : List Object) (ds : List Due) → IsGoodFrame c f s → (p : Place) (x : Option ℕ) (t : ℕ) (es : List ExprTree) → f.left ≡ Statement (NewStmt p x t es) ∷ ds →
    (z : List Object) → IsLater c.classes (entry_size f) (new_object_of c.classes s t) z →
    (table : Table) → IsAfter (activation_of c f table) (NewStmt p x t es) (point_of f s) (with_local x (value.Obj (length s)) (with_store (steps.with_ready z (value.Obj (length s))) (point_of f s)))
new_after c f s ds is p x t es at z later table =
    let n = entry_size f in
    let s1 = new_object_of c.classes s t in
    let few : n ≤ length s = low_size f (length s) (older_size f.entry s is.sound.older) in
    let whole = later_trans c.classes n s z (steps.with_ready z (value.Obj (length s))) (later_trans c.classes n s s1 z (later_new_object c.classes n s t) later) (later_ready c.classes n z (length s) few) in
    put_after c f s (NewStmt p x t es) ds refl at is table x (value.Obj (length s)) (steps.with_ready z (value.Obj (length s))) whole (λ y. refl) (λ y eq nn. object_not_null (length s))
