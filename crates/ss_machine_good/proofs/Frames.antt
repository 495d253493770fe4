-- Steps that leave the store keep a sound frame sound.
use Rattle.std.proofs.Common.{◌≡◌, ◌≢◌, ℕ, ◌<◌, ◌≤◌, List, [], ◌∷◌, ◌++◌, length, Bool, true, false, not, ◌&&◌, ◌||◌, Option, Some, None, Ok, refl, sym, ◌∙◌, ap, subst, arith, ⊎_elim, length-append, append_assoc}
use Rattle.std.specs.Prelude.{slice_get, if◌then◌else◌, nat_le, nat_lt}
use Rattle.std.specs.List.{list_all}
use Rattle.std.proofs.lemmas.Bool.{false≢true, true≢false, and_parts, and_from, or_cases, leb-true, cases_Bool}
use Rattle.std.proofs.lemmas.Option.{slice_get_within}
use Rattle.ss_core.specs.declared.names.Place.{Place}
use Rattle.ss_core.specs.declared.names.Ty.{Ty}
use Rattle.ss_core.specs.declared.names.Ty.TheVariants as ty
use Rattle.ss_core.specs.Tree.{ClassTree, ExprTree, IntExpr, BoolExpr, NullExpr, LocalExpr, FieldExpr, ElementExpr, LengthExpr, NegateExpr, NotExpr, BinaryExpr, ImpliesExpr, IffExpr, IsExpr, AsExpr, CastExpr, OldExpr, QuantifiedExpr, StateExpr, OwnersExpr, DefaultExpr, StmtTree, AssignStmt, IfStmt, CodeTree, NoCode, Then, BodyTree, CoreTree}
use Rattle.ss_store_rules.specs.declared.Value.{Value}
use Rattle.ss_store_rules.specs.declared.Value.TheVariants as value
use Rattle.ss_store_rules.specs.Store.{Object}
use Rattle.ss_store_rules.specs.Reads.{as_bool}
use Rattle.ss_store_rules.specs.Values.{Setting, setting, value_of}
use Rattle.ss_store_rules.specs.Types.{in_code, is_condition, has_fitting, type_of, code_type}
use Rattle.ss_store_rules.specs.Locals.{argument_count, is_argument, this_types, types_of, local_types, is_variable, result_number, each, each_inside, targets_only}
use Rattle.ss_store_rules.specs.Typed.{is_typed, fits_declared}
use Rattle.ss_store_rules.specs.Good.{has_type, is_non_null}
use Rattle.ss_store_rules.specs.States.{AreGoodLocals}
use Rattle.ss_store_rules.specs.Assigned.{assigned_flow, assigned_check, reads_assigned}
use Rattle.ss_store_rules.specs.NonNull.{no_facts, known_at_entry, known_tested, is_this_object, site_of, is_never_null, is_non_null_type, may_stand, may_stand_at, learned, known_flow, null_check}
use Rattle.ss_store_rules.specs.Formed.{has_flags, IsFormedBody}
use Rattle.ss_store_rules.specs.Paths.{is_literal_true}
use Rattle.ss_store_rules.proofs.Objects.{same_object}
use Rattle.ss_core.specs.Chain.{IsChain, NoAlso}
use Rattle.ss_machine_rules.specs.Good.{IsGoodStore}
use Rattle.ss_machine_typed.proofs.Older.{older_self}
use Rattle.ss_machine_typed.proofs.Outcomes.{ok_same}
use Rattle.ss_machine_rules.specs.States.{Due, Statement, Test, dues, Target, Frame, frame_at_entry, scene}
use Rattle.ss_machine_rules.specs.Steps.{with_local, go_into}
use Rattle.ss_machine_typed.specs.Settings.{IsGoodSetting}
use Rattle.ss_machine_typed.proofs.First.{put_locals}
use Rattle.ss_machine_good.specs.Flows.{Loop, stmt_of, IsKnown, IsTested}
use Rattle.ss_machine_good.specs.Known.{IsNotNull, IsTrueOf, AreAssigned, with_value}
use Rattle.ss_machine_good.specs.Frames.{all_left, IsSoundFrame}
use Rattle.ss_machine_good.proofs.Flows.{known_entered, known_simple, known_fork, known_head, known_test}
use Rattle.ss_machine_good.proofs.Meets.{known_sound}
use Rattle.ss_machine_good.proofs.Assigned.{assigned_sound}
use Rattle.ss_machine_good.proofs.Tests.{bool_type_is, learned_true, tested_true}
use Rattle.ss_machine_good.proofs.NonNull.{never_null}
use Rattle.ss_machine_good.proofs.Puts.{put_true, put_assigned}
use Rattle.ss_machine_good.proofs.Steps.{value_fits, code_typed, fitting_some}
use Rattle.ss_machine_good.proofs.Calls.{one_ready}
use Rattle.ss_machine_typed.proofs.Sound.{value_sound}
use Rattle.ss_store_rules.proofs.Owners.{not_true}

-- what the expressions of a sound frame may rely on
pub frame_setting : (c : CoreTree) (f : Frame) (s : List Object) → IsSoundFrame c f s → IsGoodSetting (scene c f s) (local_types f.body) f.body.flags.ctor
frame_setting c f s is = record {
  chain = is.chain;
  beside = is.beside;
  store = is.store;
  entry = is.entry;
  older = is.older;
  count = is.locals.count;
  types = is.locals.types;
  ready = is.locals.ready;
}

pub declared_some : (cs : List ClassTree) (a o : Option Ty) → fits_declared cs a o ≡ true → (t : Ty) × (o ≡ Some t) × (has_fitting cs a t ≡ true)
declared_some cs a None h = absurd (false≢true h)
declared_some cs a (Some t) h = (t, refl, h)

-- the value of a truth value has the type of one
pub bool_typed : (cs : List ClassTree) (s : List Object) (a : Ty) (v : Value) (u : Bool) → has_type cs s a v ≡ true → v ≡ value.Bool u → a ≡ ty.Bool
bool_typed cs s ty.Bool v u h e = refl
bool_typed cs s ty.Int v u h e = absurd (false≢true (subst (λ z. has_type cs s ty.Int z ≡ true) e h))
bool_typed cs s ty.Null v u h e = absurd (false≢true (subst (λ z. has_type cs s ty.Null z ≡ true) e h))
bool_typed cs s (ty.Ref t n) v u h e = absurd (false≢true (subst (λ z. has_type cs s (ty.Ref t n) z ≡ true) e h))

-- `this` is an argument
pub some_argument : (b : BodyTree) → b.flags.is_static ≡ false → 1 ≤ argument_count b
some_argument b h = let n = length-append (this_types b) (types_of b.params) in let m : length (this_types b) ≡ 1 = rw h refl in omega (arith, n, m)

pub instance_if : (ctor static none delayed : Bool) → ((not ctor || not static && none) && (not delayed || ctor)) ≡ true → ctor ≡ true → static ≡ false
instance_if true static none delayed h e = not_true static (and_parts (not static) none (and_parts (not static && none) (not delayed || true) h).0).0
instance_if false static none delayed h e = absurd (false≢true e)

-- a variable isn't the `this` of a constructor
no_this : (b : BodyTree) (x : ℕ) → has_flags b ≡ true → is_variable b x ≡ true → b.flags.ctor ≡ true → x ≢ 0
no_this b x flags h ctor z =
    let low = leb-true (argument_count b) x (and_parts (nat_le (argument_count b) x) (nat_lt x (result_number b)) h).0 in
    let one = some_argument b (instance_if b.flags.ctor b.flags.is_static _ b.flags.delayed flags ctor) in
    omega (arith, low, one, z)

module _ (c : CoreTree) (f : Frame) (s : List Object) (ds : List Due) where
  -- ---- an assignment. In a constructor its `this` isn't assigned.

  pub assigned_frame : (p : Place) (x : ℕ) (e : ExprTree) (v : Value) → f.left ≡ Statement (AssignStmt p x e) ∷ ds → IsSoundFrame c f s → (f.body.flags.ctor && is_this_object e) ≡ false → value_of e (scene c f s) ≡ Ok v →
      IsSoundFrame c (with_local (Some x) v (record f { left = ds })) s
  assigned_frame p x e v at is apart ev =
      let b = f.body in
      let good = frame_setting c f s is in
      let stmt = AssignStmt p x e in
      let typed = and_parts (is_typed c b stmt) _ (subst (λ l. all_left (is_typed c b) (is_condition c.classes b in_code) l ≡ true) at is.typed) in
      let target = and_parts (targets_only (is_variable b) stmt) _ (subst (λ l. all_left (targets_only (is_variable b)) (λ d. true) l ≡ true) at is.targets) in
      let fits = declared_some c.classes (code_type c.classes b e) (slice_get (local_types b) x) typed.0 in
      let v_typed = value_fits (scene c f s) b b.flags.ctor good e fits.0 v fits.2 ev in
      let v_ready = one_ready (scene c f s) b b.flags.ctor good e fits.0 v fits.2 apart ev in
      let assigned = known_simple assigned_flow (assigned_check b) (AreAssigned b) stmt ds (scene c f s) refl (subst (λ l. IsKnown assigned_flow (assigned_check b) (AreAssigned b) l (scene c f s)) at is.assigned) in
      let known = known_simple (known_flow c b) (null_check c b) (IsTrueOf b.flags.ctor) stmt ds (scene c f s) refl (subst (λ l. IsKnown (known_flow c b) (null_check c b) (IsTrueOf b.flags.ctor) l (scene c f s)) at is.known) in
      let reads_ = and_parts (reads_assigned b assigned.known e) true (and_parts (list_all (reads_assigned b assigned.known) (e ∷ [])) true assigned.checked).0 in
      let a = fitting_some c.classes (code_type c.classes b e) fits.0 fits.2 in
      let e_typed = code_typed c.classes b e a.0 a.1 in
      let not_null : is_never_null (site_of c b) known.known false e ≡ true → IsNotNull v = λ h.
      never_null b assigned.known known.known e (scene c f s) good is.was_ready assigned.so known.so false refl reads_.0 a.0 e_typed h v ev in
      let stands : may_stand c b known.known e fits.0 ≡ true = subst (λ o. may_stand_at c b known.known e o ≡ true) fits.1 known.checked in
      let wanted : is_non_null_type (slice_get (local_types b) x) ≡ true → IsNotNull v = λ h. ⊎_elim
      (λ no_need. absurd (false≢true (sym (not_true (is_non_null fits.0) no_need) ∙ (sym (ap is_non_null_type fits.1) ∙ h))))
      not_null
      (or_cases (not (is_non_null fits.0)) (is_never_null (site_of c b) known.known false e) stands) in
      let count = is.locals.count in
      let there = slice_get_within (local_types b) x fits.0 fits.1 in
      let within : x < length f.locals = omega (arith, count, there) in
      record {
        chain = is.chain;
        beside = is.beside;
        flags = is.flags;
        store = is.store;
        entry = is.entry;
        older = is.older;
        was_ready = is.was_ready;
        locals = put_locals c.classes s b f.locals x fits.0 v is.locals fits.1 v_typed v_ready;
        typed = typed.1;
        targets = target.1;
        assigned = assigned.goes_on (with_value (scene c f s) x v) (put_assigned (scene c f s) x v within b assigned.known assigned.so wanted);
        known = known.goes_on (with_value (scene c f s) x v)
            (put_true (scene c f s) x v within b.flags.ctor (is_never_null (site_of c b) known.known false e) (learned known.known e) known.known known.so (no_this b x is.flags target.0) not_null
            (λ u vu. learned_true (scene c f s) (local_types b) b.flags.ctor good known.known known.so e u
            (e_typed ∙ ap (λ t. Some t) (bool_typed c.classes s a.0 v u (value_sound e (scene c f s) (local_types b) b.flags.ctor good a.0 v e_typed ev) vu))
            (v, ev, ap as_bool vu)));
      }

-- the literal `true` is true
pub literal_value : (e : ExprTree) (x : Setting) (v : Value) → is_literal_true e ≡ true → value_of e x ≡ Ok v → as_bool v ≡ true
literal_value (BoolExpr p b) x v h e = ap as_bool (sym (ok_same (value.Bool b) v e)) ∙ h
literal_value (IntExpr p n) x v h e = absurd (false≢true h)
literal_value (NullExpr p) x v h e = absurd (false≢true h)
literal_value (LocalExpr p x) y v h e = absurd (false≢true h)
literal_value (FieldExpr p a g) x v h e = absurd (false≢true h)
literal_value (ElementExpr p a i) x v h e = absurd (false≢true h)
literal_value (LengthExpr p a) x v h e = absurd (false≢true h)
literal_value (NegateExpr p a) x v h e = absurd (false≢true h)
literal_value (NotExpr p a) x v h e = absurd (false≢true h)
literal_value (BinaryExpr p o a b) x v h e = absurd (false≢true h)
literal_value (ImpliesExpr p a b) x v h e = absurd (false≢true h)
literal_value (IffExpr p a b) x v h e = absurd (false≢true h)
literal_value (IsExpr p a t) x v h e = absurd (false≢true h)
literal_value (AsExpr p a t) x v h e = absurd (false≢true h)
literal_value (CastExpr p t n a) x v h e = absurd (false≢true h)
literal_value (OldExpr p a) x v h e = absurd (false≢true h)
literal_value (QuantifiedExpr p q name low high a) x v h e = absurd (false≢true h)
literal_value (StateExpr p w a) x v h e = absurd (false≢true h)
literal_value (OwnersExpr p w a b) x v h e = absurd (false≢true h)
literal_value (DefaultExpr p d) x v h e = absurd (false≢true h)

-- ---- code that is gone into

pub left_dues : (passes : StmtTree → Bool) (on : ExprTree → Bool) (code : CodeTree) (ds : List Due) → each passes code ≡ true → all_left passes on ds ≡ true → all_left passes on (dues code ++ ds) ≡ true
left_dues passes on NoCode ds h rest = rest
left_dues passes on (Then s code) ds h rest =
    let p = and_parts (each_inside passes s) (each passes code) h in
    and_from (each_inside passes s) (all_left passes on (dues code ++ ds)) p.0 (left_dues passes on code ds p.1 rest)

pub either_code : (passes : StmtTree → Bool) (a b : CodeTree) (v : Bool) → each passes a ≡ true → each passes b ≡ true → each passes (if v then a else b) ≡ true
either_code passes a b true h k = h
either_code passes a b false h k = k

module _ (c : CoreTree) (f : Frame) (s : List Object) (is : IsSoundFrame c f s) where
  -- the frame with other pieces left
  with_left : (ds : List Due) → all_left (is_typed c f.body) (is_condition c.classes f.body in_code) ds ≡ true → all_left (targets_only (is_variable f.body)) (λ e. true) ds ≡ true →
      IsKnown assigned_flow (assigned_check f.body) (AreAssigned f.body) ds (scene c f s) → IsKnown (known_flow c f.body) (null_check c f.body) (IsTrueOf f.body.flags.ctor) ds (scene c f s) → IsSoundFrame c (record f { left = ds }) s
  with_left ds typed targets assigned known = record {
    chain = is.chain;
    beside = is.beside;
    flags = is.flags;
    store = is.store;
    entry = is.entry;
    older = is.older;
    was_ready = is.was_ready;
    locals = is.locals;
    typed = typed;
    targets = targets;
    assigned = assigned;
    known = known;
  }

  condition_typed : (e : ExprTree) → is_condition c.classes f.body in_code e ≡ true → type_of c.classes (local_types f.body) e ≡ Some ty.Bool
  condition_typed e h = code_typed c.classes f.body e ty.Bool (bool_type_is (code_type c.classes f.body e) h)

  -- ---- an `if`

  pub forked_frame : (p : Place) (e : ExprTree) (a b : CodeTree) (ds : List Due) (v : Value) → f.left ≡ Statement (IfStmt p e a b) ∷ ds → value_of e (scene c f s) ≡ Ok v → IsSoundFrame c (go_into (dues (if as_bool v then a else b)) (record f { left = ds })) s
  forked_frame p e a b ds v at ev =
      let body = f.body in
      let stmt = IfStmt p e a b in
      let good = frame_setting c f s is in
      let t = and_parts (each_inside (is_typed c body) stmt) _ (subst (λ l. all_left (is_typed c body) (is_condition c.classes body in_code) l ≡ true) at is.typed) in
      let t2 = and_parts (is_typed c body stmt && each (is_typed c body) a) (each (is_typed c body) b) t.0 in
      let t3 = and_parts (is_typed c body stmt) (each (is_typed c body) a) t2.0 in
      let g = and_parts (each_inside (targets_only (is_variable body)) stmt) _ (subst (λ l. all_left (targets_only (is_variable body)) (λ d. true) l ≡ true) at is.targets) in
      let g2 = and_parts (each (targets_only (is_variable body)) a) (each (targets_only (is_variable body)) b) g.0 in
      let assigned = known_fork assigned_flow (assigned_check body) (AreAssigned body) (assigned_sound body (assigned_check body)) p e a b ds (scene c f s) (subst (λ l. IsKnown assigned_flow (assigned_check body) (AreAssigned body) l (scene c f s)) at is.assigned) in
      let known = known_fork (known_flow c body) (null_check c body) (IsTrueOf body.flags.ctor) (known_sound c body (null_check c body) body.flags.ctor) p e a b ds (scene c f s)
      (subst (λ l. IsKnown (known_flow c body) (null_check c body) (IsTrueOf body.flags.ctor) l (scene c f s)) at is.known) in
      with_left (dues (if as_bool v then a else b) ++ ds)
      (left_dues (is_typed c body) (is_condition c.classes body in_code) (if as_bool v then a else b) ds (either_code (is_typed c body) a b (as_bool v) t3.1 t2.1) t.1)
      (left_dues (targets_only (is_variable body)) (λ d. true) (if as_bool v then a else b) ds (either_code (targets_only (is_variable body)) a b (as_bool v) g2.0 g2.1) g.1)
      (assigned.goes_on (as_bool v) (scene c f s) assigned.so)
      (known.goes_on (as_bool v) (scene c f s) (tested_true (scene c f s) (local_types body) body.flags.ctor good known.known known.so e (as_bool v) (condition_typed e t3.0) (v, ev, refl)))

  -- ---- the head of a loop

  pub looping_frame : (l : Loop) (ds : List Due) → f.left ≡ Statement (stmt_of l) ∷ ds → IsSoundFrame c (go_into (dues l.prelude ++ Test l.test l.body (stmt_of l) ∷ []) (record f { left = ds })) s
  looping_frame l ds at =
      let body = f.body in
      let stmt = stmt_of l in
      let t = and_parts (each_inside (is_typed c body) stmt) _ (subst (λ z. all_left (is_typed c body) (is_condition c.classes body in_code) z ≡ true) at is.typed) in
      let t2 = and_parts (is_typed c body stmt && each (is_typed c body) l.prelude) (each (is_typed c body) l.body) t.0 in
      let t3 = and_parts (is_typed c body stmt) (each (is_typed c body) l.prelude) t2.0 in
      let t4 = and_parts _ (is_condition c.classes body in_code l.test) t3.0 in
      let g = and_parts (each_inside (targets_only (is_variable body)) stmt) _ (subst (λ z. all_left (targets_only (is_variable body)) (λ d. true) z ≡ true) at is.targets) in
      let g2 = and_parts (each (targets_only (is_variable body)) l.prelude) (each (targets_only (is_variable body)) l.body) g.0 in
      let assigned = known_head assigned_flow (assigned_check body) (AreAssigned body) (assigned_sound body (assigned_check body)) l ds (scene c f s) (subst (λ z. IsKnown assigned_flow (assigned_check body) (AreAssigned body) z (scene c f s)) at is.assigned) in
      let known = known_head (known_flow c body) (null_check c body) (IsTrueOf body.flags.ctor) (known_sound c body (null_check c body) body.flags.ctor) l ds (scene c f s)
      (subst (λ z. IsKnown (known_flow c body) (null_check c body) (IsTrueOf body.flags.ctor) z (scene c f s)) at is.known) in
      let here = Test l.test l.body stmt in
      subst (λ z. IsSoundFrame c (record f { left = z }) s) (sym (append_assoc (dues l.prelude) (here ∷ []) ds))
      (with_left (dues l.prelude ++ here ∷ ds)
      (left_dues (is_typed c body) (is_condition c.classes body in_code) l.prelude (here ∷ ds) t3.1
      (and_from (is_condition c.classes body in_code l.test && each (is_typed c body) l.body && each_inside (is_typed c body) stmt) _
      (and_from (is_condition c.classes body in_code l.test && each (is_typed c body) l.body) (each_inside (is_typed c body) stmt) (and_from (is_condition c.classes body in_code l.test) (each (is_typed c body) l.body) t4.1 t2.1) t.0) t.1))
      (left_dues (targets_only (is_variable body)) (λ d. true) l.prelude (here ∷ ds) g2.0
      (and_from (each (targets_only (is_variable body)) l.body && each_inside (targets_only (is_variable body)) stmt) _ (and_from (each (targets_only (is_variable body)) l.body) (each_inside (targets_only (is_variable body)) stmt) g2.1 g.0) g.1))
      assigned.goes_on
      known.goes_on)

  -- ---- the test of a loop

  tested_to : (e : ExprTree) (code : CodeTree) (st : StmtTree) (ds : List Due) (v : Value) → f.left ≡ Test e code st ∷ ds → value_of e (scene c f s) ≡ Ok v → (w : Bool) → as_bool v ≡ w →
      IsSoundFrame c (if w then go_into (dues code ++ Statement st ∷ []) (record f { left = ds }) else record f { left = ds }) s
  tested_to e code st ds v at ev w is_w =
      let body = f.body in
      let good = frame_setting c f s is in
      let t = and_parts (is_condition c.classes body in_code e && each (is_typed c body) code && each_inside (is_typed c body) st) _ (subst (λ z. all_left (is_typed c body) (is_condition c.classes body in_code) z ≡ true) at is.typed) in
      let t2 = and_parts (is_condition c.classes body in_code e && each (is_typed c body) code) (each_inside (is_typed c body) st) t.0 in
      let t3 = and_parts (is_condition c.classes body in_code e) (each (is_typed c body) code) t2.0 in
      let g = and_parts (each (targets_only (is_variable body)) code && each_inside (targets_only (is_variable body)) st) _ (subst (λ z. all_left (targets_only (is_variable body)) (λ d. true) z ≡ true) at is.targets) in
      let g2 = and_parts (each (targets_only (is_variable body)) code) (each_inside (targets_only (is_variable body)) st) g.0 in
      let assigned = known_test assigned_flow (assigned_check body) (AreAssigned body) e code st ds (scene c f s) (subst (λ z. IsKnown assigned_flow (assigned_check body) (AreAssigned body) z (scene c f s)) at is.assigned) in
      let known = known_test (known_flow c body) (null_check c body) (IsTrueOf body.flags.ctor) e code st ds (scene c f s) (subst (λ z. IsKnown (known_flow c body) (null_check c body) (IsTrueOf body.flags.ctor) z (scene c f s)) at is.known) in
      let told = tested_true (scene c f s) (local_types body) body.flags.ctor good known.known known.so e w (condition_typed e t3.0) (v, ev, is_w) in
      side w is_w assigned known told t g t2 t3 g2
    where
      side : (w : Bool) → as_bool v ≡ w →
          (assigned : IsTested assigned_flow (assigned_check f.body) (AreAssigned f.body) e code st ds (scene c f s)) (known : IsTested (known_flow c f.body) (null_check c f.body) (IsTrueOf f.body.flags.ctor) e code st ds (scene c f s)) →
          IsTrueOf f.body.flags.ctor (known_tested e w known.known) (scene c f s) →
          ((is_condition c.classes f.body in_code e && each (is_typed c f.body) code && each_inside (is_typed c f.body) st) ≡ true) × (all_left (is_typed c f.body) (is_condition c.classes f.body in_code) ds ≡ true) →
          ((each (targets_only (is_variable f.body)) code && each_inside (targets_only (is_variable f.body)) st) ≡ true) × (all_left (targets_only (is_variable f.body)) (λ d. true) ds ≡ true) →
          ((is_condition c.classes f.body in_code e && each (is_typed c f.body) code) ≡ true) × (each_inside (is_typed c f.body) st ≡ true) →
          (is_condition c.classes f.body in_code e ≡ true) × (each (is_typed c f.body) code ≡ true) →
          (each (targets_only (is_variable f.body)) code ≡ true) × (each_inside (targets_only (is_variable f.body)) st ≡ true) →
          IsSoundFrame c (if w then go_into (dues code ++ Statement st ∷ []) (record f { left = ds }) else record f { left = ds }) s
      side true is_w assigned known told t g t2 t3 g2 =
          subst (λ z. IsSoundFrame c (record f { left = z }) s) (sym (append_assoc (dues code) (Statement st ∷ []) ds))
          (with_left (dues code ++ Statement st ∷ ds)
          (left_dues (is_typed c f.body) (is_condition c.classes f.body in_code) code (Statement st ∷ ds) t3.1 (and_from (each_inside (is_typed c f.body) st) _ t2.1 t.1))
          (left_dues (targets_only (is_variable f.body)) (λ d. true) code (Statement st ∷ ds) g2.0 (and_from (each_inside (targets_only (is_variable f.body)) st) _ g2.1 g.1))
          (assigned.into (scene c f s) assigned.so)
          (known.into (scene c f s) told))
      side false is_w assigned known told t g t2 t3 g2 =
          let unending = ⊎_elim (λ literal. absurd (true≢false (sym (literal_value e (scene c f s) v literal ev) ∙ is_w))) (λ no_literal. no_literal) (cases_Bool (is_literal_true e)) in
          with_left ds t.1 g.1 (assigned.out unending (scene c f s) assigned.so) (known.out unending (scene c f s) told)

  pub tested_frame : (e : ExprTree) (code : CodeTree) (st : StmtTree) (ds : List Due) (v : Value) → f.left ≡ Test e code st ∷ ds → value_of e (scene c f s) ≡ Ok v →
      IsSoundFrame c (if as_bool v then go_into (dues code ++ Statement st ∷ []) (record f { left = ds }) else record f { left = ds }) s
  tested_frame e code st ds v at ev = tested_to e code st ds v at ev (as_bool v) refl

-- ---- entry

pub entry_known : (b : BodyTree) (x : Setting) → IsTrueOf b.flags.ctor (known_at_entry b) x
entry_known b x = record {
  facts = λ y h. absurd (false≢true h);
  sides = λ y v e. record { facts = no_facts; there = refl; so = λ z h. absurd (false≢true h) };
  fields = λ ctor g h. absurd (false≢true (sym (ap not ctor) ∙ h));
}

pub dues_left : (passes : StmtTree → Bool) (on : ExprTree → Bool) (code : CodeTree) → each passes code ≡ true → all_left passes on (dues code) ≡ true
dues_left passes on NoCode h = refl
dues_left passes on (Then s code) h = let p = and_parts (each_inside passes s) (each passes code) h in and_from (each_inside passes s) (all_left passes on (dues code)) p.0 (dues_left passes on code p.1)

-- a formed body is entered with a sound frame
pub entered_frame : (c : CoreTree) (b : BodyTree) (locals : List Value) (s : List Object) (into : Target) → IsChain c.classes → NoAlso c.classes → IsFormedBody c b → IsGoodStore c s → AreGoodLocals c.classes s b locals →
    AreAssigned b (is_argument b) (setting c.classes s s locals) → IsSoundFrame c (frame_at_entry b locals s into) s
entered_frame c b locals s into chain beside formed good are arguments = record {
  chain = chain;
  beside = beside;
  flags = formed.flags;
  store = good;
  entry = good;
  older = older_self s;
  was_ready = λ plain o x y ex ey ready. subst (λ (z : Object). z.ready ≡ true) (same_object s o y x ey ex) ready;
  locals = are;
  typed = dues_left (is_typed c b) (is_condition c.classes b in_code) b.code formed.typed;
  targets = dues_left (targets_only (is_variable b)) (λ e. true) b.code formed.targets;
  assigned = known_entered assigned_flow (assigned_check b) (AreAssigned b) b.code (is_argument b) (setting c.classes s s locals) formed.assigned formed.returns arguments;
  known = known_entered (known_flow c b) (null_check c b) (IsTrueOf b.flags.ctor) b.code (known_at_entry b) (setting c.classes s s locals) formed.nulls formed.returns (entry_known b (setting c.classes s s locals));
}
