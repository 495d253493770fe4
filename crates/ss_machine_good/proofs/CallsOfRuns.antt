-- Calls of methods enter good frames, and leave the callers to wait.
use Rattle.std.proofs.Common.{◌≡◌, ℕ, zero, suc, List, [], ◌∷◌, ◌++◌, Bool, true, false, not, ◌==◌, ◌&&◌, Option, Some, None, Ok, refl, sym, ◌∙◌, ap, subst, ⊎_elim}
use Rattle.std.specs.Prelude.{slice_get, if◌then◌else◌, unwrap_or, is_some, option_and_then, option_to_list}
use Rattle.std.specs.List.{list_all, list_any}
use Rattle.std.proofs.lemmas.Bool.{false≢true, true≢false, and_parts, or_cases, or_right, cases_Bool, eqb-true}
use Rattle.ss_core.specs.declared.names.Place.{Place}
use Rattle.ss_core.specs.declared.names.Kind.{Kind}
use Rattle.ss_core.specs.declared.names.Kind.TheVariants as kind
use Rattle.ss_core.specs.declared.names.Ty.{Ty}
use Rattle.ss_core.specs.declared.names.Ty.TheVariants as ty
use Rattle.ss_core.specs.Tree.{ClassTree, EntryTree, ExprTree, CalleeTree, Dispatched, Static, Base, CallStmt, BodyTree, CoreTree}
use Rattle.ss_core.specs.Chain.{is_declared, declared, above, below}
use Rattle.ss_core.proofs.Chains.{below_self, sub-below, below_up, below_trans}
use Rattle.ss_core.proofs.Declared.{is_declared-declared}
use Rattle.ss_store_rules.specs.declared.Value.{Value}
use Rattle.ss_store_rules.specs.declared.Value.TheVariants as value
use Rattle.ss_store_rules.specs.Store.{Object}
use Rattle.ss_store_rules.specs.Reads.{object_at}
use Rattle.ss_store_rules.specs.Values.{setting, value_of}
use Rattle.ss_store_rules.specs.Locals.{types_of, argument_types, local_types, receiver}
use Rattle.ss_store_rules.specs.Types.{code_type}
use Rattle.ss_store_rules.specs.Typed.{is_instance_method, body_at, table, table_of, method_at, stands_in_table, callee_of, is_receiver, have_types_in, fits_kept, is_call_of}
use Rattle.ss_store_rules.specs.Tables.{is_method, AreTables}
use Rattle.ss_store_rules.specs.Good.{is_non_null}
use Rattle.ss_store_rules.specs.Assigned.{reads_assigned}
use Rattle.ss_store_rules.specs.NonNull.{Known, with_kept, known_after, is_this_object, is_non_null_type, result_of, may_enter, may_keep, arguments_may_stand}
use Rattle.ss_store_rules.specs.Formed.{IsFormed, IsFormedBody}
use Rattle.ss_store_rules.proofs.Arrays.{declared_not_object}
use Rattle.ss_store_rules.proofs.Owners.{not_true}
use Rattle.ss_machine_rules.specs.Frame.{this_of}
use Rattle.ss_machine_rules.specs.States.{Due, Statement, Target, ToCall, Frame, Next, Goes, locals_at_entry, frame_at_entry, scene}
use Rattle.ss_machine_rules.specs.Steps as steps
use Rattle.ss_machine_rules.specs.Steps.{values_of}
use Rattle.ss_machine_typed.specs.Settings.{AreGoodArguments}
use Rattle.ss_machine_typed.proofs.Older.{older_self}
use Rattle.ss_machine_typed.proofs.Slots.{all_at}
use Rattle.ss_machine_typed.proofs.Sound.{class_of_type, object_typed, value_sound}
use Rattle.ss_machine_typed.proofs.Ready.{value_ready}
use Rattle.ss_machine_good.specs.Known.{IsNotNull, IsTrueOf}
use Rattle.ss_machine_good.proofs.Dispatch.{dispatch_finds}
use Rattle.ss_machine_good.proofs.Steps.{code_typed}
use Rattle.ss_machine_good.proofs.Calls as calls
use Rattle.ss_machine_good.proofs.Calls.{one_ready}
use Rattle.ss_machine_good.proofs.Frames.{frame_setting}
use Rattle.ss_machine_good.proofs.Start.{static_arguments}
use Rattle.ss_machine_good.specs.Checks.{makes_ready}
use Rattle.ss_machine_good.proofs.Bases.{where_some}
use Rattle.ss_machine_good.specs.Later.{IsLater}
use Rattle.ss_machine_good.specs.LaterFrames.{IsGoodFrame, constructed, IsWaiting, AreWaiting, IsNewTo, AreNew}
use Rattle.ss_machine_good.proofs.Later.{later_self}
use Rattle.ss_machine_good.proofs.Behind.{constructor_instance, ready_as_before}
use Rattle.ss_machine_good.proofs.Values.{before_assigned, before_known, may_pass, base_setting, reads_evaluated, arguments_not_null}
use Rattle.ss_machine_good.proofs.Statements.{typed_here, kept_known}
use Rattle.ss_machine_good.specs.Stacks.{IsGoodStack, GoesGood}
use Rattle.ss_machine_good.proofs.Entering.{first_get, AreNotNullArguments, entered_good}
use Rattle.ss_machine_good.proofs.Waiting.{all_waiting, same_waiting, waits}

-- ---- what is new to frames

pub new_to_none : (v : Value) (fs : List Frame) → v ≡ value.Null → IsNewTo v fs
new_to_none v [] null = tt
new_to_none v (f ∷ fs) null = (λ o e. absurd (let both : value.Null ≡ value.Obj o = sym null ∙ e in let no_one : ⊥ = cc in no_one), new_to_none v fs null)

pub constructs_none : (f : Frame) → f.body.flags.ctor ≡ false → constructed f ≡ value.Null
constructs_none f plain = ap (λ k. if k then this_of f.locals else value.Null) plain

pub constructs_this : (f : Frame) → f.body.flags.ctor ≡ true → constructed f ≡ this_of f.locals
constructs_this f ctor = ap (λ k. if k then this_of f.locals else value.Null) ctor

-- ---- entering

pub holds_then : (c : CoreTree) (b : Bool) (k : Kind) (at : Place) (n : Next) → GoesGood c n → GoesGood c (steps.where_holds b k at n)
holds_then c true k at n h = h
holds_then c false k at n h = tt

pub enter_good : (c : CoreTree) (o : Option BodyTree) (b : BodyTree) (at : Place) (into : Target) (vs : List Value) (f : Frame) (fs : List Frame) (s : List Object) → o ≡ Some b → IsGoodStack c (frame_at_entry b (locals_at_entry b vs) s into ∷ f ∷ fs) s → GoesGood c (steps.enter c o at into vs f fs s)
enter_good c o b at into vs f fs s is stack =
    subst (λ z. GoesGood c (steps.enter c z at into vs f fs s)) (sym is)
    (holds_then c (steps.all_hold b.entry (setting c.classes s s (locals_at_entry b vs))) kind.Precondition at (Goes (frame_at_entry b (locals_at_entry b vs) s into ∷ f ∷ fs) s []) stack)

-- a frame on those that wait
pub stacked : (c : CoreTree) (f : Frame) (ds : List Due) (fs : List Frame) (s s1 : List Object) → AreWaiting c s f fs → AreNew (f ∷ fs) → ((n : ℕ) → IsLater c.classes n s s1) → (g : Frame) → IsGoodFrame c g s1 → IsWaiting c s1 g.body g.into (constructed g) (record f { left = ds }) →
    IsNewTo (constructed g) (record f { left = ds } ∷ fs) → IsGoodStack c (g ∷ record f { left = ds } ∷ fs) s1
stacked c f ds fs s s1 waiting new later g good wait apart =
    (good, (wait, all_waiting c s s1 later (record f { left = ds }) fs (same_waiting c s f (record f { left = ds }) fs refl refl refl waiting)), (apart, new))

-- ---- bodies that are called

pub instance_types : (b : BodyTree) → b.flags.is_static ≡ false → argument_types b ≡ ty.Ref (record { 0 = b.class }) true ∷ types_of b.params
instance_types b h = rw h refl

-- with a `this` before them
pub with_this : (b : BodyTree) (vs : List Value) (o : ℕ) → b.flags.is_static ≡ false → ((i : ℕ) (t : Ty) (v : Value) → slice_get (types_of b.params) i ≡ Some t → slice_get vs i ≡ Some v → is_non_null t ≡ true → IsNotNull v) → AreNotNullArguments b (value.Obj o ∷ vs)
with_this b vs o instance_ rest i t v et ev nn = here i (subst (λ ts. slice_get ts i ≡ Some t) (instance_types b instance_) et) ev
  where
    here : (i : ℕ) → slice_get (ty.Ref (record { 0 = b.class }) true ∷ types_of b.params) i ≡ Some t → slice_get (value.Obj o ∷ vs) i ≡ Some v → IsNotNull v
    here zero e1 e2 = let same : value.Obj o ≡ v = cc in subst IsNotNull same (λ null. cc)
    here (suc i) e1 e2 = rest i t v e1 e2 nn

all_after : (P : ExprTree → Bool) (xs ys : List ExprTree) → list_all P (xs ++ ys) ≡ true → list_all P ys ≡ true
all_after P [] ys h = h
all_after P (x ∷ xs) ys h = all_after P xs ys (and_parts (P x) (list_all P (xs ++ ys)) h).1

pub call_parts : (c : CoreTree) (b : BodyTree) (x : Option ℕ) (es : List ExprTree) (o : Option BodyTree) → is_call_of c.classes b x es o ≡ true → (k : BodyTree) × (o ≡ Some k) × (have_types_in c.classes b es (types_of k.params) ≡ true) × (fits_kept c.classes b x k.result ≡ true)
call_parts c b x es None h = absurd (false≢true h)
call_parts c b x es (Some k) h = let p = and_parts (have_types_in c.classes b es (types_of k.params)) (fits_kept c.classes b x k.result) h in (k, refl, p.0, p.1)

-- What is known of a call: the body that its text names, and its arguments.
pub record IsCalled (c : CoreTree) (f : Frame) (s : List Object) (x : Option ℕ) (callee : CalleeTree) (es : List ExprTree) : Type 0 where
  pub body : BodyTree
  pub is_callee : callee_of c f.body callee ≡ Some body
  pub receiver : is_receiver c.classes f.body callee ≡ true
  pub types : have_types_in c.classes f.body es (types_of body.params) ≡ true
  pub fits : fits_kept c.classes f.body x body.result ≡ true
  pub keeps : (y : ℕ) → x ≡ Some y → is_non_null_type (slice_get (local_types f.body) y) ≡ true → is_non_null_type body.result ≡ true
  pub not_null : (vs : List Value) → values_of es (scene c f s) ≡ Ok vs → (i : ℕ) (t : Ty) (v : Value) → slice_get (types_of body.params) i ≡ Some t → slice_get vs i ≡ Some v → is_non_null t ≡ true → IsNotNull v

module _ (c : CoreTree) (f : Frame) (s : List Object) (p : Place) (x : Option ℕ) (callee : CalleeTree) (es : List ExprTree) (ds : List Due) (at : f.left ≡ Statement (CallStmt p x callee es) ∷ ds) (is : IsGoodFrame c f s) where
  pub called : IsCalled c f s x callee es
  called =
      let b = f.body in
      let st = CallStmt p x callee es in
      let t = and_parts (is_receiver c.classes b callee) (is_call_of c.classes b x es (callee_of c b callee)) (typed_here c f s st ds refl at is) in
      let k = call_parts c b x es (callee_of c b callee) t.1 in
      let before = before_known c f s st ds refl at is in
      let checked = and_parts (may_enter c b before.known es (callee_of c b callee)) (may_keep b x (result_of (callee_of c b callee))) before.checked in
      let stands : arguments_may_stand c b before.known es (types_of k.0.params) ≡ true = subst (λ o. may_enter c b before.known es o ≡ true) k.1 checked.0 in
      let keeps_ : may_keep b x k.0.result ≡ true = subst (λ o. may_keep b x (result_of o) ≡ true) k.1 checked.1 in
      let reads_ = all_after (reads_assigned b (before_assigned c f s st ds refl at is).known) (receiver callee) es (reads_evaluated c f s st ds refl at is) in
      record {
        body = k.0;
        is_callee = k.1;
        receiver = t.0;
        types = k.2;
        fits = k.3;
        keeps = λ y e nn. ⊎_elim
            (λ other. absurd (true≢false (sym nn ∙ not_true (is_non_null_type (slice_get (local_types b) y)) other)))
            (λ result. result)
            (or_cases (not (is_non_null_type (slice_get (local_types b) y))) (is_non_null_type k.0.result) (subst (λ w. may_keep b w k.0.result ≡ true) e keeps_));
        not_null = λ vs h i u v eu ev nn. arguments_not_null c f s st ds refl at is es (types_of k.0.params) vs reads_ k.2 stands h i u v eu ev nn;
      }

  -- the caller waits for the result of a method
  pub method_waits : (b : BodyTree) (this : Value) → b.result ≡ called.body.result → ((k : Known) → known_after c f.body (CallStmt p x callee es) k ≡ with_kept x (is_non_null_type (result_of (callee_of c f.body callee))) k) → makes_ready c (CallStmt p x callee es) ≡ false →
      IsWaiting c s b (ToCall x) this (record f { left = ds })
  method_waits b this same after nothing =
      let st = CallStmt p x callee es in
      let result : is_non_null_type (result_of (callee_of c f.body callee)) ≡ is_non_null_type b.result = ap (λ o. is_non_null_type (result_of o)) called.is_callee ∙ ap is_non_null_type (sym same) in
      waits c f s st ds refl at is s b (ToCall x) this (λ n. later_self c.classes n s) (λ y. refl) (subst (λ r. fits_kept c.classes f.body x r ≡ true) (sym same) called.fits)
      (λ y e nn. ap is_non_null_type same ∙ called.keeps y e nn)
      (λ z v later answer may k so. subst (λ j. IsTrueOf f.body.flags.ctor j (scene c (steps.with_local x v (record f { left = ds })) z)) (sym (after k))
      (kept_known c f s st ds refl at is z x v may (is_non_null_type (result_of (callee_of c f.body callee))) (λ h. answer.non_null (sym result ∙ h)) k so))
      (λ z v later answer may. ready_as_before c f s st ds refl at is z x v may nothing)

-- the object of `this`
pub this_there : (f : Frame) (o : ℕ) → this_of f.locals ≡ value.Obj o → slice_get f.locals 0 ≡ Some (value.Obj o)
this_there f o e = here (slice_get f.locals 0) e
  where
    here : (q : Option Value) → unwrap_or q value.Null ≡ value.Obj o → q ≡ Some (value.Obj o)
    here None h = absurd (let no_one : ⊥ = cc in no_one)
    here (Some v) h = ap (λ z. Some z) h

pub this_object : (c : CoreTree) (f : Frame) (s : List Object) → IsGoodFrame c f s → f.body.flags.is_static ≡ false → (o : ℕ) → this_of f.locals ≡ value.Obj o → (y : Object) × (slice_get s o ≡ Some y) × (below c.classes y.class f.body.class ≡ true)
this_object c f s is instance_ o e =
    let first : slice_get (local_types f.body) 0 ≡ Some (ty.Ref (record { 0 = f.body.class }) true) =
    first_get (argument_types f.body ++ types_of f.body.locals) (option_to_list f.body.result) 0 _ (first_get (argument_types f.body) (types_of f.body.locals) 0 _ (ap (λ ts. slice_get ts 0) (instance_types f.body instance_))) in
    let typed = is.sound.locals.types 0 (ty.Ref (record { 0 = f.body.class }) true) (value.Obj o) first (this_there f o e) in
    let y = object_typed c.classes s f.body.class true o typed in
    (y.0, y.1, sym (sub-below c.classes is.sound.beside y.0.class f.body.class) ∙ y.2)

pub all_plain : (es : List ExprTree) → list_all (λ e. not (false && is_this_object e)) es ≡ true
all_plain [] = refl
all_plain (e ∷ es) = all_plain es

pub method_number : (c : CoreTree) (d m : ℕ) (b : BodyTree) → method_at c d m ≡ Some b → (n : ℕ) × (body_at c n ≡ Some b)
method_number c d m b h = here (slice_get (table c.classes d) m) h
  where
    here : (o : Option EntryTree) → option_and_then (λ (z : EntryTree). body_at c z.body) o ≡ Some b → (n : ℕ) × (body_at c n ≡ Some b)
    here None g = absurd (let no_one : ⊥ = cc in no_one)
    here (Some z) g = (z.body, g)

-- a body of the table of a class is of that class or of one above it
pub table_class : (c : CoreTree) → AreTables c → (t n : ℕ) (b : BodyTree) → body_at c n ≡ Some b → stands_in_table c t n ≡ true → below c.classes t b.class ≡ true
table_class c tables t n b at h = ⊎_elim
    (λ declares.
    let e = any_there (λ (z : EntryTree). z.body == n) (table c.classes t) h in
    let is = all_at (λ (z : EntryTree). is_method c.classes t z (body_at c z.body)) (table c.classes t) e.0 e.1 (tables t declares).methods e.2 in
    let there : body_at c e.1.body ≡ Some b = subst (λ k. body_at c k ≡ Some b) (sym (eqb-true e.1.body n e.3)) at in
    method_class e.1 (subst (λ o. is_method c.classes t e.1 o ≡ true) there is))
    (λ other. absurd (false≢true (undeclared (declared c.classes t) (sym (is_declared-declared c.classes t) ∙ other) h)))
    (cases_Bool (is_declared c.classes t))
  where
    any_there : {X : Type 0} (P : X → Bool) (xs : List X) → list_any P xs ≡ true → (i : ℕ) × (x : X) × (slice_get xs i ≡ Some x) × (P x ≡ true)
    any_there P [] g = absurd (false≢true g)
    any_there P (x ∷ xs) g = ⊎_elim (λ here. (0, x, refl, here)) (λ more. let r = any_there P xs more in (suc r.0, r.1, r.2, r.3)) (or_cases (P x) (list_any P xs) g)

    method_class : (e : EntryTree) → is_method c.classes t e (Some b) ≡ true → below c.classes t b.class ≡ true
    method_class e g = (and_parts _ (below c.classes t b.class) g).1

    undeclared : (o : Option ClassTree) → is_some o ≡ false → list_any (λ (z : EntryTree). z.body == n) (table_of o) ≡ true → false ≡ true
    undeclared None nothing g = g
    undeclared (Some k) nothing g = absurd (true≢false nothing)

module _ (c : CoreTree) (formed : IsFormed c) (f : Frame) (s : List Object) (ds : List Due) (fs : List Frame) (is : IsGoodFrame c f s) (waiting : AreWaiting c s f fs) (new : AreNew (f ∷ fs)) where
  -- a body that is no constructor is entered
  method_stack : (b : BodyTree) → IsFormedBody c b → b.flags.ctor ≡ false → (x : Option ℕ) (vs : List Value) → AreGoodArguments c.classes s b vs → AreNotNullArguments b vs → (b.flags.is_static ≡ false → (o : ℕ) × (this_of (locals_at_entry b vs) ≡ value.Obj o)) →
      ((this : Value) → IsWaiting c s b (ToCall x) this (record f { left = ds })) → IsGoodStack c (frame_at_entry b (locals_at_entry b vs) s (ToCall x) ∷ record f { left = ds } ∷ fs) s
  method_stack b fb plain x vs arguments not_null instance_ wait =
      let g = frame_at_entry b (locals_at_entry b vs) s (ToCall x) in
      stacked c f ds fs s s waiting new (λ n. later_self c.classes n s) g
      (entered_good c formed b fb vs s (ToCall x) is.sound.store arguments not_null (λ ctor. absurd (true≢false (sym ctor ∙ plain))) instance_ (λ n. absurd n))
      (wait (constructed g)) (new_to_none (constructed g) (record f { left = ds } ∷ fs) (constructs_none g plain))

  -- ---- a static method

  pub static_stack : (p : Place) (x : Option ℕ) (n : ℕ) (es : List ExprTree) (vs : List Value) → f.left ≡ Statement (CallStmt p x (Static n) es) ∷ ds → values_of es (scene c f s) ≡ Ok vs → GoesGood c (steps.enter c (body_at c n) p (ToCall x) vs (record f { left = ds }) fs s)
  static_stack p x n es vs at h =
      let st = CallStmt p x (Static n) es in
      let k = called c f s p x (Static n) es ds at is in
      let b = k.body in
      let w = where_some (λ (z : BodyTree). z.flags.is_static) (body_at c n) b k.is_callee in
      let fb = formed.bodies n b w.0 in
      let plain = ⊎_elim (λ ctor. absurd (true≢false (sym w.1 ∙ constructor_instance b fb.flags ctor))) (λ other. other) (cases_Bool b.flags.ctor) in
      let pass = may_pass c f s st ds refl at is in
      let arguments = calls.static_arguments (scene c f s) f.body pass.constructs pass.setting b w.1 es vs k.types pass.apart h in
      enter_good c (body_at c n) b p (ToCall x) vs (record f { left = ds }) fs s w.0
      (method_stack b fb plain x vs arguments (λ i t v et ev nn. k.not_null vs h i t v (subst (λ ts. slice_get ts i ≡ Some t) (static_arguments b w.1) et) ev nn) (λ instance_. absurd (true≢false (sym w.1 ∙ instance_)))
      (λ this. method_waits c f s p x (Static n) es ds at is b this refl (λ j. refl) refl))

  -- ---- a dispatched one

  pub dispatched_stack : (p : Place) (x : Option ℕ) (e : ExprTree) (t m : ℕ) (es : List ExprTree) (o : ℕ) (vs : List Value) → f.left ≡ Statement (CallStmt p x (Dispatched e t m) es) ∷ ds → value_of e (scene c f s) ≡ Ok (value.Obj o) → values_of es (scene c f s) ≡ Ok vs →
      GoesGood c (steps.enter c (method_at c (object_at s o).class m) p (ToCall x) (value.Obj o ∷ vs) (record f { left = ds }) fs s)
  dispatched_stack p x e t m es o vs at eo h =
      let st = CallStmt p x (Dispatched e t m) es in
      let k = called c f s p x (Dispatched e t m) es ds at is in
      let w = where_some is_instance_method (method_at c t m) k.body k.is_callee in
      let u = class_of_type (λ z. z == t) (code_type c.classes f.body e) k.receiver in
      let e_typed = code_typed c.classes f.body e _ u.2 in
      let o_typed = value_sound e (scene c f s) (local_types f.body) f.body.flags.ctor (frame_setting c f s is.sound) _ (value.Obj o) e_typed eo in
      let y = object_typed c.classes s u.0 u.1 o o_typed in
      let down : below c.classes y.0.class t ≡ true = subst (λ z. below c.classes y.0.class z ≡ true) (eqb-true u.0 t u.3) (sym (sub-below c.classes is.sound.beside y.0.class u.0) ∙ y.2) in
      let found = dispatch_finds c is.sound.chain formed.tables t m k.body w.0 y.0.class down in
      let b = found.to in
      let entry : object_at s o ≡ y.0 = rw (y.1) refl in
      let there : method_at c (object_at s o).class m ≡ Some b = ap (λ (z : Object). method_at c z.class m) entry ∙ found.at in
      let number = method_number c y.0.class m b found.at in
      let fb = formed.bodies number.0 b number.1 in
      let q = and_parts (not k.body.flags.is_static) (not k.body.flags.ctor) w.1 in
      let instance_ : b.flags.is_static ≡ false = found.static ∙ not_true k.body.flags.is_static q.0 in
      let pass = may_pass c f s st ds refl at is in
      let apart = and_parts (not (pass.constructs && is_this_object e)) (list_all (λ z. not (pass.constructs && is_this_object z)) es) pass.apart in
      let y_ready : y.0.ready ≡ true = value_ready e (scene c f s) (local_types f.body) pass.constructs pass.setting _ (value.Obj o) (not_true (pass.constructs && is_this_object e) apart.0) e_typed eo o y.0 refl y.1 in
      let types : have_types_in c.classes f.body es (types_of b.params) ≡ true = subst (λ ts. have_types_in c.classes f.body es ts ≡ true) {x = types_of k.body.params} {y = types_of b.params} (sym found.params) k.types in
      let arguments = calls.instance_arguments (scene c f s) f.body pass.constructs pass.setting b instance_ s (older_self s) o y.0 y.1 found.class (λ plain. y_ready) es vs types apart.1 h in
      enter_good c (method_at c (object_at s o).class m) b p (ToCall x) (value.Obj o ∷ vs) (record f { left = ds }) fs s there
      (method_stack b fb found.plain x (value.Obj o ∷ vs) arguments
      (with_this b vs o instance_ (λ i u2 v eu ev nn. k.not_null vs h i u2 v (subst (λ ts. slice_get ts i ≡ Some u2) {y = types_of k.body.params} found.params eu) ev nn)) (λ z. (o, refl {a = value.Obj o}))
      (λ this. method_waits c f s p x (Dispatched e t m) es ds at is b this found.result (λ j. refl) refl))

  -- ---- a method of the class above

  pub base_stack : (p : Place) (x : Option ℕ) (n : ℕ) (es : List ExprTree) (vs : List Value) → f.left ≡ Statement (CallStmt p x (Base n) es) ∷ ds → values_of es (scene c f s) ≡ Ok vs → GoesGood c (steps.enter c (body_at c n) p (ToCall x) (this_of f.locals ∷ vs) (record f { left = ds }) fs s)
  base_stack p x n es vs at h =
      let st = CallStmt p x (Base n) es in
      let k = called c f s p x (Base n) es ds at is in
      let b = k.body in
      let w = where_some (λ (z : BodyTree). is_instance_method z && not f.body.flags.is_static && stands_in_table c (above c.classes f.body.class) n) (body_at c n) b k.is_callee in
      let w1 = and_parts (is_instance_method b && not f.body.flags.is_static) (stands_in_table c (above c.classes f.body.class) n) w.1 in
      let w2 = and_parts (is_instance_method b) (not f.body.flags.is_static) w1.0 in
      let q = and_parts (not b.flags.is_static) (not b.flags.ctor) w2.0 in
      let fb = formed.bodies n b w.0 in
      let setting_ = base_setting c f s st ds refl at is refl in
      let this = is.instance (not_true f.body.flags.is_static w2.1) in
      let y = this_object c f s is (not_true f.body.flags.is_static w2.1) this.0 this.1 in
      let up = table_class c formed.tables (above c.classes f.body.class) n b w.0 w1.1 in
      let nz = declared_not_object c.classes f.body.class is.formed.class in
      let one_up : below c.classes f.body.class (above c.classes f.body.class) ≡ true = below_up c.classes is.sound.chain f.body.class (above c.classes f.body.class) nz ∙ or_right _ _ (below_self c.classes (above c.classes f.body.class)) in
      let down = below_trans c.classes is.sound.chain y.0.class (above c.classes f.body.class) b.class (below_trans c.classes is.sound.chain y.0.class f.body.class (above c.classes f.body.class) y.2 one_up) up in
      let y_ready : y.0.ready ≡ true = setting_.ready 0 (value.Obj this.0) refl (this_there f this.0 this.1) this.0 y.0 refl y.1 in
      let arguments = calls.instance_arguments (scene c f s) f.body false setting_ b (not_true b.flags.is_static q.0) s (older_self s) this.0 y.0 y.1 down (λ plain. y_ready) es vs k.types (all_plain es) h in
      enter_good c (body_at c n) b p (ToCall x) (this_of f.locals ∷ vs) (record f { left = ds }) fs s w.0
      (subst (λ u. IsGoodStack c (frame_at_entry b (locals_at_entry b (u ∷ vs)) s (ToCall x) ∷ record f { left = ds } ∷ fs) s) (sym this.1)
      (method_stack b fb (not_true b.flags.ctor q.1) x (value.Obj this.0 ∷ vs) arguments (with_this b vs this.0 (not_true b.flags.is_static q.0) (k.not_null vs h)) (λ z. (this.0, refl {a = value.Obj this.0}))
      (λ this_. method_waits c f s p x (Base n) es ds at is b this_ refl (λ j. refl) refl)))
