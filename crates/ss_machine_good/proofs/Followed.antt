-- What is known along the code of a body is so in each of its frames, whatever is checked.
use Rattle.std.proofs.Common.{◌≡◌, ℕ, ◌<◌, ◌≤◌, List, [], ◌∷◌, ◌++◌, length, Bool, true, false, ◌&&◌, ◌||◌, Option, Some, None, Ok, refl, sym, ◌∙◌, ap, subst, arith, ⊎_elim, append_assoc}
use Rattle.std.specs.Prelude.{slice_get, if◌then◌else◌}
use Rattle.std.proofs.lemmas.Bool.{false≢true, true≢false, and_parts, or_cases, cases_Bool, eq-eqb}
use Rattle.std.proofs.lemmas.Option.{slice_get_within}
use Rattle.ss_core.specs.declared.names.Place.{Place}
use Rattle.ss_core.specs.declared.names.Ty.{Ty}
use Rattle.ss_core.specs.declared.names.Ty.TheVariants as ty
use Rattle.ss_core.specs.Tree.{ExprTree, CalleeTree, StmtTree, AssignStmt, CallStmt, IfStmt, CodeTree, BodyTree, CoreTree}
use Rattle.ss_core.specs.Chain.{below}
use Rattle.ss_store_rules.specs.declared.Value.{Value}
use Rattle.ss_store_rules.specs.declared.Value.TheVariants as value
use Rattle.ss_store_rules.specs.Store.{Object}
use Rattle.ss_store_rules.specs.Reads.{as_bool}
use Rattle.ss_store_rules.specs.Values.{setting, value_of}
use Rattle.ss_store_rules.specs.Changes.{field_class}
use Rattle.ss_store_rules.specs.Types.{in_code, is_condition, code_type}
use Rattle.ss_store_rules.specs.Locals.{is_argument, local_types, is_variable, each, each_inside, is_target, is_kept_in}
use Rattle.ss_store_rules.specs.Typed.{callee_of, fits_kept, is_typed}
use Rattle.ss_store_rules.specs.Assigned.{assigned_flow, reads_assigned}
use Rattle.ss_store_rules.specs.Paths.{is_literal_true, Check, holds_along}
use Rattle.ss_store_rules.specs.NonNull.{says_nothing, Known, known_at_entry, known_tested, site_of, is_never_null, is_non_null_type, learned, may_stand, may_stand_at, result_of, with_kept, known_after, known_flow}
use Rattle.ss_store_rules.specs.Formed.{IsFormedBody}
use Rattle.ss_machine_rules.specs.Frame.{this_of}
use Rattle.ss_machine_rules.specs.States.{Due, Statement, Test, dues, Target, ToCall, Frame, put, frame_at_entry, scene}
use Rattle.ss_machine_rules.specs.Steps as steps
use Rattle.ss_machine_rules.specs.Steps.{go_into}
use Rattle.ss_machine_typed.proofs.Sound.{value_sound}
use Rattle.ss_machine_good.specs.Flows.{is_simple, Loop, stmt_of, IsKnown}
use Rattle.ss_machine_good.specs.Known.{IsNotNull, IsTrueOf, AreAssigned}
use Rattle.ss_machine_good.specs.Frames.{all_left}
use Rattle.ss_machine_good.proofs.Flows.{known_entered, known_simple, known_fork, known_head, known_test}
use Rattle.ss_machine_good.proofs.Meets.{known_sound}
use Rattle.ss_machine_good.proofs.Assigned.{assigned_sound}
use Rattle.ss_machine_good.proofs.Puts.{put_true, put_assigned}
use Rattle.ss_machine_good.proofs.Tests.{bool_type_is, learned_true, tested_true}
use Rattle.ss_machine_good.proofs.Steps.{code_typed, fitting_some}
use Rattle.ss_machine_good.proofs.Frames.{frame_setting, declared_some, bool_typed, literal_value, entry_known}
use Rattle.ss_machine_good.specs.Later.{IsLater}
use Rattle.ss_machine_good.specs.LaterFrames.{HasGiven, IsGoodFrame, entry_size, constructed, is_given_back, kept_in, IsNewTo}
use Rattle.ss_machine_good.proofs.Later.{later_self, later_trans}
use Rattle.ss_machine_good.proofs.Behind.{put_this, variable_apart, target_variable, later_true}
use Rattle.ss_machine_good.proofs.Values.{before_assigned, before_known, reads_evaluated, known_not_null, stands_not_null}
use Rattle.ss_machine_good.proofs.Statements.{typed_here}
use Rattle.ss_machine_good.proofs.Waiting.{same_constructed}
use Rattle.ss_machine_good.proofs.CallsOfRuns.{called}

-- ---- frames

-- Whatever the code of the body passes by what is known before each statement, what is left passes by something that is so. Known is which
-- expressions aren't null, and which locals are assigned.
pub record IsFollowed (c : CoreTree) (f : Frame) (s : List Object) : Type 0 where
  pub known : (k : Check Known) → holds_along (known_flow c f.body) k f.body.code (Some (known_at_entry f.body)) ≡ true → IsKnown (known_flow c f.body) k (IsTrueOf f.body.flags.ctor) f.left (scene c f s)
  pub assigned : (k : Check (ℕ → Bool)) → holds_along assigned_flow k f.body.code (Some (is_argument f.body)) ≡ true → IsKnown assigned_flow k (AreAssigned f.body) f.left (scene c f s)

-- What is known of what the body b gives back: its value, and after `base(..)` the fields of this.
pub record IsGiven (c : CoreTree) (b : BodyTree) (into : Target) (this : Value) (z : List Object) (v : Value) : Type 0 where
  pub non_null : is_given_back b into ≡ true → IsNotNull v
  pub fields : (x : Option ℕ) → into ≡ ToCall x → b.flags.ctor ≡ true → (g : ℕ) → (b.flags.delayed ≡ true → below c.classes b.class (field_class c.classes g) ≡ true) → HasGiven c z this g

-- a frame that waits is followed in each later store, once it gets that
abbrev pub WillBeFollowed : CoreTree → List Object → BodyTree → Target → Value → Frame → Type 0
WillBeFollowed c s b into this f = (z : List Object) (v : Value) → IsLater c.classes (entry_size f) s z → IsGiven c b into this z v → IsFollowed c (steps.with_local (kept_in into) v f) z

abbrev pub AreFollowed : CoreTree → List Object → Frame → List Frame → Type 0
AreFollowed c s g [] = Unit {0}
AreFollowed c s g (f ∷ fs) = WillBeFollowed c s g.body g.into (constructed g) f × AreFollowed c s f fs

pub same_followed : (c : CoreTree) (s : List Object) (g h : Frame) (fs : List Frame) → h.body ≡ g.body → h.into ≡ g.into → constructed h ≡ constructed g → AreFollowed c s g fs → AreFollowed c s h fs
same_followed c s g h [] body into same are = tt
same_followed c s g h (f ∷ fs) body into same are = (subst (λ b. WillBeFollowed c s b h.into (constructed h) f) (sym body) (subst (λ i. WillBeFollowed c s g.body i (constructed h) f) (sym into) (subst (λ u. WillBeFollowed c s g.body g.into u f) (sym same) are.0)), are.1)

module _ (c : CoreTree) (s z : List Object) where
  pub later_followed : ((n : ℕ) → IsLater c.classes n s z) → (g : Frame) (fs : List Frame) → AreFollowed c s g fs → AreFollowed c z g fs
  later_followed later g [] are = tt
  later_followed later g (f ∷ fs) are = (λ y v more given. are.0 y v (later_trans c.classes (entry_size f) s z y (later (entry_size f)) more) given, later_followed later f fs are.1)

  pub ready_followed : (o : ℕ) → ((n : ℕ) → n ≤ o → IsLater c.classes n s z) → (g : Frame) (fs : List Frame) → IsNewTo (value.Obj o) fs → AreFollowed c s g fs → AreFollowed c z g fs
  ready_followed o later g [] new are = tt
  ready_followed o later g (f ∷ fs) new are = (λ y v more given. are.0 y v (later_trans c.classes (entry_size f) s z y (later (entry_size f) (new.0 o refl)) more) given, ready_followed o later f fs new.1 are.1)

pub entered_followed : (c : CoreTree) (b : BodyTree) → IsFormedBody c b → (locals : List Value) (s : List Object) (into : Target) → AreAssigned b (is_argument b) (setting c.classes s s locals) → IsFollowed c (frame_at_entry b locals s into) s
entered_followed c b fb locals s into arguments = record {
  known = λ k along. known_entered (known_flow c b) k (IsTrueOf b.flags.ctor) b.code (known_at_entry b) (setting c.classes s s locals) along fb.returns (entry_known b (setting c.classes s s locals));
  assigned = λ k along. known_entered assigned_flow k (AreAssigned b) b.code (is_argument b) (setting c.classes s s locals) along fb.returns arguments;
}

-- ---- after a statement

module _ (c : CoreTree) (f : Frame) (s : List Object) (st : StmtTree) (ds : List Due) (simple : is_simple st ≡ true) (at : f.left ≡ Statement st ∷ ds) (is : IsGoodFrame c f s) where
  pub after_followed : IsFollowed c f s → (z : List Object) (x : Option ℕ) (v : Value) → IsLater c.classes (entry_size f) s z →
      ((k : Known) → IsTrueOf f.body.flags.ctor k (scene c f z) → IsTrueOf f.body.flags.ctor (known_after c f.body st k) (scene c (steps.with_local x v (record f { left = ds })) z)) →
      ((xs : ℕ → Bool) → AreAssigned f.body xs (scene c f z) → AreAssigned f.body (λ y. is_target st y || xs y) (scene c (steps.with_local x v (record f { left = ds })) z)) →
      IsFollowed c (steps.with_local x v (record f { left = ds })) z
  after_followed are z x v later known_step assigned_step = record {
    known = λ k along.
        let b = known_simple (known_flow c f.body) k (IsTrueOf f.body.flags.ctor) st ds (scene c f s) simple (subst (λ l. IsKnown (known_flow c f.body) k (IsTrueOf f.body.flags.ctor) l (scene c f s)) at (are.known k along)) in
        b.goes_on (scene c (steps.with_local x v (record f { left = ds })) z) (known_step b.known (later_true c (entry_size f) s z later f is.constructs b.known b.so));
    assigned = λ k along.
        let b = known_simple assigned_flow k (AreAssigned f.body) st ds (scene c f s) simple (subst (λ l. IsKnown assigned_flow k (AreAssigned f.body) l (scene c f s)) at (are.assigned k along)) in
        b.goes_on (scene c (steps.with_local x v (record f { left = ds })) z) (assigned_step b.known b.so);
  }

  -- one that assigns nothing
  pub quiet_followed : IsFollowed c f s → (z : List Object) → IsLater c.classes (entry_size f) s z → ((y : ℕ) → is_target st y ≡ false) → ((k : Known) → IsTrueOf f.body.flags.ctor k (scene c f z) → IsTrueOf f.body.flags.ctor (known_after c f.body st k) (scene c f z)) →
      IsFollowed c (record f { left = ds }) z
  quiet_followed are z later none step = after_followed are z None value.Null later step (λ xs so y h typed. so y (⊎_elim (λ target. absurd (false≢true (sym (none y) ∙ target))) (λ had. had) (or_cases (is_target st y) (xs y) h)) typed)

  module _ (x : Option ℕ) (v : Value) (targets : (y : ℕ) → is_target st y ≡ is_kept_in x y) where
    target_is : (y : ℕ) → x ≡ Some y → is_target st y ≡ true
    target_is y e = targets y ∙ subst (λ w. is_kept_in w y ≡ true) (sym e) (eq-eqb y y refl)

    -- the `this` of a constructor isn't assigned
    pub this_same : f.body.flags.ctor ≡ true → this_of (put x v f.locals) ≡ this_of f.locals
    this_same ctor = put_this f.locals x v (λ y e. variable_apart f.body y is.sound.flags (target_variable c f s st ds simple at is y (target_is y e)) ctor)

    pub constructed_same : constructed (steps.with_local x v (record f { left = ds })) ≡ constructed f
    constructed_same = same_constructed f (steps.with_local x v (record f { left = ds })) refl this_same

    kept_within : (o : Option Ty) → fits_kept c.classes f.body x o ≡ true → (y : ℕ) → x ≡ Some y → y < length f.locals
    kept_within o fits y e =
        let d = declared_some c.classes o (slice_get (local_types f.body) y) (subst (λ w. fits_kept c.classes f.body w o ≡ true) e fits) in
        let there = slice_get_within (local_types f.body) y d.0 d.1 in
        let count = is.sound.locals.count in
        omega (arith, there, count)

    module _ (z : List Object) (o : Option Ty) (fits : fits_kept c.classes f.body x o ≡ true) where
      -- a local that may be keeps the value
      pub kept_true : (nn : Bool) → (nn ≡ true → IsNotNull v) → (k : Known) → IsTrueOf f.body.flags.ctor k (scene c f z) → IsTrueOf f.body.flags.ctor (with_kept x nn k) (scene c (steps.with_local x v (record f { left = ds })) z)
      kept_true nn not_null k so = keeps x (kept_within o fits) (λ y e. target_variable c f s st ds simple at is y (target_is y e))
        where
          keeps : (w : Option ℕ) → ((y : ℕ) → w ≡ Some y → y < length f.locals) → ((y : ℕ) → w ≡ Some y → is_variable f.body y ≡ true) → IsTrueOf f.body.flags.ctor (with_kept w nn k) (scene c (steps.with_local w v (record f { left = ds })) z)
          keeps None within variable = so
          keeps (Some y) within variable = put_true (scene c f z) y v (within y refl) f.body.flags.ctor nn says_nothing k so (variable_apart f.body y is.sound.flags (variable y refl)) not_null (λ u e w h. absurd (false≢true h))

      pub kept_assigned : ((y : ℕ) → x ≡ Some y → is_non_null_type (slice_get (local_types f.body) y) ≡ true → IsNotNull v) → (xs : ℕ → Bool) → AreAssigned f.body xs (scene c f z) → AreAssigned f.body (λ y. is_target st y || xs y) (scene c (steps.with_local x v (record f { left = ds })) z)
      kept_assigned not_null xs so y h typed = keeps x (kept_within o fits) not_null y (subst (λ t. (t || xs y) ≡ true) (targets y) h) typed
        where
          keeps : (w : Option ℕ) → ((y : ℕ) → w ≡ Some y → y < length f.locals) → ((y : ℕ) → w ≡ Some y → is_non_null_type (slice_get (local_types f.body) y) ≡ true → IsNotNull v) →
              AreAssigned f.body (λ y. is_kept_in w y || xs y) (scene c (steps.with_local w v (record f { left = ds })) z)
          keeps None within nn = so
          keeps (Some w) within nn = put_assigned (scene c f z) w v (within w refl) f.body xs so (nn w refl)

module _ (c : CoreTree) (f : Frame) (s : List Object) (is : IsGoodFrame c f s) (are : IsFollowed c f s) where
  pub assigned_followed : (p : Place) (x : ℕ) (e : ExprTree) (ds : List Due) (v : Value) → f.left ≡ Statement (AssignStmt p x e) ∷ ds → value_of e (scene c f s) ≡ Ok v → IsFollowed c (steps.with_local (Some x) v (record f { left = ds })) s
  assigned_followed p x e ds v at ev =
      let b = f.body in
      let st = AssignStmt p x e in
      let good = frame_setting c f s is.sound in
      let typed = typed_here c f s st ds refl at is in
      let fits = declared_some c.classes (code_type c.classes b e) (slice_get (local_types b) x) typed in
      let reads_ = (and_parts (reads_assigned b (before_assigned c f s st ds refl at is).known e) true (reads_evaluated c f s st ds refl at is)).0 in
      let before = before_known c f s st ds refl at is in
      let stands : may_stand c b before.known e fits.0 ≡ true = subst (λ o. may_stand_at c b before.known e o ≡ true) fits.1 before.checked in
      let a = fitting_some c.classes (code_type c.classes b e) fits.0 fits.2 in
      let e_typed = code_typed c.classes b e a.0 a.1 in
      let there = slice_get_within (local_types b) x fits.0 fits.1 in
      let count = is.sound.locals.count in
      after_followed c f s st ds refl at is are s (Some x) v (later_self c.classes (entry_size f) s)
      (λ k so. put_true (scene c f s) x v (omega (arith, there, count)) b.flags.ctor (is_never_null (site_of c b) k false e) (learned k e) k so
      (variable_apart b x is.sound.flags (target_variable c f s st ds refl at is x (eq-eqb x x refl)))
      (λ never. known_not_null c f s st ds refl at is k so e fits.0 v reads_ fits.2 never ev)
      (λ u vu. learned_true (scene c f s) (local_types b) b.flags.ctor good k so e u
      (e_typed ∙ ap (λ t. Some t) (bool_typed c.classes s a.0 v u (value_sound e (scene c f s) (local_types b) b.flags.ctor good a.0 v e_typed ev) vu)) (v, ev, ap as_bool vu)))
      (kept_assigned c f s st ds refl at is (Some x) v (λ y. refl) s (code_type c.classes b e) typed (λ y eq nn.
      let same : x ≡ y = cc in
      let nn_x : is_non_null_type (slice_get (local_types b) x) ≡ true = subst (λ n. is_non_null_type (slice_get (local_types b) n) ≡ true) (sym same) nn in
      stands_not_null c f s st ds refl at is e fits.0 v reads_ fits.2 stands ev (sym (ap is_non_null_type fits.1) ∙ nn_x)))

  -- ---- tests

  tested_so : (k : Known) → IsTrueOf f.body.flags.ctor k (scene c f s) → (e : ExprTree) (v : Value) (w : Bool) → is_condition c.classes f.body in_code e ≡ true → value_of e (scene c f s) ≡ Ok v → as_bool v ≡ w → IsTrueOf f.body.flags.ctor (known_tested e w k) (scene c f s)
  tested_so k so e v w typed ev is_w =
      let e_typed = code_typed c.classes f.body e ty.Bool (bool_type_is (code_type c.classes f.body e) typed) in
      tested_true (scene c f s) (local_types f.body) f.body.flags.ctor (frame_setting c f s is.sound) k so e w e_typed (v, ev, is_w)

  pub forked_followed : (p : Place) (e : ExprTree) (a b : CodeTree) (ds : List Due) (v : Value) → f.left ≡ Statement (IfStmt p e a b) ∷ ds → value_of e (scene c f s) ≡ Ok v → IsFollowed c (go_into (dues (if as_bool v then a else b)) (record f { left = ds })) s
  forked_followed p e a b ds v at ev =
      let body = f.body in
      let stmt = IfStmt p e a b in
      let t = and_parts (each_inside (is_typed c body) stmt) _ (subst (λ l. all_left (is_typed c body) (is_condition c.classes body in_code) l ≡ true) at is.sound.typed) in
      let t2 = and_parts (is_typed c body stmt && each (is_typed c body) a) (each (is_typed c body) b) t.0 in
      let t3 = and_parts (is_typed c body stmt) (each (is_typed c body) a) t2.0 in
      record {
        known = λ k along.
            let fork = known_fork (known_flow c body) k (IsTrueOf body.flags.ctor) (known_sound c body k body.flags.ctor) p e a b ds (scene c f s) (subst (λ l. IsKnown (known_flow c body) k (IsTrueOf body.flags.ctor) l (scene c f s)) at (are.known k along)) in
            fork.goes_on (as_bool v) (scene c f s) (tested_so fork.known fork.so e v (as_bool v) t3.0 ev refl);
        assigned = λ k along.
            let fork = known_fork assigned_flow k (AreAssigned body) (assigned_sound body k) p e a b ds (scene c f s) (subst (λ l. IsKnown assigned_flow k (AreAssigned body) l (scene c f s)) at (are.assigned k along)) in
            fork.goes_on (as_bool v) (scene c f s) fork.so;
      }

  pub looping_followed : (l : Loop) (ds : List Due) → f.left ≡ Statement (stmt_of l) ∷ ds → IsFollowed c (go_into (dues l.prelude ++ Test l.test l.body (stmt_of l) ∷ []) (record f { left = ds })) s
  looping_followed l ds at =
      let body = f.body in
      let whole = append_assoc (dues l.prelude) (Test l.test l.body (stmt_of l) ∷ []) ds in
      record {
        known = λ k along.
            let head = known_head (known_flow c body) k (IsTrueOf body.flags.ctor) (known_sound c body k body.flags.ctor) l ds (scene c f s) (subst (λ z. IsKnown (known_flow c body) k (IsTrueOf body.flags.ctor) z (scene c f s)) at (are.known k along)) in
            subst (λ z. IsKnown (known_flow c body) k (IsTrueOf body.flags.ctor) z (scene c f s)) (sym whole) head.goes_on;
        assigned = λ k along.
            let head = known_head assigned_flow k (AreAssigned body) (assigned_sound body k) l ds (scene c f s) (subst (λ z. IsKnown assigned_flow k (AreAssigned body) z (scene c f s)) at (are.assigned k along)) in
            subst (λ z. IsKnown assigned_flow k (AreAssigned body) z (scene c f s)) (sym whole) head.goes_on;
      }

  test_typed : (e : ExprTree) (code : CodeTree) (st : StmtTree) (ds : List Due) → f.left ≡ Test e code st ∷ ds → is_condition c.classes f.body in_code e ≡ true
  test_typed e code st ds at =
      let body = f.body in
      let t = and_parts (is_condition c.classes body in_code e && each (is_typed c body) code && each_inside (is_typed c body) st) _ (subst (λ z. all_left (is_typed c body) (is_condition c.classes body in_code) z ≡ true) at is.sound.typed) in
      let t2 = and_parts (is_condition c.classes body in_code e && each (is_typed c body) code) (each_inside (is_typed c body) st) t.0 in
      (and_parts (is_condition c.classes body in_code e) (each (is_typed c body) code) t2.0).0

  tested_to : (e : ExprTree) (code : CodeTree) (st : StmtTree) (ds : List Due) (v : Value) → f.left ≡ Test e code st ∷ ds → value_of e (scene c f s) ≡ Ok v → (w : Bool) → as_bool v ≡ w →
      IsFollowed c (if w then go_into (dues code ++ Statement st ∷ []) (record f { left = ds }) else record f { left = ds }) s
  tested_to e code st ds v at ev true is_w =
      let body = f.body in
      let whole = append_assoc (dues code) (Statement st ∷ []) ds in
      record {
        known = λ k along.
            let test = known_test (known_flow c body) k (IsTrueOf body.flags.ctor) e code st ds (scene c f s) (subst (λ z. IsKnown (known_flow c body) k (IsTrueOf body.flags.ctor) z (scene c f s)) at (are.known k along)) in
            subst (λ z. IsKnown (known_flow c body) k (IsTrueOf body.flags.ctor) z (scene c f s)) (sym whole) (test.into (scene c f s) (tested_so test.known test.so e v true (test_typed e code st ds at) ev is_w));
        assigned = λ k along.
            let test = known_test assigned_flow k (AreAssigned body) e code st ds (scene c f s) (subst (λ z. IsKnown assigned_flow k (AreAssigned body) z (scene c f s)) at (are.assigned k along)) in
            subst (λ z. IsKnown assigned_flow k (AreAssigned body) z (scene c f s)) (sym whole) (test.into (scene c f s) test.so);
      }
  tested_to e code st ds v at ev false is_w =
      let body = f.body in
      let unending = ⊎_elim (λ literal. absurd (true≢false (sym (literal_value e (scene c f s) v literal ev) ∙ is_w))) (λ no_literal. no_literal) (cases_Bool (is_literal_true e)) in
      record {
        known = λ k along.
            let test = known_test (known_flow c body) k (IsTrueOf body.flags.ctor) e code st ds (scene c f s) (subst (λ z. IsKnown (known_flow c body) k (IsTrueOf body.flags.ctor) z (scene c f s)) at (are.known k along)) in
            test.out unending (scene c f s) (tested_so test.known test.so e v false (test_typed e code st ds at) ev is_w);
        assigned = λ k along.
            let test = known_test assigned_flow k (AreAssigned body) e code st ds (scene c f s) (subst (λ z. IsKnown assigned_flow k (AreAssigned body) z (scene c f s)) at (are.assigned k along)) in
            test.out unending (scene c f s) test.so;
      }

  pub tested_followed : (e : ExprTree) (code : CodeTree) (st : StmtTree) (ds : List Due) (v : Value) → f.left ≡ Test e code st ∷ ds → value_of e (scene c f s) ≡ Ok v →
      IsFollowed c (if as_bool v then go_into (dues code ++ Statement st ∷ []) (record f { left = ds }) else record f { left = ds }) s
  tested_followed e code st ds v at ev = tested_to e code st ds v at ev (as_bool v) refl

  -- ---- calls of methods

  -- the caller waits for the result
  pub caller_followed : (p : Place) (x : Option ℕ) (callee : CalleeTree) (es : List ExprTree) (ds : List Due) (at : f.left ≡ Statement (CallStmt p x callee es) ∷ ds) → (b : BodyTree) (this : Value) → b.result ≡ (called c f s p x callee es ds at is).body.result →
      ((k : Known) → known_after c f.body (CallStmt p x callee es) k ≡ with_kept x (is_non_null_type (result_of (callee_of c f.body callee))) k) → WillBeFollowed c s b (ToCall x) this (record f { left = ds })
  caller_followed p x callee es ds at b this same after z v later given =
      let st = CallStmt p x callee es in
      let k = called c f s p x callee es ds at is in
      let nn = is_non_null_type (result_of (callee_of c f.body callee)) in
      let result : nn ≡ is_non_null_type b.result = ap (λ o. is_non_null_type (result_of o)) k.is_callee ∙ ap is_non_null_type (sym same) in
      after_followed c f s st ds refl at is are z x v later
      (λ j so. subst (λ i. IsTrueOf f.body.flags.ctor i (scene c (steps.with_local x v (record f { left = ds })) z)) (sym (after j))
      (kept_true c f s st ds refl at is x v (λ y. refl) z k.body.result k.fits nn (λ h. given.non_null (sym result ∙ h)) j so))
      (kept_assigned c f s st ds refl at is x v (λ y. refl) z k.body.result k.fits (λ y e h. given.non_null (ap is_non_null_type same ∙ k.keeps y e h)))
