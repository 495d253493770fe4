-- A frame after one of its statements, in a later store.
use Rattle.std.proofs.Common.{◌≡◌, ◌≢◌, ℕ, zero, suc, ◌<◌, List, [], ◌∷◌, length, Bool, true, false, ◌||◌, ◌==◌, Option, Some, None, refl, sym, ◌∙◌, ap, subst, arith, ⊎_elim}
use Rattle.std.specs.Prelude.{slice_get, if◌then◌else◌, nat_le, nat_lt}
use Rattle.std.proofs.lemmas.Bool.{false≢true, true≢false, and_parts, or_cases, or_left, or_right, leb-true, cases_Bool, eq-eqb, eqb-true}
use Rattle.std.proofs.lemmas.Option.{slice_get_within}
use Rattle.ss_core.specs.declared.names.Ty.{Ty}
use Rattle.ss_core.specs.Tree.{StmtTree, AssignStmt, NewStmt, NewArrayStmt, CallStmt, IfStmt, LoopStmt, BodyTree, CoreTree}
use Rattle.ss_core.specs.Chain.{below}
use Rattle.ss_store_rules.specs.declared.Value.{Value}
use Rattle.ss_store_rules.specs.declared.Value.TheVariants as value
use Rattle.ss_store_rules.specs.Store.{Object}
use Rattle.ss_store_rules.specs.Changes.{field_type}
use Rattle.ss_store_rules.specs.Types.{in_code, is_condition}
use Rattle.ss_store_rules.specs.Locals.{argument_count, local_types, is_variable, result_number, each_inside, is_kept_in, is_kept_among, is_target, targets_only}
use Rattle.ss_store_rules.specs.Typed.{is_typed, has_exposable}
use Rattle.ss_store_rules.specs.Good.{has_type, is_non_null, IsReady}
use Rattle.ss_store_rules.specs.States.{AreGoodLocals}
use Rattle.ss_store_rules.specs.Assigned.{assigned_flow, assigned_check}
use Rattle.ss_store_rules.specs.NonNull.{Known, is_non_null_type, known_after, known_flow, null_check}
use Rattle.ss_store_rules.specs.Formed.{has_flags}
use Rattle.ss_store_rules.proofs.Objects.{same_object}
use Rattle.ss_machine_rules.specs.Frame.{this_of}
use Rattle.ss_machine_rules.specs.Good.{IsGoodStore}
use Rattle.ss_machine_rules.specs.States.{Due, Statement, Frame, put, scene}
use Rattle.ss_machine_rules.specs.Steps.{with_local}
use Rattle.ss_machine_typed.proofs.Older.{older_trans, locals-older}
use Rattle.ss_machine_typed.proofs.First.{put_locals}
use Rattle.ss_machine_good.specs.Flows.{is_simple, IsKnown}
use Rattle.ss_machine_good.specs.Known.{IsNotNull, IsTrueOf, AreAssigned}
use Rattle.ss_machine_good.specs.Frames.{all_left}
use Rattle.ss_machine_good.proofs.Flows.{known_simple}
use Rattle.ss_machine_good.proofs.Puts.{put_assigned}
use Rattle.ss_machine_good.proofs.Frames.{some_argument, instance_if}
use Rattle.ss_machine_good.specs.Checks.{fields_check, ready_flow, ready_check, makes_ready, IsThisReady}
use Rattle.ss_machine_good.specs.Later.{IsLater}
use Rattle.ss_machine_good.specs.LaterFrames.{HasGiven, IsConstructing, IsGoodFrame, entry_size}

-- ---- the `this` of a constructor isn't assigned

-- a constructor has a `this`
pub constructor_instance : (b : BodyTree) → has_flags b ≡ true → b.flags.ctor ≡ true → b.flags.is_static ≡ false
constructor_instance b flags ctor = instance_if b.flags.ctor b.flags.is_static _ b.flags.delayed flags ctor

-- a variable isn't `this`
pub variable_no_this : (b : BodyTree) (x : ℕ) → is_variable b x ≡ true → b.flags.is_static ≡ false → x ≢ 0
variable_no_this b x h instance_ z =
    let low = leb-true (argument_count b) x (and_parts (nat_le (argument_count b) x) (nat_lt x (result_number b)) h).0 in
    let one = some_argument b instance_ in
    omega (arith, low, one, z)

pub variable_apart : (b : BodyTree) (x : ℕ) → has_flags b ≡ true → is_variable b x ≡ true → b.flags.ctor ≡ true → x ≢ 0
variable_apart b x flags h ctor = variable_no_this b x h (constructor_instance b flags ctor)

pub put_this : (locals : List Value) (x : Option ℕ) (v : Value) → ((y : ℕ) → x ≡ Some y → y ≢ 0) → this_of (put x v locals) ≡ this_of locals
put_this locals None v apart = refl
put_this locals (Some zero) v apart = absurd (apart 0 refl refl)
put_this [] (Some (suc y)) v apart = refl
put_this (u ∷ locals) (Some (suc y)) v apart = refl

-- ---- statements

pub each_simple : (test : StmtTree → Bool) (s : StmtTree) → is_simple s ≡ true → each_inside test s ≡ test s
each_simple test (IfStmt p e a b) h = absurd (false≢true h)
each_simple test (LoopStmt p invariants prelude e body exposes) h = absurd (false≢true h)
each_simple test s h = refl

pub kept_is : (x : Option ℕ) (y : ℕ) → is_kept_in x y ≡ true → x ≡ Some y
kept_is None y h = absurd (false≢true h)
kept_is (Some x) y h = ap (λ n. Some n) (eqb-true x y h)

kept_among : (among : ℕ → Bool) (x : Option ℕ) (y : ℕ) → is_kept_among among x ≡ true → is_kept_in x y ≡ true → among y ≡ true
kept_among among None y h is = absurd (false≢true is)
kept_among among (Some x) y h is = subst (λ n. among n ≡ true) (eqb-true x y is) h

target_among : (among : ℕ → Bool) (s : StmtTree) (y : ℕ) → targets_only among s ≡ true → is_target s y ≡ true → among y ≡ true
target_among among (AssignStmt p x e) y h is = subst (λ n. among n ≡ true) (eqb-true x y is) h
target_among among (NewStmt p x t es) y h is = kept_among among x y h is
target_among among (NewArrayStmt p x t e) y h is = kept_among among x y h is
target_among among (CallStmt p x callee es) y h is = kept_among among x y h is
target_among among s y h is = absurd (false≢true is)

-- ---- what goes on in a later store

module _ (c : CoreTree) (n : ℕ) (s z : List Object) (later : IsLater c.classes n s z) where
  pub later_given : (v : Value) (p : ℕ) (y : Object) → v ≡ value.Obj p → slice_get s p ≡ Some y → (g : ℕ) → HasGiven c s v g → HasGiven c z v g
  later_given v p y is at g given o x iso ex null =
      let both : value.Obj p ≡ value.Obj o = sym is ∙ iso in
      let same : p ≡ o = cc in
      ⊎_elim
      (λ nn. absurd (true≢false (sym nn ∙ given p y is at (later.fields p g y x at (subst (λ k. slice_get z k ≡ Some x) (sym same) ex) nn null))))
      (λ no. no)
      (cases_Bool (is_non_null (field_type c.classes g)))

  pub later_object_ready : (v : Value) (p : ℕ) (y : Object) → v ≡ value.Obj p → slice_get s p ≡ Some y → IsReady s v → IsReady z v
  later_object_ready v p y is at ready o x iso ex =
      let both : value.Obj p ≡ value.Obj o = sym is ∙ iso in
      let same : p ≡ o = cc in
      let r = later.older p y at in
      subst (λ (u : Object). u.ready ≡ true) (same_object z p r.object x r.there (subst (λ k. slice_get z k ≡ Some x) (sym same) ex)) (r.ready (ready p y is at))

  pub later_constructing : (f : Frame) → IsConstructing c f s → IsConstructing c f z
  later_constructing f is =
      let r = later.older is.position is.object is.there in
      record {
        position = is.position;
        this = is.this;
        object = r.object;
        there = r.there;
        class = subst (λ k. below c.classes k f.body.class ≡ true) (sym r.class) is.class;
        exact = λ new. r.class ∙ is.exact new;
        given = λ undelayed g b. later_given (this_of f.locals) is.position is.object is.this is.there g (is.given undelayed g b);
      }

  module _ (f : Frame) (constructs : f.body.flags.ctor ≡ true → IsConstructing c f s) where
    pub later_true : (k : Known) → IsTrueOf f.body.flags.ctor k (scene c f s) → IsTrueOf f.body.flags.ctor k (scene c f z)
    later_true k so = record {
      facts = so.facts;
      sides = λ x v e. let side = so.sides x v e in record { facts = side.facts; there = side.there; so = side.so };
      fields = λ ctor g h. let at = constructs ctor in later_given (this_of f.locals) at.position at.object at.this at.there g (so.fields ctor g h);
    }

    pub later_this : (r : Bool) → IsThisReady f.body.flags.ctor r (scene c f s) → IsThisReady f.body.flags.ctor r (scene c f z)
    later_this r so ctor h = let at = constructs ctor in later_object_ready (this_of f.locals) at.position at.object at.this at.there (so ctor h)

-- ---- after a statement

-- The value v may stand in the local x, if there is one, which the statement assigns.
pub record MayBePut (c : CoreTree) (b : BodyTree) (st : StmtTree) (z : List Object) (x : Option ℕ) (v : Value) : Type 0 where
  pub target : (y : ℕ) → x ≡ Some y → is_target st y ≡ true
  pub only : (y : ℕ) → is_target st y ≡ true → x ≡ Some y
  pub types : (y : ℕ) → x ≡ Some y → (t : Ty) × (slice_get (local_types b) y ≡ Some t) × (has_type c.classes z t v ≡ true)
  pub ready : (y : ℕ) → x ≡ Some y → IsReady z v
  pub non_null : (y : ℕ) → x ≡ Some y → is_non_null_type (slice_get (local_types b) y) ≡ true → IsNotNull v

put_good : (c : CoreTree) (b : BodyTree) (st : StmtTree) (z : List Object) (locals : List Value) (x : Option ℕ) (v : Value) → MayBePut c b st z x v → AreGoodLocals c.classes z b locals → AreGoodLocals c.classes z b (put x v locals)
put_good c b st z locals None v may are = are
put_good c b st z locals (Some y) v may are = let t = may.types y refl in put_locals c.classes z b locals y t.0 v are t.1 t.2 (may.ready y refl)

put_are_assigned : (c : CoreTree) (f : Frame) (ds : List Due) (st : StmtTree) (z : List Object) (x : Option ℕ) (v : Value) → MayBePut c f.body st z x v → length f.locals ≡ length (local_types f.body) → (xs : ℕ → Bool) → AreAssigned f.body xs (scene c f z) →
    AreAssigned f.body (λ y. is_target st y || xs y) (scene c (with_local x v (record f { left = ds })) z)
put_are_assigned c f ds st z None v may count xs are y h typed = ⊎_elim (λ t. absurd (let none = may.only y t in let no : ⊥ = cc in no)) (λ k. are y k typed) (or_cases (is_target st y) (xs y) h)
put_are_assigned c f ds st z (Some w) v may count xs are y h typed =
    let t = may.types w refl in
    let there = slice_get_within (local_types f.body) w t.0 t.1 in
    put_assigned (scene c f z) w v (omega (arith, count, there)) f.body xs are (may.non_null w refl) y
    (⊎_elim (λ k. let is = may.only y k in let same : w ≡ y = cc in or_left (w == y) (xs y) (eq-eqb w y same)) (λ k. or_right (w == y) (xs y) k) (or_cases (is_target st y) (xs y) h)) typed

module _ (c : CoreTree) (f : Frame) (s : List Object) (st : StmtTree) (ds : List Due) (simple : is_simple st ≡ true) (at : f.left ≡ Statement st ∷ ds) (is : IsGoodFrame c f s) where
  -- what it assigns is a variable
  pub target_variable : (y : ℕ) → is_target st y ≡ true → is_variable f.body y ≡ true
  target_variable y h =
      let t = and_parts (each_inside (targets_only (is_variable f.body)) st) _ (subst (λ l. all_left (targets_only (is_variable f.body)) (λ d. true) l ≡ true) at is.sound.targets) in
      target_among (is_variable f.body) st y (sym (each_simple (targets_only (is_variable f.body)) st simple) ∙ t.0) h

  pub put_variable : (z : List Object) (x : Option ℕ) (v : Value) → MayBePut c f.body st z x v → (y : ℕ) → x ≡ Some y → is_variable f.body y ≡ true
  put_variable z x v may y e = target_variable y (may.target y e)

  pub instance_kept : (z : List Object) (x : Option ℕ) (v : Value) → MayBePut c f.body st z x v → f.body.flags.is_static ≡ false → this_of (put x v f.locals) ≡ this_of f.locals
  instance_kept z x v may instance_ = put_this f.locals x v (λ y e. variable_no_this f.body y (put_variable z x v may y e) instance_)

  pub this_kept : (z : List Object) (x : Option ℕ) (v : Value) → MayBePut c f.body st z x v → f.body.flags.ctor ≡ true → this_of (put x v f.locals) ≡ this_of f.locals
  this_kept z x v may ctor = put_this f.locals x v (λ y e. variable_apart f.body y is.sound.flags (put_variable z x v may y e) ctor)

  pub after_frame : (z : List Object) (x : Option ℕ) (v : Value) → IsLater c.classes (entry_size f) s z → IsGoodStore c z → MayBePut c f.body st z x v →
      ((k : Known) → IsTrueOf f.body.flags.ctor k (scene c f z) → IsTrueOf f.body.flags.ctor (known_after c f.body st k) (scene c (with_local x v (record f { left = ds })) z)) →
      ((r : Bool) → IsThisReady f.body.flags.ctor r (scene c f z) → IsThisReady f.body.flags.ctor (r || makes_ready c st) (scene c (with_local x v (record f { left = ds })) z)) →
      IsGoodFrame c (with_local x v (record f { left = ds })) z
  after_frame z x v later good may known_step ready_step =
      let b = f.body in
      let g = with_local x v (record f { left = ds }) in
      let sound = is.sound in
      let typed = and_parts (each_inside (is_typed c b) st) _ (subst (λ l. all_left (is_typed c b) (is_condition c.classes b in_code) l ≡ true) at sound.typed) in
      let targets = and_parts (each_inside (targets_only (is_variable b)) st) _ (subst (λ l. all_left (targets_only (is_variable b)) (λ d. true) l ≡ true) at sound.targets) in
      let exposed = and_parts (each_inside (has_exposable c.classes b) st) _ (subst (λ l. all_left (has_exposable c.classes b) (λ d. true) l ≡ true) at is.exposed) in
      let assigned = known_simple assigned_flow (assigned_check b) (AreAssigned b) st ds (scene c f s) simple (subst (λ l. IsKnown assigned_flow (assigned_check b) (AreAssigned b) l (scene c f s)) at sound.assigned) in
      let known = known_simple (known_flow c b) (null_check c b) (IsTrueOf b.flags.ctor) st ds (scene c f s) simple (subst (λ l. IsKnown (known_flow c b) (null_check c b) (IsTrueOf b.flags.ctor) l (scene c f s)) at sound.known) in
      let fields_ = known_simple (known_flow c b) (fields_check c b) (IsTrueOf b.flags.ctor) st ds (scene c f s) simple (subst (λ l. IsKnown (known_flow c b) (fields_check c b) (IsTrueOf b.flags.ctor) l (scene c f s)) at is.fields) in
      let ready_ = known_simple (ready_flow c) (ready_check b) (IsThisReady b.flags.ctor) st ds (scene c f s) simple (subst (λ l. IsKnown (ready_flow c) (ready_check b) (IsThisReady b.flags.ctor) l (scene c f s)) at is.ready) in
      record {
        formed = is.formed;
        sound = record {
          chain = sound.chain;
          beside = sound.beside;
          flags = sound.flags;
          store = good;
          entry = sound.entry;
          older = older_trans f.entry s z sound.older later.older;
          was_ready = λ plain o u w eu ew r.
              let m = sound.older o u eu in
              let within : o < entry_size f = subst (λ k. o < (if k then 0 else length f.entry)) (sym plain) (slice_get_within f.entry o u eu) in
              sound.was_ready plain o u m.object eu m.there (later.ready o m.object w within m.there ew r);
          locals = put_good c b st z f.locals x v may (locals-older c.classes s z later.older b f.locals sound.locals);
          typed = typed.1;
          targets = targets.1;
          assigned = assigned.goes_on (scene c g z) (put_are_assigned c f ds st z x v may sound.locals.count assigned.known assigned.so);
          known = known.goes_on (scene c g z) (known_step known.known (later_true c (entry_size f) s z later f is.constructs known.known known.so));
        };
        exposed = exposed.1;
        fields = fields_.goes_on (scene c g z) (known_step fields_.known (later_true c (entry_size f) s z later f is.constructs fields_.known fields_.so));
        ready = ready_.goes_on (scene c g z) (ready_step ready_.known (later_this c (entry_size f) s z later f is.constructs ready_.known ready_.so));
        constructs = λ ctor.
            let k = later_constructing c (entry_size f) s z later f (is.constructs ctor) in
            let same = this_kept z x v may ctor in
            record {
              position = k.position;
              this = same ∙ k.this;
              object = k.object;
              there = k.there;
              class = k.class;
              exact = k.exact;
              given = λ undelayed h b_. subst (λ u. HasGiven c z u h) (sym same) (k.given undelayed h b_);
            };
        instance = λ instance_. let k = is.instance instance_ in (k.0, instance_kept z x v may instance_ ∙ k.1);
        new = is.new;
      }

  -- where it makes nothing ready
  pub ready_as_before : (z : List Object) (x : Option ℕ) (v : Value) → MayBePut c f.body st z x v → makes_ready c st ≡ false → (r : Bool) → IsThisReady f.body.flags.ctor r (scene c f z) →
      IsThisReady f.body.flags.ctor (r || makes_ready c st) (scene c (with_local x v (record f { left = ds })) z)
  ready_as_before z x v may nothing r so ctor h =
      subst (λ u. IsReady z u) (sym (this_kept z x v may ctor)) (so ctor (⊎_elim (λ e. e) (λ e. absurd (false≢true (sym nothing ∙ e))) (or_cases r (makes_ready c st) h)))
