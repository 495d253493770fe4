-- The values of the expressions of a statement that a good frame does.
use Rattle.std.proofs.Common.{◌≡◌, ℕ, zero, suc, List, [], ◌∷◌, Bool, true, false, not, ◌&&◌, Some, Ok, eqb, refl, sym, ◌∙◌, ap, subst, ⊎_elim, inl, inr, ◌⊎◌}
use Rattle.std.specs.Prelude.{slice_get}
use Rattle.std.specs.List.{list_all}
use Rattle.std.proofs.lemmas.Bool.{false≢true, true≢false, and_parts, and_from, or_cases, cases_Bool, eqb-true}
use Rattle.ss_core.specs.declared.names.Ty.{Ty}
use Rattle.ss_core.specs.Tree.{ExprTree, StmtTree, ReturnStmt, BodyTree, CoreTree}
use Rattle.ss_store_rules.specs.declared.Value.{Value}
use Rattle.ss_store_rules.specs.Store.{Object}
use Rattle.ss_store_rules.specs.Values.{and_then, value_of}
use Rattle.ss_store_rules.specs.Types.{code_type}
use Rattle.ss_store_rules.specs.Locals.{local_types, evaluated}
use Rattle.ss_store_rules.specs.Typed.{has_type_in, have_types_in}
use Rattle.ss_store_rules.specs.Good.{is_non_null, IsReady}
use Rattle.ss_store_rules.specs.States.{is_this_of_constructor}
use Rattle.ss_store_rules.specs.Assigned.{assigned_flow, assigned_check, operands, reads_assigned}
use Rattle.ss_store_rules.specs.NonNull.{Known, is_this_object, site_of, is_never_null, known_flow, null_check, may_stand, arguments_may_stand}
use Rattle.ss_store_rules.proofs.Owners.{not_true}
use Rattle.ss_machine_rules.specs.Frame.{this_of}
use Rattle.ss_machine_rules.specs.States.{Due, Statement, Frame, scene}
use Rattle.ss_machine_rules.specs.Steps.{values_of}
use Rattle.ss_machine_typed.specs.Settings.{IsGoodSetting}
use Rattle.ss_machine_typed.proofs.Outcomes.{and_then_ok}
use Rattle.ss_machine_good.specs.Flows.{is_simple, IsKnown, IsBefore}
use Rattle.ss_machine_good.specs.Known.{IsNotNull, IsTrueOf, AreAssigned}
use Rattle.ss_machine_good.proofs.Flows.{known_simple}
use Rattle.ss_machine_good.proofs.NonNull.{never_null}
use Rattle.ss_machine_good.proofs.Steps.{code_typed, fitting_some}
use Rattle.ss_machine_good.proofs.Frames.{frame_setting}
use Rattle.ss_machine_good.specs.Checks.{fields_check, ready_flow, ready_check, ready_asked, passed_on, enters_base, keeps_this, IsThisReady}
use Rattle.ss_machine_good.specs.LaterFrames.{IsGoodFrame}

-- ---- values that may be passed on

-- The values of these expressions are ready, in a setting that may be that of a constructor whose `this` they aren't.
pub record MayPass (c : CoreTree) (f : Frame) (s : List Object) (es : List ExprTree) : Type 0 where
  pub constructs : Bool
  pub setting : IsGoodSetting (scene c f s) (local_types f.body) constructs
  pub apart : list_all (λ e. not (constructs && is_this_object e)) es ≡ true

all_plain : (k : Bool) (es : List ExprTree) → k ≡ false → list_all (λ e. not (k && is_this_object e)) es ≡ true
all_plain k [] plain = refl
all_plain k (e ∷ es) plain = and_from (not (k && is_this_object e)) (list_all (λ d. not (k && is_this_object d)) es) (rw plain refl) (all_plain k es plain)

all_apart : (k : Bool) (es : List ExprTree) → list_all (λ e. not (is_this_object e)) es ≡ true → list_all (λ e. not (k && is_this_object e)) es ≡ true
all_apart k [] h = refl
all_apart k (e ∷ es) h =
    let p = and_parts (not (is_this_object e)) (list_all (λ d. not (is_this_object d)) es) h in
    and_from (not (k && is_this_object e)) (list_all (λ d. not (k && is_this_object d)) es) (one k (is_this_object e) p.0) (all_apart k es p.1)
  where
    one : (a b : Bool) → not b ≡ true → not (a && b) ≡ true
    one false b h = refl
    one true b h = h

-- what is asked of a statement that is no return
asked_simple : (b : BodyTree) (s : StmtTree) (r : Bool) → is_simple s ≡ true → ready_asked b s r ≡ true → (r ≡ true) ⊎ (keeps_this s ≡ true)
asked_simple b (ReturnStmt p e) r simple h = absurd (false≢true simple)
asked_simple b s r simple h = or_cases r (keeps_this s) h

module _ (c : CoreTree) (f : Frame) (s : List Object) (is : IsGoodFrame c f s) where
  -- where `this` is ready it is like every other local
  whole_setting : (f.body.flags.ctor ≡ true → IsReady s (this_of f.locals)) → IsGoodSetting (scene c f s) (local_types f.body) false
  whole_setting this_ready = record {
    chain = is.sound.chain;
    beside = is.sound.beside;
    store = is.sound.store;
    entry = is.sound.entry;
    older = is.sound.older;
    count = is.sound.locals.count;
    types = is.sound.locals.types;
    ready = λ x v no_this ev. ⊎_elim
        (λ this.
        let p = and_parts f.body.flags.ctor (eqb x 0) this in
        let zero_ = eqb-true x 0 p.1 in
        let at : slice_get f.locals 0 ≡ Some v = subst (λ n. slice_get f.locals n ≡ Some v) zero_ ev in
        let same : this_of f.locals ≡ v = rw at refl in
        subst (IsReady s) same (this_ready p.0))
        (λ other. is.sound.locals.ready x v other ev)
        (cases_Bool (is_this_of_constructor f.body x));
  }

module _ (c : CoreTree) (f : Frame) (s : List Object) (st : StmtTree) (ds : List Due) (simple : is_simple st ≡ true) (at : f.left ≡ Statement st ∷ ds) (is : IsGoodFrame c f s) where
  pub before_assigned : IsBefore assigned_flow (assigned_check f.body) (AreAssigned f.body) st ds (scene c f s)
  before_assigned = known_simple assigned_flow (assigned_check f.body) (AreAssigned f.body) st ds (scene c f s) simple (subst (λ l. IsKnown assigned_flow (assigned_check f.body) (AreAssigned f.body) l (scene c f s)) at is.sound.assigned)

  pub before_known : IsBefore (known_flow c f.body) (null_check c f.body) (IsTrueOf f.body.flags.ctor) st ds (scene c f s)
  before_known = known_simple (known_flow c f.body) (null_check c f.body) (IsTrueOf f.body.flags.ctor) st ds (scene c f s) simple (subst (λ l. IsKnown (known_flow c f.body) (null_check c f.body) (IsTrueOf f.body.flags.ctor) l (scene c f s)) at is.sound.known)

  pub before_fields : IsBefore (known_flow c f.body) (fields_check c f.body) (IsTrueOf f.body.flags.ctor) st ds (scene c f s)
  before_fields = known_simple (known_flow c f.body) (fields_check c f.body) (IsTrueOf f.body.flags.ctor) st ds (scene c f s) simple (subst (λ l. IsKnown (known_flow c f.body) (fields_check c f.body) (IsTrueOf f.body.flags.ctor) l (scene c f s)) at is.fields)

  pub before_ready : IsBefore (ready_flow c) (ready_check f.body) (IsThisReady f.body.flags.ctor) st ds (scene c f s)
  before_ready = known_simple (ready_flow c) (ready_check f.body) (IsThisReady f.body.flags.ctor) st ds (scene c f s) simple (subst (λ l. IsKnown (ready_flow c) (ready_check f.body) (IsThisReady f.body.flags.ctor) l (scene c f s)) at is.ready)

  this_or : (f.body.flags.ctor ≡ true → IsReady s (this_of f.locals)) ⊎ (keeps_this st ≡ true)
  this_or = ⊎_elim
      (λ plain. inl (λ ctor. absurd (true≢false (sym ctor ∙ not_true f.body.flags.ctor plain))))
      (λ asked. ⊎_elim (λ ready. inl (λ ctor. before_ready.so ctor ready)) (λ keeps. inr keeps) (asked_simple f.body st before_ready.known simple asked))
      (or_cases (not f.body.flags.ctor) (ready_asked f.body st before_ready.known) before_ready.checked)

  pub may_pass : MayPass c f s (passed_on st)
  may_pass = ⊎_elim
      (λ ready. record { constructs = false; setting = whole_setting c f s is ready; apart = all_plain false (passed_on st) refl })
      (λ keeps. record { constructs = f.body.flags.ctor; setting = frame_setting c f s is.sound; apart = all_apart f.body.flags.ctor (passed_on st) (and_parts (not (enters_base st)) (list_all (λ e. not (is_this_object e)) (passed_on st)) keeps).1 })
      this_or

  -- a method of the class above gets a ready `this`
  pub base_setting : enters_base st ≡ true → IsGoodSetting (scene c f s) (local_types f.body) false
  base_setting enters = ⊎_elim
      (λ ready. whole_setting c f s is ready)
      (λ keeps. absurd (false≢true (sym (ap not enters) ∙ (and_parts (not (enters_base st)) (list_all (λ e. not (is_this_object e)) (passed_on st)) keeps).0)))
      this_or

  pub reads_evaluated : list_all (reads_assigned f.body before_assigned.known) (evaluated st) ≡ true
  reads_evaluated = (and_parts (list_all (reads_assigned f.body before_assigned.known) (evaluated st)) (list_all before_assigned.known (operands st)) before_assigned.checked).0

  -- the value of an expression that may stand where no null is wanted isn't null
  pub known_not_null : (k : Known) → IsTrueOf f.body.flags.ctor k (scene c f s) → (e : ExprTree) (t : Ty) (v : Value) → reads_assigned f.body before_assigned.known e ≡ true → has_type_in c.classes f.body e t ≡ true → is_never_null (site_of c f.body) k false e ≡ true → value_of e (scene c f s) ≡ Ok v → IsNotNull v
  known_not_null k so e t v reads_ typed never ev =
      let a = fitting_some c.classes (code_type c.classes f.body e) t typed in
      never_null f.body before_assigned.known k e (scene c f s) (frame_setting c f s is.sound) is.sound.was_ready before_assigned.so so false refl reads_ a.0 (code_typed c.classes f.body e a.0 a.1) never v ev

  pub stands_not_null : (e : ExprTree) (t : Ty) (v : Value) → reads_assigned f.body before_assigned.known e ≡ true → has_type_in c.classes f.body e t ≡ true → may_stand c f.body before_known.known e t ≡ true → value_of e (scene c f s) ≡ Ok v → is_non_null t ≡ true → IsNotNull v
  stands_not_null e t v reads_ typed stands ev nn = ⊎_elim
      (λ no_need. absurd (true≢false (sym nn ∙ not_true (is_non_null t) no_need)))
      (λ never. known_not_null before_known.known before_known.so e t v reads_ typed never ev)
      (or_cases (not (is_non_null t)) (is_never_null (site_of c f.body) before_known.known false e) stands)

  -- so it is of each argument
  pub arguments_not_null : (es : List ExprTree) (ts : List Ty) (vs : List Value) → list_all (reads_assigned f.body before_assigned.known) es ≡ true → have_types_in c.classes f.body es ts ≡ true → arguments_may_stand c f.body before_known.known es ts ≡ true → values_of es (scene c f s) ≡ Ok vs →
      (i : ℕ) (t : Ty) (v : Value) → slice_get ts i ≡ Some t → slice_get vs i ≡ Some v → is_non_null t ≡ true → IsNotNull v
  arguments_not_null [] [] vs reads_ typed stands h i t v et ev nn = absurd (let none : ⊥ = cc in none)
  arguments_not_null [] (u ∷ ts) vs reads_ typed stands h i t v et ev nn = absurd (false≢true typed)
  arguments_not_null (e ∷ es) [] vs reads_ typed stands h i t v et ev nn = absurd (false≢true typed)
  arguments_not_null (e ∷ es) (u ∷ ts) vs reads_ typed stands h i t v et ev nn =
      let a = and_then_ok (value_of e (scene c f s)) (λ w. and_then (values_of es (scene c f s)) (λ ws. Ok (w ∷ ws))) vs h in
      let b = and_then_ok (values_of es (scene c f s)) (λ ws. Ok (a.0 ∷ ws)) vs a.2 in
      let r = and_parts (reads_assigned f.body before_assigned.known e) (list_all (reads_assigned f.body before_assigned.known) es) reads_ in
      let p = and_parts (has_type_in c.classes f.body e u) (have_types_in c.classes f.body es ts) typed in
      let q = and_parts (may_stand c f.body before_known.known e u) (arguments_may_stand c f.body before_known.known es ts) stands in
      let same : a.0 ∷ b.0 ≡ vs = let e2 = b.2 in cc in
      here a.0 b.0 i et (subst (λ ws. slice_get ws i ≡ Some v) (sym same) ev) (λ uu. stands_not_null e u a.0 r.0 p.0 q.0 a.1 uu) (λ j ej wj. arguments_not_null es ts b.0 r.1 p.1 q.1 b.1 j t v ej wj nn)
    where
      here : (w : Value) (ws : List Value) (i : ℕ) → slice_get (u ∷ ts) i ≡ Some t → slice_get (w ∷ ws) i ≡ Some v → (is_non_null u ≡ true → IsNotNull w) → ((j : ℕ) → slice_get ts j ≡ Some t → slice_get ws j ≡ Some v → IsNotNull v) → IsNotNull v
      here w ws zero e1 e2 one more = let x : u ≡ t = cc in let y : w ≡ v = cc in subst IsNotNull y (one (subst (λ z. is_non_null z ≡ true) (sym x) nn))
      here w ws (suc i) e1 e2 one more = more i e1 e2
