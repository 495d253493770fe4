-- A step within a frame that goes on safely doesn't fail, and the frame goes on safely after it.
use Rattle.std.proofs.Common.{◌≡◌, ℕ, List, [], ◌∷◌, ◌++◌, map, length, Bool, true, false, Option, Some, None, Ok, Err, refl, ◌∙◌, ap, subst}
use Rattle.std.specs.Prelude.{if◌then◌else◌, Result}
use Rattle.std.proofs.lemmas.Bool.{false≢true, and_parts}
use Rattle.ss_core.specs.declared.names.Place.{Place}
use Rattle.ss_core.specs.declared.names.Kind.{Kind}
use Rattle.ss_core.specs.declared.names.Kind.TheVariants as kind
use Rattle.ss_core.specs.Tree.{ExprTree, StmtTree, AssignStmt, WriteStmt, WriteElementStmt, NewStmt, NewArrayStmt, CallStmt, ReadyStmt, IfStmt, LoopStmt, UnpackStmt, PackStmt, AssertStmt, AssumeStmt, PrintStmt, PrintTextStmt, ReturnStmt, CodeTree, BodyTree, CoreTree}
use Rattle.ss_store_rules.specs.declared.Value.{Value}
use Rattle.ss_store_rules.specs.declared.Value.TheVariants as value
use Rattle.ss_store_rules.specs.declared.Undefined.{Undefined}
use Rattle.ss_store_rules.specs.Store.{Object}
use Rattle.ss_store_rules.specs.Numbers.{Outcome}
use Rattle.ss_store_rules.specs.Reads.{as_int, as_bool}
use Rattle.ss_store_rules.specs.Values.{local_value, value_of, holds}
use Rattle.ss_store_rules.specs.Changes.{unpack_of, pack_of, write_of, write_element_of, new_array_of}
use Rattle.ss_store_rules.specs.Admissible.{invariants_hold}
use Rattle.ss_store_rules.specs.Locals.{is_variable, is_kept_among, each_inside, targets_only}
use Rattle.ss_store_rules.specs.Formed.{IsFormed}
use Rattle.ss_machine_rules.specs.Frame.{this_of, is_kept}
use Rattle.ss_machine_rules.specs.States.{Due, Statement, Test, dues, Target, Frame, Next, Goes, Stops, put, scene, span}
use Rattle.ss_machine_rules.specs.Steps as steps
use Rattle.ss_machine_good.specs.Flows.{is_simple}
use Rattle.ss_machine_good.specs.Frames.{all_left}
use Rattle.ss_machine_good.proofs.Later.{later_trans}
use Rattle.ss_machine_good.specs.LaterFrames.{IsGoodFrame, entry_size}
use Rattle.ss_machine_good.specs.Stacks.{IsGoodStack}
use Rattle.ss_logic.specs.Values.{Table}
use Rattle.ss_sound_outcomes.specs.Points.{HasGrown, Fits, IsSound, IsAfter}
use Rattle.ss_sound_outcomes.specs.Outcomes.{Has, GoesOn, with_local, with_store, Changes, HoldsAtHead, head_of, Safely, AllSafely}
use Rattle.ss_sound_runs.specs.Frames.{activation_of, point_of, AreLater}
use Rattle.ss_sound_runs.proofs.Grown.{grown_trans}
use Rattle.ss_sound_runs.proofs.Tables.{fits_before, good_table}
use Rattle.ss_sound_runs.proofs.Points.{sound_point}
use Rattle.ss_sound_runs.proofs.Statements.{statement_after}
use Rattle.ss_sound_runs.specs.Served.{HasArguments}
use Rattle.ss_sound_runs.proofs.Passed.{passed_on}
use Rattle.ss_sound_runs.specs.Stacks.{TestedSafely, LeftSafely, Stands, AllWaitSafely, StepsSafely}
use Rattle.ss_sound_runs.proofs.Outcomes.{turns_safely}
use Rattle.ss_sound_runs.proofs.Left.{left_before, left_between}

-- ---- frames that wait, in a later store

pub all_wait_on : (c : CoreTree) (s z : List Object) → HasGrown s z → (b : BodyTree) (into : Target) (entry : List Object) (arguments : List Value) (fs : List Frame) → AreLater c.classes s z fs → AllWaitSafely c b into entry arguments s fs → AllWaitSafely c b into entry arguments z fs
all_wait_on c s z grown b into entry arguments [] later waits = tt
all_wait_on c s z grown b into entry arguments (f ∷ fs) later waits = (
  waits.0,
  record { grown = grown_trans f.entry s z waits.1.grown grown; has = waits.1.has },
  record { later = later_trans c.classes (entry_size f) entry s z waits.2.later later.0; target = waits.2.target; goes_on = waits.2.goes_on },
  all_wait_on c s z grown f.body f.into f.entry waits.0 fs later.1 waits.3,
)

-- ---- parts of a step

-- where each table that fits the store says that there is a value, the step goes on with it
module _ (c : CoreTree) (fs : List Frame) (s : List Object) (first : Table) (first_fits : Fits c.classes first s) where
  pub value_steps : (r : Outcome) (k : Value → Next) (P : Table → Value → Type 0) → ((t : Table) → Fits c.classes t s → Has r (P t)) →
      ((v : Value) → r ≡ Ok v → steps.with_value r k ≡ k v → ((t : Table) → Fits c.classes t s → P t v) → StepsSafely c fs s (k v)) → StepsSafely c fs s (steps.with_value r k)
  value_steps (Ok v) k P h next = next v refl refl h
  value_steps (Err u) k P h next = absurd (h first first_fits)

  pub values_steps : (r : Result (List Value) Undefined) (k : List Value → Next) (P : Table → List Value → Type 0) → ((t : Table) → Fits c.classes t s → Has r (P t)) →
      ((vs : List Value) → r ≡ Ok vs → ((t : Table) → Fits c.classes t s → P t vs) → StepsSafely c fs s (k vs)) → StepsSafely c fs s (steps.with_values r k)
  values_steps (Ok vs) k P h next = next vs refl h
  values_steps (Err u) k P h next = absurd (h first first_fits)

pub holds_steps : (c : CoreTree) (fs : List Frame) (s : List Object) (b : Bool) (k : Kind) (at : Place) (n : Next) → b ≡ true → StepsSafely c fs s n → StepsSafely c fs s (steps.where_holds b k at n)
holds_steps c fs s true k at n is h = h
holds_steps c fs s false k at n is h = absurd (false≢true is)

-- a table fits the store of a good stack
pub fitting_table : (c : CoreTree) (f : Frame) (fs : List Frame) (s : List Object) → IsGoodStack c (f ∷ fs) s → (t : Table) × Fits c.classes t s
fitting_table c f fs s good = good_table c s good.0.sound.store

-- what a statement of a good frame assigns is no argument
pub targets_here : (c : CoreTree) (f : Frame) (s : List Object) → IsGoodFrame c f s → (st : StmtTree) (ds : List Due) → f.left ≡ Statement st ∷ ds → each_inside (targets_only (is_variable f.body)) st ≡ true
targets_here c f s good st ds at =
    (and_parts (each_inside (targets_only (is_variable f.body)) st) (all_left (targets_only (is_variable f.body)) (λ e. true) ds)
    (subst (λ l. all_left (targets_only (is_variable f.body)) (λ e. true) l ≡ true) at good.sound.targets)).0

-- ---- one step within a frame

module _ (c : CoreTree) (formed : IsFormed c) (f : Frame) (fs : List Frame) (s : List Object) (good : IsGoodStack c (f ∷ fs) s) (arguments : List Value) (stands : Stands f arguments s)
    (waits : AllWaitSafely c f.body f.into f.entry arguments s fs) where
  some_table : (t : Table) × Fits c.classes t s
  some_table = fitting_table c f fs s good

  pub moved : (left : List Due) (locals : List Value) (z : List Object) (piece : List ℕ) → HasArguments f.body arguments locals →
      ((t : Table) → Fits c.classes t s → IsSound (activation_of c f t) (record { locals = locals; store = z }) → LeftSafely (activation_of c f t) left (record { locals = locals; store = z })) →
      StepsSafely c fs s (Goes (record f { locals = locals; left = left } ∷ fs) z piece)
  moved left locals z piece has next = λ is grown later.
      let g : Frame = record f { locals = locals; left = left } in
      let on = grown_trans f.entry s z stands.grown grown in (
        arguments,
        record { grown = on; has = has },
        λ t fits. next t (fits_before c.classes t s z grown fits) (sound_point c g z t is.0 on fits),
        all_wait_on c s z grown f.body f.into f.entry arguments fs later waits,
      )

  after_then : (st : StmtTree) (ds : List Due) → is_simple st ≡ true → f.left ≡ Statement st ∷ ds → (g : Frame) (z : List Object) (piece : List ℕ) → steps.act c st (record f { left = ds }) fs s ≡ Goes (g ∷ fs) z piece →
      (t : Table) → IsAfter (activation_of c f t) st (point_of f s) (point_of g z)
  after_then st ds simple at g z piece e t = statement_after c formed f s ds good.0 st simple at fs g z piece (ap (λ l. steps.act_first c l f fs s) at ∙ e) t

  change_steps : (st : StmtTree) (ds : List Due) → is_simple st ≡ true → f.left ≡ Statement st ∷ ds → (r : Result (List Object) Kind) (p : Place) →
      ((t : Table) → Fits c.classes t s → Changes (activation_of c f t) st (λ q. LeftSafely (activation_of c f t) ds q) (point_of f s) r) →
      steps.act c st (record f { left = ds }) fs s ≡ steps.changes r p (record f { left = ds }) fs → StepsSafely c fs s (steps.changes r p (record f { left = ds }) fs)
  change_steps st ds simple at (Ok z) p h e = moved ds f.locals z [] stands.has (λ t fits sound. h t fits sound (after_then st ds simple at (record f { left = ds }) z [] e t))
  change_steps st ds simple at (Err k) p h e = absurd (h some_table.0 some_table.1)

  array_steps : (st : StmtTree) (ds : List Due) → is_simple st ≡ true → f.left ≡ Statement st ∷ ds → (x : Option ℕ) → is_kept_among (is_variable f.body) x ≡ true → (r : Result (List Object) Kind) (p : Place) →
      ((t : Table) → Fits c.classes t s → Has r (λ z. GoesOn (activation_of c f t) st (λ q. LeftSafely (activation_of c f t) ds q) (point_of f s) (with_local x (value.Obj (length s)) (with_store z (point_of f s))))) →
      steps.act c st (record f { left = ds }) fs s ≡ steps.made_array r (length s) p x (record f { left = ds }) fs → StepsSafely c fs s (steps.made_array r (length s) p x (record f { left = ds }) fs)
  array_steps st ds simple at x target (Ok z) p h e =
      moved ds (put x (value.Obj (length s)) f.locals) z [] (passed_on f.body arguments f.locals x (value.Obj (length s)) target stands.has)
      (λ t fits sound. h t fits sound (after_then st ds simple at (steps.with_local x (value.Obj (length s)) (record f { left = ds })) z [] e t))
  array_steps st ds simple at x target (Err k) p h e = absurd (h some_table.0 some_table.1)

  branch_steps : (ds : List Due) (one other : CodeTree) (b : Bool) →
      ((t : Table) → Fits c.classes t s → (b ≡ true → AllSafely (activation_of c f t) one (point_of f s) (λ q. LeftSafely (activation_of c f t) ds q)) × (b ≡ false → AllSafely (activation_of c f t) other (point_of f s) (λ q. LeftSafely (activation_of c f t) ds q))) →
      StepsSafely c fs s (steps.goes (steps.go_into (dues (if b then one else other)) (record f { left = ds })) fs s)
  branch_steps ds one other true h = moved (dues one ++ ds) f.locals s [] stands.has (λ t fits sound. left_before (activation_of c f t) one ds (point_of f s) ((h t fits).0 refl))
  branch_steps ds one other false h = moved (dues other ++ ds) f.locals s [] stands.has (λ t fits sound. left_before (activation_of c f t) other ds (point_of f s) ((h t fits).1 refl))

  assume_steps : (b : Bool) (p : Place) (n : Next) → (b ≡ true → StepsSafely c fs s n) → StepsSafely c fs s (if b then n else Stops p)
  assume_steps true p n h = h refl
  assume_steps false p n h = tt

  -- nothing changes
  quiet : (ds : List Due) (piece : List ℕ) → ((t : Table) → Fits c.classes t s → LeftSafely (activation_of c f t) ds (point_of f s)) → StepsSafely c fs s (Goes (record f { left = ds } ∷ fs) s piece)
  quiet ds piece h = moved ds f.locals s piece stands.has (λ t fits sound. h t fits)

  -- the statement goes on safely, and then what is left
  abbrev pub ActsSafely : StmtTree → List Due → Type 0
  ActsSafely st ds = (t : Table) → Fits c.classes t s → Safely (activation_of c f t) st (point_of f s) (λ q. LeftSafely (activation_of c f t) ds q)

  -- what stands alone in a frame: it enters no body and leaves none
  abbrev pub StaysInFrame : StmtTree → Type 0
  StaysInFrame (NewStmt p x t es) = ⊥
  StaysInFrame (CallStmt p x callee es) = ⊥
  StaysInFrame (ReturnStmt p e) = ⊥
  StaysInFrame st = Unit {0}

  pub stays_steps : (st : StmtTree) (ds : List Due) → StaysInFrame st → f.left ≡ Statement st ∷ ds → ActsSafely st ds → StepsSafely c fs s (steps.act c st (record f { left = ds }) fs s)
  stays_steps (AssignStmt p x e) ds stays at h =
      value_steps c fs s some_table.0 some_table.1 (value_of e (scene c f s)) _ _ h (λ v ev eq next.
      moved ds (put (Some x) v f.locals) s [] (passed_on f.body arguments f.locals (Some x) v (targets_here c f s good.0 (AssignStmt p x e) ds at) stands.has)
      (λ t fits sound. next t fits sound (after_then (AssignStmt p x e) ds refl at (steps.with_local (Some x) v (record f { left = ds })) s [] eq t)))
  stays_steps (WriteStmt p o g m k e) ds stays at h =
      value_steps c fs s some_table.0 some_table.1 (value_of o (scene c f s)) _ _ h (λ v ev eq1 h1.
      value_steps c fs s some_table.0 some_table.1 (value_of e (scene c f s)) _ _ h1 (λ w ew eq2 h2.
      change_steps (WriteStmt p o g m k e) ds refl at (write_of c.classes s v g w) p h2 (eq1 ∙ eq2)))
  stays_steps (WriteElementStmt p a i e) ds stays at h =
      value_steps c fs s some_table.0 some_table.1 (value_of a (scene c f s)) _ _ h (λ v ev eq1 h1.
      value_steps c fs s some_table.0 some_table.1 (value_of i (scene c f s)) _ _ h1 (λ n en eq2 h2.
      value_steps c fs s some_table.0 some_table.1 (value_of e (scene c f s)) _ _ h2 (λ w ew eq3 h3.
      change_steps (WriteElementStmt p a i e) ds refl at (write_element_of s v (as_int n) w) p h3 (eq1 ∙ (eq2 ∙ eq3)))))
  stays_steps (NewStmt p x t es) ds stays at h = absurd stays
  stays_steps (NewArrayStmt p x k e) ds stays at h =
      value_steps c fs s some_table.0 some_table.1 (value_of e (scene c f s)) _ _ h (λ n en eq h1.
      array_steps (NewArrayStmt p x k e) ds refl at x (targets_here c f s good.0 (NewArrayStmt p x k e) ds at) (new_array_of s k (as_int n)) p h1 eq)
  stays_steps (CallStmt p x callee es) ds stays at h = absurd stays
  stays_steps (ReadyStmt p) ds stays at h =
      moved ds f.locals (steps.with_ready s (this_of f.locals)) [] stands.has
      (λ t fits sound. h t fits sound (after_then (ReadyStmt p) ds refl at (record f { left = ds }) (steps.with_ready s (this_of f.locals)) [] refl t))
  stays_steps (IfStmt p e one other) ds stays at h =
      value_steps c fs s some_table.0 some_table.1 (value_of e (scene c f s)) _ _ h (λ v ev eq h1. branch_steps ds one other (as_bool v) h1)
  stays_steps (LoopStmt p asked prelude e body exposes) ds stays at h =
      let st = LoopStmt p asked prelude e body exposes in
      let f' : Frame = record f { left = ds } in
      let n = steps.goes (steps.go_into (dues prelude ++ Test e body st ∷ []) f') fs s in
      let head : HoldsAtHead (activation_of c f some_table.0) (head_of st asked exposes) (point_of f s) = (h some_table.0 some_table.1).0 in
      let level = steps.where_holds (steps.are_exposed c.classes s f' exposes) kind.LoopLevel p n in
      let frame = steps.where_holds (is_kept (span c f' s (map (steps.held_by f') exposes))) kind.LoopFrame p level in
      holds_steps c fs s (steps.all_hold asked (scene c f' s)) kind.LoopInvariant p frame head.invariants
      (holds_steps c fs s (is_kept (span c f' s (map (steps.held_by f') exposes))) kind.LoopFrame p level head.kept
      (holds_steps c fs s (steps.are_exposed c.classes s f' exposes) kind.LoopLevel p n head.levels
      (moved ((dues prelude ++ Test e body st ∷ []) ++ ds) f.locals s [] stands.has (λ t fits sound.
      left_between (activation_of c f t) prelude (Test e body st) ds (point_of f s)
      (turns_safely (activation_of c f t) p asked prelude e body exposes (point_of f s) (λ q. LeftSafely (activation_of c f t) ds q) sound (h t fits))))))
  stays_steps (UnpackStmt p x k) ds stays at h = change_steps (UnpackStmt p x k) ds refl at (unpack_of c.classes s (local_value (scene c f s) x) k) p h refl
  stays_steps (PackStmt p x k) ds stays at h = change_steps (PackStmt p x k) ds refl at (pack_of c.classes (invariants_hold c.classes) s (local_value (scene c f s) x) k) p h refl
  stays_steps (AssertStmt p e) ds stays at h =
      holds_steps c fs s (holds e (scene c f s)) kind.Assert p (steps.goes (record f { left = ds }) fs s) (h some_table.0 some_table.1).0 (quiet ds [] (λ t fits. (h t fits).1))
  stays_steps (AssumeStmt p e) ds stays at h =
      assume_steps (holds e (scene c f s)) p (steps.goes (record f { left = ds }) fs s) (λ so. quiet ds [] (λ t fits. h t fits so))
  stays_steps (PrintStmt p None newline) ds stays at h = quiet ds (steps.line [] newline) h
  stays_steps (PrintStmt p (Some e) newline) ds stays at h =
      value_steps c fs s some_table.0 some_table.1 (value_of e (scene c f s)) _ _ h (λ v ev eq h1. quiet ds (steps.line (steps.text_of v) newline) h1)
  stays_steps (PrintTextStmt p text newline) ds stays at h = quiet ds (steps.line text newline) h
  stays_steps (ReturnStmt p e) ds stays at h = absurd stays

  -- the test of a loop
  loop_steps : (e : ExprTree) (body : CodeTree) (loop : StmtTree) (ds : List Due) (b : Bool) →
      ((t : Table) → Fits c.classes t s → (b ≡ true → AllSafely (activation_of c f t) body (point_of f s) (λ q. Safely (activation_of c f t) loop q (λ r. LeftSafely (activation_of c f t) ds r))) × (b ≡ false → LeftSafely (activation_of c f t) ds (point_of f s))) →
      StepsSafely c fs s (steps.goes (if b then steps.go_into (dues body ++ Statement loop ∷ []) (record f { left = ds }) else record f { left = ds }) fs s)
  loop_steps e body loop ds true h =
      moved ((dues body ++ Statement loop ∷ []) ++ ds) f.locals s [] stands.has (λ t fits sound. left_between (activation_of c f t) body (Statement loop) ds (point_of f s) ((h t fits).0 refl))
  loop_steps e body loop ds false h = quiet ds [] (λ t fits. (h t fits).1 refl)

  pub test_steps : (e : ExprTree) (body : CodeTree) (loop : StmtTree) (ds : List Due) →
      ((t : Table) → Fits c.classes t s → TestedSafely (activation_of c f t) e body loop (point_of f s) (λ q. LeftSafely (activation_of c f t) ds q)) → StepsSafely c fs s (steps.test c e body loop (record f { left = ds }) fs s)
  test_steps e body loop ds h = value_steps c fs s some_table.0 some_table.1 (value_of e (scene c f s)) _ _ h (λ v ev eq h1. loop_steps e body loop ds (as_bool v) h1)
