-- No check of a run fails where the bodies of the program run safely.
use Rattle.std.proofs.Common.{◌≡◌, ℕ, zero, suc, ℤ, ◌<◌, List, [], ◌∷◌, ◌++◌, map, length, true, Option, Some, None, refl, sym, ◌∙◌, ap, subst}
use Rattle.std.specs.Prelude.{option_to_list}
use Rattle.std.specs.List.{list_all}
use Rattle.std.proofs.lemmas.Bool.{false≢true, and_parts, ltb-true}
use Rattle.ss_core.specs.Tree.{StmtTree, AssignStmt, WriteStmt, WriteElementStmt, NewStmt, NewArrayStmt, CallStmt, ReadyStmt, IfStmt, LoopStmt, UnpackStmt, PackStmt, AssertStmt, AssumeStmt, PrintStmt, PrintTextStmt, ReturnStmt, LocalTree, BodyTree, CoreTree}
use Rattle.ss_store_rules.specs.declared.Value.{Value}
use Rattle.ss_store_rules.specs.Store.{Object, default_value}
use Rattle.ss_store_rules.specs.Values.{setting, holds}
use Rattle.ss_store_rules.specs.Locals.{types_of, argument_types}
use Rattle.ss_store_rules.specs.Typed.{body_at}
use Rattle.ss_store_rules.specs.Admitted.{first_store, main_arguments, first_locals, takes_input, admits, admitted}
use Rattle.ss_store_rules.specs.Formed.{are_main_params, IsMain, IsFormed}
use Rattle.ss_machine_rules.specs.States.{Due, Statement, Test, ToCall, Frame, State, Running, Done, Failed, Stopped, Next, Goes, Over, Fails, Stops, locals_at_entry, frame_at_entry}
use Rattle.ss_machine_rules.specs.Steps as steps
use Rattle.ss_machine_rules.specs.Runs.{then_is, step, start_with, start, run}
use Rattle.ss_machine_rules.specs.Good.{IsUnfailed}
use Rattle.ss_machine_typed.specs.Inputs.{IsInput}
use Rattle.ss_machine_typed.proofs.First.{main_locals}
use Rattle.ss_machine_good.proofs.Start.{argument_not_null, static_arguments}
use Rattle.ss_machine_good.specs.Stacks.{IsGoodStack, HasGoodStack}
use Rattle.ss_machine_good.proofs.Entering.{first_get}
use Rattle.ss_machine_good.proofs.Runs.{step_good, start_stack, run_stack}
use Rattle.ss_logic.specs.Values.{Table}
use Rattle.ss_sound_outcomes.specs.Points.{Fits, ArePassed}
use Rattle.ss_sound_outcomes.specs.Outcomes.{AllRunSafely}
use Rattle.ss_sound_runs.specs.Frames.{activation_of, point_of}
use Rattle.ss_sound_runs.proofs.Grown.{grown_self, grown_step}
use Rattle.ss_sound_runs.proofs.Points.{sound_point}
use Rattle.ss_sound_runs.proofs.Later.{step_later}
use Rattle.ss_sound_runs.proofs.Passed.{passed_at_entry}
use Rattle.ss_sound_runs.specs.Stacks.{LeftSafely, Stands, AllWaitSafely, IsSafeStack, HasSafeStack, StepsSafely}
use Rattle.ss_sound_runs.proofs.Left.{left_all}
use Rattle.ss_sound_runs.proofs.Steps.{fitting_table, ActsSafely, stays_steps, test_steps}
use Rattle.ss_sound_runs.proofs.Returns.{return_steps}
use Rattle.ss_sound_runs.proofs.Calls.{call_steps, new_steps}

main_count : (params : List LocalTree) → are_main_params params ≡ true → length (main_arguments params) ≡ length (types_of params)
main_count [] h = refl
main_count (l ∷ []) h = refl
main_count (l ∷ m ∷ ls) h = absurd (false≢true h)

-- the arguments of Main are passed to it
main_passed : (c : CoreTree) (input : List ℤ) (b : BodyTree) → IsMain b → ArePassed c b (first_store input) (main_arguments b.params)
main_passed c input b main =
    let good = main_locals c.classes input b main in
    let are = static_arguments b main.static in
    let others = types_of b.locals in
    let result = option_to_list b.result in
    record {
      good = record {
        count = main_count b.params main.params ∙ ap length (sym are);
        types = λ x t v et ev. good.types x t v (first_get (argument_types b ++ others) result x t (first_get (argument_types b) others x t et)) (first_get (main_arguments b.params) (map default_value (others ++ result)) x v ev);
        ready = λ x v no ev. good.ready x v no (first_get (main_arguments b.params) (map default_value (others ++ result)) x v ev);
      };
      assigned = λ x arg typed. argument_not_null b.params _ x main.params (subst (λ ts. x < length ts) are (ltb-true x (length (argument_types b)) arg));
    }

-- where the input is admitted, its conditions at entry hold
main_enters : (c : CoreTree) (input : List ℤ) (o : Option BodyTree) (b : BodyTree) → o ≡ Some b → admits c input o ≡ true → steps.all_hold b.entry (setting c.classes (first_store input) (first_store input) (first_locals b)) ≡ true
main_enters c input None b is h = absurd (let none : ⊥ = cc in none)
main_enters c input (Some k) b is h =
    let same : k ≡ b = cc in
    subst (λ (q : BodyTree). steps.all_hold q.entry (setting c.classes (first_store input) (first_store input) (first_locals q)) ≡ true) same
    (and_parts (takes_input k.params input) (list_all (λ e. holds e (setting c.classes (first_store input) (first_store input) (first_locals k))) k.entry) h).1

module _ (c : CoreTree) (formed : IsFormed c) (runs : AllRunSafely c) where
  -- ---- steps

  module _ (f : Frame) (fs : List Frame) (s : List Object) (good : IsGoodStack c (f ∷ fs) s) (arguments : List Value) (stands : Stands f arguments s) (waits : AllWaitSafely c f.body f.into f.entry arguments s fs) where
    act_steps : (st : StmtTree) (ds : List Due) → f.left ≡ Statement st ∷ ds → ActsSafely c formed f fs s good arguments stands waits st ds → StepsSafely c fs s (steps.act c st (record f { left = ds }) fs s)
    act_steps (NewStmt p x t es) ds at h = new_steps c formed runs f fs s good arguments stands waits p x t es ds at h
    act_steps (CallStmt p x callee es) ds at h = call_steps c formed runs f fs s good arguments stands waits p x callee es ds at h
    act_steps (ReturnStmt p e) ds at h = return_steps c formed f fs s good arguments stands waits p e ds at h
    act_steps (AssignStmt p x e) ds at h = stays_steps c formed f fs s good arguments stands waits (AssignStmt p x e) ds tt at h
    act_steps (WriteStmt p o g m t e) ds at h = stays_steps c formed f fs s good arguments stands waits (WriteStmt p o g m t e) ds tt at h
    act_steps (WriteElementStmt p a i e) ds at h = stays_steps c formed f fs s good arguments stands waits (WriteElementStmt p a i e) ds tt at h
    act_steps (NewArrayStmt p x t e) ds at h = stays_steps c formed f fs s good arguments stands waits (NewArrayStmt p x t e) ds tt at h
    act_steps (ReadyStmt p) ds at h = stays_steps c formed f fs s good arguments stands waits (ReadyStmt p) ds tt at h
    act_steps (IfStmt p e one other) ds at h = stays_steps c formed f fs s good arguments stands waits (IfStmt p e one other) ds tt at h
    act_steps (LoopStmt p asked prelude e body exposes) ds at h = stays_steps c formed f fs s good arguments stands waits (LoopStmt p asked prelude e body exposes) ds tt at h
    act_steps (UnpackStmt p x t) ds at h = stays_steps c formed f fs s good arguments stands waits (UnpackStmt p x t) ds tt at h
    act_steps (PackStmt p x t) ds at h = stays_steps c formed f fs s good arguments stands waits (PackStmt p x t) ds tt at h
    act_steps (AssertStmt p e) ds at h = stays_steps c formed f fs s good arguments stands waits (AssertStmt p e) ds tt at h
    act_steps (AssumeStmt p e) ds at h = stays_steps c formed f fs s good arguments stands waits (AssumeStmt p e) ds tt at h
    act_steps (PrintStmt p e newline) ds at h = stays_steps c formed f fs s good arguments stands waits (PrintStmt p e newline) ds tt at h
    act_steps (PrintTextStmt p text newline) ds at h = stays_steps c formed f fs s good arguments stands waits (PrintTextStmt p text newline) ds tt at h

    first_steps : (l : List Due) → f.left ≡ l → ((t : Table) → Fits c.classes t s → LeftSafely (activation_of c f t) l (point_of f s)) → StepsSafely c fs s (steps.act_first c l f fs s)
    first_steps [] at h = let table = fitting_table c f fs s good in absurd (h table.0 table.1)
    first_steps (Statement st ∷ ds) at h = act_steps st ds at h
    first_steps (Test e body loop ∷ ds) at h = test_steps c formed f fs s good arguments stands waits e body loop ds h

  -- what a step leads to
  then_safe : (f : Frame) (fs : List Frame) (s : List Object) (before : List ℕ) → IsGoodStack c (f ∷ fs) s → (n : Next) → steps.next c (f ∷ fs) s ≡ n → HasGoodStack c (then_is s before n) → StepsSafely c fs s n → HasSafeStack c (then_is s before n)
  then_safe f fs s before is (Goes gs z piece) e good h = h good (grown_step c (f ∷ fs) s gs z piece e) (step_later c formed (f ∷ fs) s is gs z piece e).1
  then_safe f fs s before is (Over z) e good h = tt
  then_safe f fs s before is (Fails k at) e good h = h
  then_safe f fs s before is (Stops at) e good h = tt

  running_safe : (fs : List Frame) (s : List Object) (before : List ℕ) → IsGoodStack c fs s → IsSafeStack c fs s → HasSafeStack c (step c (Running fs s before))
  running_safe [] s before good h = tt
  running_safe (f ∷ fs) s before good h =
      then_safe f fs s before good (steps.next c (f ∷ fs) s) refl (step_good c formed (Running (f ∷ fs) s before) good) (first_steps f fs s good h.0 h.1 h.3 f.left refl h.2)

  step_safe : (r : State) → HasGoodStack c r → HasSafeStack c r → HasSafeStack c (step c r)
  step_safe (Running fs s before) good h = running_safe fs s before good h
  step_safe (Done s before) good h = tt
  step_safe (Failed k at before) good h = h
  step_safe (Stopped at s before) good h = tt

  -- ---- state 0

  start_safe : (input : List ℤ) → IsInput input → admitted c input ≡ true → HasSafeStack c (start c input)
  start_safe input is asked =
      let b = formed.main.0 in
      let s = first_store input in
      let vs = main_arguments b.params in
      let g = frame_at_entry b (locals_at_entry b vs) s (ToCall None) in
      let passed = main_passed c input b formed.main.2 in
      let enters = main_enters c input (body_at c c.main) b formed.main.1 asked in
      let good : HasGoodStack c (start_with input (Some b)) = subst (λ o. HasGoodStack c (start_with input o)) formed.main.1 (start_stack c formed input is) in
      subst (λ o. HasSafeStack c (start_with input o)) (sym formed.main.1) (
        vs,
        record { grown = grown_self s; has = passed_at_entry b vs passed.good.count },
        λ t fits. left_all (activation_of c g t) b.code (point_of g s) (runs c.main b formed.main.1 t s vs passed (sound_point c g s t good.0 (grown_self s) fits) enters),
        tt,
      )

  run_safe : (input : List ℤ) → IsInput input → admitted c input ≡ true → (n : ℕ) → HasSafeStack c (run c input n)
  run_safe input is asked zero = start_safe input is asked
  run_safe input is asked (suc n) = step_safe (run c input n) (run_stack c formed input is n) (run_safe input is asked n)

  safe_unfailed : (r : State) → HasSafeStack c r → IsUnfailed r
  safe_unfailed (Running fs s before) h = tt
  safe_unfailed (Done s before) h = tt
  safe_unfailed (Failed k at before) h = h
  safe_unfailed (Stopped at s before) h = tt

  pub never_fails : (input : List ℤ) → IsInput input → admitted c input ≡ true → (n : ℕ) → IsUnfailed (run c input n)
  never_fails input is asked n = safe_unfailed (run c input n) (run_safe input is asked n)
