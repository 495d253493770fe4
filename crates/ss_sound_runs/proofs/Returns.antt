-- A body that returns doesn't fail, and its caller goes on safely.
use Rattle.std.proofs.Common.{◌≡◌, ◌≢◌, ℕ, List, [], ◌∷◌, Bool, true, false, Option, Some, None, sym, ◌∙◌, ap, subst, arith}
use Rattle.std.specs.Prelude.{if◌then◌else◌, unwrap_or, is_some}
use Rattle.std.proofs.lemmas.Bool.{lt-ltb}
use Rattle.ss_core.specs.declared.names.Place.{Place}
use Rattle.ss_core.specs.declared.names.Kind.TheVariants as kind
use Rattle.ss_core.specs.Tree.{ExprTree, ReturnStmt, BodyTree, CoreTree}
use Rattle.ss_store_rules.specs.declared.Value.{Value}
use Rattle.ss_store_rules.specs.declared.Value.TheVariants as value
use Rattle.ss_store_rules.specs.Store.{Object}
use Rattle.ss_store_rules.specs.Values.{setting}
use Rattle.ss_store_rules.specs.Good.{IsReady}
use Rattle.ss_store_rules.specs.Locals.{argument_count, result_number}
use Rattle.ss_store_rules.specs.Formed.{IsFormed}
use Rattle.ss_machine_rules.specs.Frame.{this_of, is_kept}
use Rattle.ss_machine_rules.specs.States.{Due, Statement, Target, ToCall, ToNew, Frame, put, scene, span}
use Rattle.ss_machine_rules.specs.Steps as steps
use Rattle.ss_machine_rules.specs.Steps.{result_local}
use Rattle.ss_machine_good.proofs.Frames.{some_argument}
use Rattle.ss_machine_good.specs.LaterFrames.{HasGiven, IsToNew, IsGoodFrame, constructed, kept_in, IsAnswer}
use Rattle.ss_machine_good.proofs.Behind.{constructor_instance, put_this}
use Rattle.ss_machine_good.specs.Stacks.{IsGoodStack}
use Rattle.ss_machine_good.proofs.CallsOfRuns.{constructs_this}
use Rattle.ss_logic.specs.Values.{Table}
use Rattle.ss_sound_outcomes.specs.Points.{Fits}
use Rattle.ss_sound_outcomes.specs.Outcomes.{IsReturn, Safely}
use Rattle.ss_sound_runs.specs.Frames.{activation_of, point_of}
use Rattle.ss_sound_runs.proofs.Grown.{grown_trans}
use Rattle.ss_sound_runs.proofs.Tables.{fits_before}
use Rattle.ss_sound_runs.proofs.Points.{sound_point}
use Rattle.ss_sound_runs.proofs.Answers.{answered}
use Rattle.ss_sound_runs.specs.Served.{HasArguments}
use Rattle.ss_sound_runs.proofs.Exits.{exits_read}
use Rattle.ss_sound_runs.proofs.Passed.{passed_on}
use Rattle.ss_sound_runs.proofs.Spans.{frames_read}
use Rattle.ss_sound_runs.specs.Stacks.{LeftSafely, Stands, WaitsSafely, AllWaitSafely, StepsSafely}
use Rattle.ss_sound_runs.proofs.Steps.{fitting_table, all_wait_on, value_steps, holds_steps}

-- the result isn't kept where `this` is
result_apart : (b : BodyTree) → b.flags.is_static ≡ false → (y : ℕ) → result_local b ≡ Some y → y ≢ 0
result_apart b instance_ y is zero_ =
    let number = result_is (is_some b.result) is in
    let one = some_argument b instance_ in
    absurd (omega (arith, number, one, zero_))
  where
    result_is : (k : Bool) → (if k then Some (result_number b) else None) ≡ Some y → result_number b ≡ y
    result_is true e = cc
    result_is false e = absurd (let none : ⊥ = cc in none)

-- where there is a `this`, it is the first argument
pub this_is : (b : BodyTree) (arguments locals : List Value) → HasArguments b arguments locals → b.flags.is_static ≡ false → this_of locals ≡ this_of arguments
this_is b arguments locals has instance_ =
    let one = some_argument b instance_ in
    ap (λ o. unwrap_or o value.Null) (has.same 0 (lt-ltb 0 (argument_count b) (omega (arith, one))))

-- what it answers, with its first argument in place of what it constructs
answer_at : (c : CoreTree) (f : Frame) (x : Option ℕ) (this : Value) (s : List Object) (v : Value) → (f.body.flags.ctor ≡ true → constructed f ≡ this) → IsAnswer c f.body (ToCall x) (constructed f) s v → IsAnswer c f.body (ToCall x) this s v
answer_at c f x this s v same answer = record {
  types = answer.types;
  ready = answer.ready;
  non_null = answer.non_null;
  fields = λ ctor g own. subst (λ u. HasGiven c s u g) (same ctor) (answer.fields ctor g own);
  whole = λ ctor undelayed. subst (λ u. IsReady s u) (same ctor) (answer.whole ctor undelayed);
}

module _ (c : CoreTree) (formed : IsFormed c) where
  -- the caller goes on from a return that the contract allows
  back_steps : (b : BodyTree) (entry : List Object) (arguments : List Value) (s : List Object) (v this : Value) (caller : Frame) (callers : List Frame) (its : List Value) → Stands caller its s → AllWaitSafely c caller.body caller.into caller.entry its s callers →
      (into : Target) → WaitsSafely c b into entry arguments caller s → ((t : Table) → IsReturn (activation_of c caller t) b (ToCall (kept_in into)) arguments entry s v) → (IsToNew into → this ≡ this_of arguments) →
      StepsSafely c (caller ∷ callers) s (steps.back into v this caller callers s)
  back_steps b entry arguments s v this caller callers its stands waits (ToCall x) wait returns same = λ is grown later. (
    its,
    record { grown = stands.grown; has = passed_on caller.body its caller.locals x v wait.target stands.has },
    λ t fits. wait.goes_on t s v fits (returns t) (sound_point c (steps.with_local x v caller) s t is.0 stands.grown fits),
    all_wait_on c s s grown caller.body caller.into caller.entry its callers later.1 waits,
  )
  back_steps b entry arguments s v this caller callers its stands waits (ToNew x) wait returns same =
      subst (λ u. StepsSafely c (caller ∷ callers) s (steps.back (ToNew x) v u caller callers s)) (sym (same tt)) (λ is grown later.
      let z = steps.with_ready s (this_of arguments) in
      let on = grown_trans caller.entry s z stands.grown grown in (
        its,
        record { grown = on; has = passed_on caller.body its caller.locals x (this_of arguments) wait.target stands.has },
        λ t fits. wait.goes_on t s v (fits_before c.classes t s z grown fits) (returns t) (sound_point c (steps.with_local x (this_of arguments) caller) z t is.0 on fits),
        all_wait_on c s z grown caller.body caller.into caller.entry its callers later.1 waits,
      ))

  module _ (f : Frame) (s : List Object) (good : IsGoodFrame c f s) (arguments : List Value) (stands : Stands f arguments s) (v : Value) (answer : (x : Option ℕ) → IsAnswer c f.body (ToCall x) (constructed f) s v)
      (exit_holds : steps.all_hold f.body.exit (setting c.classes s f.entry (put (result_local f.body) v f.locals)) ≡ true)
      (frame_holds : is_kept (record { classes = c.classes; body = f.body; locals = put (result_local f.body) v f.locals; entry = f.entry; now = s; outside = [] }) ≡ true) where
    instance_of : f.body.flags.ctor ≡ true → f.body.flags.is_static ≡ false
    instance_of ctor = constructor_instance f.body good.sound.flags ctor

    built : f.body.flags.ctor ≡ true → constructed f ≡ this_of arguments
    built ctor = constructs_this f ctor ∙ this_is f.body arguments f.locals stands.has (instance_of ctor)

    returned_new : IsToNew f.into → this_of (put (result_local f.body) v f.locals) ≡ this_of arguments
    returned_new new_ =
        let instance_ = instance_of (good.new new_) in
        put_this f.locals (result_local f.body) v (result_apart f.body instance_) ∙ this_is f.body arguments f.locals stands.has instance_

    return_is : (caller : Frame) (x : Option ℕ) → WaitsSafely c f.body f.into f.entry arguments caller s → (t : Table) → IsReturn (activation_of c caller t) f.body (ToCall x) arguments f.entry s v
    return_is caller x wait t = record {
      good = good.sound.store;
      grown = stands.grown;
      later = wait.later;
      kept = sym (frames_read c f.body good.formed f.entry s [] arguments f.locals v stands.has) ∙ frame_holds;
      exit = sym (exits_read c f.body good.formed f.entry s arguments f.locals v stands.has) ∙ exit_holds;
      answer = answer_at c f x (this_of arguments) s v built (answer x);
    }

    leave_steps : (fs : List Frame) → AllWaitSafely c f.body f.into f.entry arguments s fs → (ds : List Due) → StepsSafely c fs s (steps.leave v (steps.with_local (result_local f.body) v (record f { left = ds })) fs s)
    leave_steps [] waits ds = tt
    leave_steps (caller ∷ callers) waits ds =
        back_steps f.body f.entry arguments s v (this_of (put (result_local f.body) v f.locals)) caller callers waits.0 waits.1 waits.3 f.into waits.2 (return_is caller (kept_in f.into) waits.2) returned_new

  pub return_steps : (f : Frame) (fs : List Frame) (s : List Object) (good : IsGoodStack c (f ∷ fs) s) (arguments : List Value) (stands : Stands f arguments s) → AllWaitSafely c f.body f.into f.entry arguments s fs →
      (p : Place) (e : Option ExprTree) (ds : List Due) → f.left ≡ Statement (ReturnStmt p e) ∷ ds →
      ((t : Table) → Fits c.classes t s → Safely (activation_of c f t) (ReturnStmt p e) (point_of f s) (λ q. LeftSafely (activation_of c f t) ds q)) →
      StepsSafely c fs s (steps.act c (ReturnStmt p e) (record f { left = ds }) fs s)
  return_steps f fs s good arguments stands waits p e ds at h =
      let table = fitting_table c f fs s good in
      value_steps c fs s table.0 table.1 (steps.result_value e (scene c f s)) _ _ h (λ v ev eq next.
      let checks = next table.0 table.1 in
      let g = steps.with_local (result_local f.body) v (record f { left = ds }) in
      let left = steps.leave v g fs s in
      let frame = steps.where_holds (is_kept (span c g s [])) kind.Frame p left in
      holds_steps c fs s (steps.all_hold f.body.exit (scene c g s)) kind.Postcondition p frame checks.0
      (holds_steps c fs s (is_kept (span c g s [])) kind.Frame p left checks.1
      (leave_steps f s good.0 arguments stands v (λ x. answered c formed f s ds good.0 p e at v ev x) checks.0 checks.1 fs waits ds)))
