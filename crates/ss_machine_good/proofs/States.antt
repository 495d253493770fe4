-- In no state of a run does an expression of non-null type give null.
use Rattle.std.proofs.Common.{ℕ, ℤ, List, [], ◌∷◌, false, refl}
use Rattle.ss_core.specs.Tree.{CoreTree}
use Rattle.ss_store_rules.specs.Store.{Object}
use Rattle.ss_store_rules.specs.Formed.{IsFormed}
use Rattle.ss_machine_rules.specs.States.{Frame, State, Running, Done, Failed, Stopped, scene}
use Rattle.ss_machine_rules.specs.Runs.{run}
use Rattle.ss_machine_typed.specs.Inputs.{IsInput}
use Rattle.ss_machine_good.proofs.NonNull.{never_null}
use Rattle.ss_machine_good.proofs.Frames.{frame_setting}
use Rattle.ss_machine_good.specs.LaterFrames.{IsGoodFrame}
use Rattle.ss_machine_good.specs.Stacks.{HasGoodStack}
use Rattle.ss_machine_good.proofs.Runs.{run_stack}
use Rattle.ss_machine_good.specs.States.{IsNonNullFrame, IsNonNullState}
use Rattle.ss_machine_good.proofs.Followed.{IsFollowed}
use Rattle.ss_machine_good.proofs.NonNullRuns.{HasFollowed, run_followed}

module _ (c : CoreTree) where
  frame_non_null : (f : Frame) (s : List Object) → IsGoodFrame c f s → IsFollowed c f s → IsNonNullFrame c f s
  frame_non_null f s is followed = record {
    known = followed.known;
    assigned = followed.assigned;
    never_null = λ k xs so are e has v ev. never_null f.body xs k e (scene c f s) (frame_setting c f s is.sound) is.sound.was_ready are so false refl has.reads has.plain has.typed has.never v ev;
  }

  state_non_null : (r : State) → HasGoodStack c r → HasFollowed c r → IsNonNullState c r
  state_non_null (Running [] s before) is followed = tt
  state_non_null (Running (f ∷ fs) s before) is followed = frame_non_null f s is.0 followed.0
  state_non_null (Done s before) is followed = tt
  state_non_null (Failed k at before) is followed = tt
  state_non_null (Stopped at s before) is followed = tt

  pub run_non_null : IsFormed c → (input : List ℤ) → IsInput input → (n : ℕ) → IsNonNullState c (run c input n)
  run_non_null formed input is n = state_non_null (run c input n) (run_stack c formed input is n) (run_followed c formed input is n)
