-- How a run ends.
use Rattle.std.specs.Prelude.{◌≡◌, ℕ, ℤ, ◌<◌, ◌≤◌, List}
use Rattle.ss_core.specs.declared.names.Kind.{Kind}
use Rattle.ss_core.specs.declared.names.Place.{Place}
use Rattle.ss_core.specs.Tree.{CoreTree}
use Rattle.ss_store_rules.specs.Store.{Object}
use Rattle.ss_machine_rules.specs.States.{State, Running, Done, Failed, Stopped}
use Rattle.ss_machine_rules.specs.Runs.{run, printed}

abbrev pub IsRunning : State → Type 0
IsRunning (Running fs s before) = Unit {0}
IsRunning (Done s before) = ⊥
IsRunning (Failed k at before) = ⊥
IsRunning (Stopped at s before) = ⊥

-- the run is done, with some store, and has printed this
abbrev pub IsDoneWith : List ℕ → State → Type 0
IsDoneWith text r = (s : List Object) × (r ≡ Done s text)

-- the run is done after k steps and no fewer, and so after n
pub record IsDoneAt (c : CoreTree) (input : List ℤ) (k n : ℕ) : Type 0 where
  pub within : k ≤ n
  pub least : (m : ℕ) → m < k → IsRunning (run c input m)
  pub done : IsDoneWith (printed c input n) (run c input k)
  pub stays : IsDoneWith (printed c input n) (run c input n)

-- after n steps the run has failed with this kind at this place
abbrev pub HasFailed : CoreTree → List ℤ → Kind → Place → ℕ → Type 0
HasFailed c input kind at n = run c input n ≡ Failed kind at (printed c input n)

-- after n steps the run has stopped at a false assumption, which is at this place
abbrev pub HasStopped : CoreTree → List ℤ → Place → ℕ → Type 0
HasStopped c input at n = (s : List Object) × (run c input n ≡ Stopped at s (printed c input n))
