-- Runs of the checked machine: the state after a number of steps, and what was printed.
use Rattle.std.specs.Prelude.{ℕ, zero, suc, ℤ, List, [], ◌∷◌, ◌++◌, Option, Some, None}
use Rattle.ss_core.specs.Tree.{BodyTree, CoreTree}
use Rattle.ss_store_rules.specs.Store.{Object}
use Rattle.ss_store_rules.specs.Admitted.{first_store, first_locals}
use Rattle.ss_store_rules.specs.Typed.{body_at}
use Rattle.ss_machine_rules.specs.States.{ToCall, State, Running, Done, Failed, Stopped, Next, Goes, Over, Fails, Stops, frame_at_entry}
use Rattle.ss_machine_rules.specs.Steps.{next}

-- the state after a step that did this, where there was this store and this was printed before
abbrev pub then_is : List Object → List ℕ → Next → State
then_is before_it before (Goes fs s piece) = Running fs s (before ++ piece)
then_is before_it before (Over s) = Done s before
then_is before_it before (Fails k at) = Failed k at before
then_is before_it before (Stops at) = Stopped at before_it before

-- one step; a state that isn't running stays
abbrev pub step : CoreTree → State → State
step c (Running fs s before) = then_is s before (next c fs s)
step c (Done s before) = Done s before
step c (Failed k at before) = Failed k at before
step c (Stopped at s before) = Stopped at s before

-- Main at its entry, with the input as the only object; where there is no such body, nothing is to be done
abbrev pub start_with : List ℤ → Option BodyTree → State
start_with input None = Done (first_store input) []
start_with input (Some b) = Running (frame_at_entry b (first_locals b) (first_store input) (ToCall None) ∷ []) (first_store input) []

abbrev pub start : CoreTree → List ℤ → State
start c input = start_with input (body_at c c.main)

-- the state after n steps
abbrev pub run : CoreTree → List ℤ → ℕ → State
run c input zero = start c input
run c input (suc n) = step c (run c input n)

-- what a state has printed
abbrev pub printed_in : State → List ℕ
printed_in (Running fs s before) = before
printed_in (Done s before) = before
printed_in (Failed k at before) = before
printed_in (Stopped at s before) = before

-- what n steps print
abbrev pub printed : CoreTree → List ℤ → ℕ → List ℕ
printed c input n = printed_in (run c input n)
