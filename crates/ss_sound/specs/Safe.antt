-- What is shown of a program that is verified.
use Rattle.std.specs.Prelude.{◌≡◌, ℕ, ℤ, List, true}
use Rattle.ss_core.specs.Tree.{CoreTree}
use Rattle.ss_store_rules.specs.Admitted.{admitted}
use Rattle.ss_machine_typed.specs.Inputs.{IsInput}
use Rattle.ss_machine_rules.specs.Runs.{run}
use Rattle.ss_machine_rules.specs.Good.{IsGoodState, IsUnfailed}

-- For every admitted input and after every number of steps no check of the run has failed, and its state is good: each object meets the
-- invariants of all class levels at which it is packed.
pub record IsSafe (c : CoreTree) : Type 0 where
  pub unfailed : (input : List ℤ) → IsInput input → admitted c input ≡ true → (n : ℕ) → IsUnfailed (run c input n)
  pub good : (input : List ℤ) → IsInput input → (n : ℕ) → IsGoodState c (run c input n)
