-- What the answers to a run say, whether or not the program was verified.
use Rattle.std.specs.Prelude.{ℕ, ℤ, ◌≡◌, true, false, List, [], Option}
use Rattle.ss_io.specs.Outside.{Grew, GrewByFront}
use Rattle.ss_core.specs.declared.names.Kind.{Kind}
use Rattle.ss_core.specs.declared.names.Place.{Place}
use Rattle.ss_core.specs.Tree.{CoreTree}
use Rattle.ss_store_rules.specs.Admitted.{admitted}
use Rattle.ss_machine_rules.specs.Runs.{run, printed}
use Rattle.ss_machine_rules.specs.Good.{IsGoodState}
use Rattle.ss_machine_rules.specs.Ends.{IsRunning, IsDoneWith, HasFailed, HasStopped}
use Rattle.ss_top_sources.specs.CoreSources.{Means}

-- Every state of the run is good until a check has failed. Each object then meets the invariants of each class at which it is
-- packed.
abbrev pub IsGoodThroughout : CoreTree → List ℤ → Type 0
IsGoodThroughout c input = (n : ℕ) → IsGoodState c (run c input n)

-- The program admits the input, and its run is done within these steps. Every state of it is good, and the sink took exactly what
-- the run printed.
pub record HasRun (steps : ℕ) (input : List ℤ) (old new : Option (List ℕ)) (source : List ℕ) : Type 0 where
  pub program : CoreTree
  pub means : Means source program
  pub admits : admitted program input ≡ true
  pub done : IsDoneWith (printed program input steps) (run program input steps)
  pub good : IsGoodThroughout program input
  pub took : Grew old new (printed program input steps)

-- the same, but after these steps the run isn't at its end
pub record RunsOn (steps : ℕ) (input : List ℤ) (old new : Option (List ℕ)) (source : List ℕ) : Type 0 where
  pub program : CoreTree
  pub means : Means source program
  pub admits : admitted program input ≡ true
  pub running : IsRunning (run program input steps)
  pub good : IsGoodThroughout program input
  pub took : Grew old new (printed program input steps)

-- the same, but within these steps the run stopped at an assumption that is false, which is at this place
pub record StopsAt (at : Place) (steps : ℕ) (input : List ℤ) (old new : Option (List ℕ)) (source : List ℕ) : Type 0 where
  pub program : CoreTree
  pub means : Means source program
  pub admits : admitted program input ≡ true
  pub stopped : HasStopped program input at steps
  pub good : IsGoodThroughout program input
  pub took : Grew old new (printed program input steps)

-- the same, but within these steps a check of the run failed, of this kind and at this place
pub record FailsAt (kind : Kind) (at : Place) (steps : ℕ) (input : List ℤ) (old new : Option (List ℕ)) (source : List ℕ) : Type 0 where
  pub program : CoreTree
  pub means : Means source program
  pub admits : admitted program input ≡ true
  pub failed : HasFailed program input kind at steps
  pub good : IsGoodThroughout program input
  pub took : Grew old new (printed program input steps)

-- the program doesn't admit the input, and the sink took nothing
pub record IsNotAdmitted (input : List ℤ) (old new : Option (List ℕ)) (source : List ℕ) : Type 0 where
  pub program : CoreTree
  pub means : Means source program
  pub refuses : admitted program input ≡ false
  pub nothing : Grew old new []

-- the program admits the input, and the sink took a front of what the run printed
pub record RunsInPart (steps : ℕ) (input : List ℤ) (old new : Option (List ℕ)) (source : List ℕ) : Type 0 where
  pub program : CoreTree
  pub means : Means source program
  pub admits : admitted program input ≡ true
  pub front : GrewByFront old new (printed program input steps)
