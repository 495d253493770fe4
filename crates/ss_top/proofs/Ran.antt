-- What the answers to a run say, from what the machine promises.
use Rattle.std.proofs.Common.{◌≡◌, ℕ, ℤ, List, [], Option, true, false}
use Rattle.ss_io.specs.Outside.{Grew, GrewByFront}
use Rattle.ss_core.specs.declared.names.Kind.{Kind}
use Rattle.ss_core.specs.declared.names.Place.{Place}
use Rattle.ss_core.specs.Tree.{CoreTree}
use Rattle.ss_store_rules.specs.Admitted.{admitted}
use Rattle.ss_machine_rules.specs.Runs.{run, printed}
use Rattle.ss_machine_rules.specs.Ends.{IsRunning, IsDoneAt, HasFailed, HasStopped}
use Rattle.ss_machine_typed.specs.Inputs.{IsInput}
use Rattle.ss_machine_good.proofs.Runs.{run_good}
use Rattle.ss_top_sources.specs.CoreSources.{Means}
use Rattle.ss_top.specs.Runs.{HasRun, RunsOn, StopsAt, FailsAt, IsNotAdmitted, RunsInPart}

pub has_run : (c : CoreTree) (k steps : ℕ) (input : List ℤ) (old new : Option (List ℕ)) (source : List ℕ) → Means source c → admitted c input ≡ true → IsInput input → IsDoneAt c input k steps → Grew old new (printed c input steps) → HasRun steps input old new source
has_run c k steps input old new source means admits given done took = record { program = c; means = means; admits = admits; done = done.stays; good = run_good c means.formed input given; took = took }

pub runs_on : (c : CoreTree) (steps : ℕ) (input : List ℤ) (old new : Option (List ℕ)) (source : List ℕ) → Means source c → admitted c input ≡ true → IsInput input → IsRunning (run c input steps) → Grew old new (printed c input steps) → RunsOn steps input old new source
runs_on c steps input old new source means admits given running took = record { program = c; means = means; admits = admits; running = running; good = run_good c means.formed input given; took = took }

pub stops_at : (c : CoreTree) (at : Place) (steps : ℕ) (input : List ℤ) (old new : Option (List ℕ)) (source : List ℕ) → Means source c → admitted c input ≡ true → IsInput input → HasStopped c input at steps → Grew old new (printed c input steps) → StopsAt at steps input old new source
stops_at c at steps input old new source means admits given stopped took = record { program = c; means = means; admits = admits; stopped = stopped; good = run_good c means.formed input given; took = took }

pub fails_at : (c : CoreTree) (kind : Kind) (at : Place) (steps : ℕ) (input : List ℤ) (old new : Option (List ℕ)) (source : List ℕ) → Means source c → admitted c input ≡ true → IsInput input → HasFailed c input kind at steps → Grew old new (printed c input steps) → FailsAt kind at steps input old new source
fails_at c kind at steps input old new source means admits given failed took = record { program = c; means = means; admits = admits; failed = failed; good = run_good c means.formed input given; took = took }

pub is_not_admitted : (c : CoreTree) (input : List ℤ) (old new : Option (List ℕ)) (source : List ℕ) → Means source c → admitted c input ≡ false → Grew old new [] → IsNotAdmitted input old new source
is_not_admitted c input old new source means refuses nothing = record { program = c; means = means; refuses = refuses; nothing = nothing }

pub runs_in_part : (c : CoreTree) (steps : ℕ) (input : List ℤ) (old new : Option (List ℕ)) (source : List ℕ) → Means source c → admitted c input ≡ true → GrewByFront old new (printed c input steps) → RunsInPart steps input old new source
runs_in_part c steps input old new source means admits front = record { program = c; means = means; admits = admits; front = front }
