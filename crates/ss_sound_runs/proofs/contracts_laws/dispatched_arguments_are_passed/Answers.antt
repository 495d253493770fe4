use Rattle.ss_sound_runs.proofs.Served.{passed_on_to}
use Rattle.ss_sound_runs.proofs.contracts_laws.dispatched_arguments_are_passed.Goals as goal

pub returns : goal.returns
returns c = λ t beside d from to serves. passed_on_to t d from to serves beside
