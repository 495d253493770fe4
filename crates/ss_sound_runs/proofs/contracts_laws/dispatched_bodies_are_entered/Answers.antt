use Rattle.ss_sound_runs.proofs.Served.{entered}
use Rattle.ss_sound_runs.proofs.contracts_laws.dispatched_bodies_are_entered.Goals as goal

pub returns : goal.returns
returns c = λ a d from to serves s arguments on passed. entered a.program d from to serves s arguments on passed
