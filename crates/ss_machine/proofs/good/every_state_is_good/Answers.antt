use Rattle.ss_core.specs.View as view
use Rattle.ss_machine_good.proofs.Runs.{run_good}
use Rattle.ss_machine.proofs.good.every_state_is_good.Goals as goal

pub returns : goal.returns
returns c = λ formed input n. run_good (view.core c.args.core.now) formed c.args.input.now input n
