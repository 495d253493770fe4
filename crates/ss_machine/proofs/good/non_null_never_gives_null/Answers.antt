use Rattle.ss_core.specs.View as view
use Rattle.ss_machine_good.proofs.States.{run_non_null}
use Rattle.ss_machine.proofs.good.non_null_never_gives_null.Goals as goal

pub returns : goal.returns
returns c = λ formed input n. run_non_null (view.core c.args.core.now) formed c.args.input.now input n
