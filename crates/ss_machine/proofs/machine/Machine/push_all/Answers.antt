use Rattle.ss_core.specs.View.{exprs}
use Rattle.ss_machine_rules.specs.Steps.{values_of}
use Rattle.ss_machine.specs.Moves.{here}
use Rattle.ss_machine.proofs.Pushes.{goes_last}
use Rattle.ss_machine.proofs.machine.Machine.push_all.Goals as goal

pub returns : goal.returns
returns c =
    let scene = here c.args.core.now c.args.self.now in
    goes_last c.args.all.now.items c.loop-e.all.items c.args.es.now c.loop-e.e-index scene (values_of (exprs c.args.es.now) scene) c.loop-e.invariant c.loop-e-test.false
