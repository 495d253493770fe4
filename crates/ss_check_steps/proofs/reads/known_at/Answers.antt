use Rattle.ss_check_steps.proofs.Numbers.{known_number}
use Rattle.ss_check_steps.proofs.reads.known_at.Goals as goal

pub returns : goal.returns
returns c = rw c.read.ensures (known_number c.args.bank.now c.args.known.now c.args.i c.requires)
