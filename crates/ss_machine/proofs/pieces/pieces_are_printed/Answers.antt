use Rattle.ss_machine.proofs.Written.{pieces_printed}
use Rattle.ss_machine.proofs.pieces.pieces_are_printed.Goals as goal

pub returns : goal.returns
returns c = pieces_printed
