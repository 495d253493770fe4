use Rattle.ss_check_steps.proofs.Numbers.{part_and}
use Rattle.ss_check_steps.proofs.reads.part_at.Goals as goal

pub returns-in-And : goal.returns-in-And
returns-in-And c =
    part_and c.args.bank.now c.args.f c.in-And.parts c.args.j c.read.result c.requires (rw c.in-And.is at c.formula_node.ensures) (rw c.deref.ensures.value at c.read.ensures)
