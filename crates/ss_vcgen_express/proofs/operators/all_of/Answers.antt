use Rattle.ss_vcgen_express.proofs.Chaining.{all_parts}
use Rattle.ss_vcgen_express.proofs.operators.all_of.Goals as goal

pub returns-in-All-clause-at : goal.returns-in-All-clause-at
returns-in-All-clause-at c = all_parts c.args.bank.now c.args.x c.in-All.fs c.in-All.is c.requires
