use Rattle.ss_vcgen_express.proofs.Chaining.{any_parts}
use Rattle.ss_vcgen_express.proofs.operators.any_of.Goals as goal

pub returns-in-Any-clause-at : goal.returns-in-Any-clause-at
returns-in-Any-clause-at c = any_parts c.args.bank.now c.args.x c.in-Any.fs c.in-Any.is c.requires
