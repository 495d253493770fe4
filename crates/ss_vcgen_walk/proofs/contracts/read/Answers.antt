use Rattle.ss_core.specs.View.{expr}
use Rattle.ss_vcgen_walk.proofs.Holding.{defines}
use Rattle.ss_vcgen_walk.proofs.contracts.read.Goals as goal

pub returns-clause-expressed : goal.returns-clause-expressed
returns-clause-expressed c = defines c.express.result c.express.new.bank c.express.new.parts.items c.args.parts.now.items (expr c.args.e.now) _ _ c.args.context.now c.express.ensures.expressed
