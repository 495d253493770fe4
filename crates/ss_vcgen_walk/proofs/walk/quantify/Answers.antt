use Rattle.ss_terms.proofs.Grown.{HasFormulas-grown}
use Rattle.ss_vcgen_walk.proofs.walk.quantify.Goals as goal

pub quantified-requires-clause-range : goal.quantified-requires-clause-range
quantified-requires-clause-range c = HasFormulas-grown c.args.bank.now c.said.new.bank c.said.ensures.grown c.args.out.now c.requires.range
