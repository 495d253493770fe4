use Rattle.ss_vcgen_express.proofs.Grown.{HasMeant-grown}
use Rattle.ss_vcgen_express.proofs.quantifiers.below.Goals as goal

pub over-requires-clause-meant : goal.over-requires-clause-meant
over-requires-clause-meant c = HasMeant-grown c.in_ok-v.ensures.grown c.args.low.now c.requires
