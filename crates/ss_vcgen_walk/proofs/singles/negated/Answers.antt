use Rattle.ss_vcgen_express.proofs.Grown.{HasMeant-grown}
use Rattle.ss_vcgen_walk.proofs.singles.negated.Goals as goal

pub mapped-requires-clause-meant : goal.mapped-requires-clause-meant
mapped-requires-clause-meant c = HasMeant-grown c.zero.ensures.grown c.args.m.now c.requires
