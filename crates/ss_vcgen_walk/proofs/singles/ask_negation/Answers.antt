use Rattle.ss_vcgen_express.proofs.Grown.{HasMeant-grown}
use Rattle.ss_vcgen_walk.proofs.Growing.{HasParts-grown}
use Rattle.ss_vcgen_walk.proofs.singles.ask_negation.Goals as goal

pub ask-requires-clause-meant : goal.ask-requires-clause-meant
ask-requires-clause-meant c = HasMeant-grown c.zero.ensures.grown c.args.m.now c.requires.meant

pub ask-requires-clause-parts : goal.ask-requires-clause-parts
ask-requires-clause-parts c = HasParts-grown c.zero.ensures.grown c.args.parts.now.items c.requires.parts
