use Rattle.ss_vcgen_express.proofs.Grown.{HasMeant-grown}
use Rattle.ss_vcgen_express.proofs.quantifiers.out_of_range.Goals as goal

pub not_below-requires : goal.not_below-requires
not_below-requires c = HasMeant-grown c.in_ok-f.ensures.grown c.args.high.now c.requires.high
