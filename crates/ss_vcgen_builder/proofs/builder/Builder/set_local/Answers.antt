use Rattle.ss_vcgen_builder.proofs.Builds.{becomes_set}
use Rattle.ss_vcgen_builder.proofs.builder.Builder.set_local.Goals as goal

pub returns : goal.returns
returns c = becomes_set c.args.self.now c.args.x c.args.t c.put.new.locals c.requires.fine c.requires.term c.put.ensures
