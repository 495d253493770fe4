use Rattle.ss_vcgen_builder.proofs.Builds.{becomes_bank}
use Rattle.ss_vcgen_builder.proofs.builder.Builder.side.Goals as goal

pub returns-clause-stays : goal.returns-clause-stays
returns-clause-stays c = becomes_bank c.args.self.now c.side.new.bank c.requires.fine c.side.ensures.grown
