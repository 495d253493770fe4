use Rattle.ss_vcgen_builder.proofs.Builds.{becomes_bank}
use Rattle.ss_vcgen_builder.proofs.builder.Builder.meeting.Goals as goal

pub returns-clause-stays : goal.returns-clause-stays
returns-clause-stays c = becomes_bank c.args.self.now c.meeting.new.bank c.requires c.meeting.ensures.grown
