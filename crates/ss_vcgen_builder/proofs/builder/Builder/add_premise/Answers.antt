use Rattle.ss_vcgen_builder.proofs.Builds.{becomes_pushed}
use Rattle.ss_vcgen_builder.proofs.builder.Builder.add_premise.Goals as goal

pub returns : goal.returns
returns c = becomes_pushed c.args.self.now c.requires.fine c.args.f c.push.new.self c.requires.formula c.in_ok-push.ensures.items
