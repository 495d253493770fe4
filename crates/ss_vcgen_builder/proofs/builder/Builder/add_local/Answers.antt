use Rattle.ss_vcgen_builder.proofs.Builds.{becomes_added}
use Rattle.ss_vcgen_builder.proofs.builder.Builder.add_local.Goals as goal

pub returns : goal.returns
returns c = becomes_added c.args.self.now c.args.local c.push.new.self c.requires.fine c.requires.local c.in_ok-push.ensures.items
