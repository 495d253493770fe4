use Rattle.ss_vcgen_builder.proofs.Builds.{becomes_new}
use Rattle.ss_vcgen_builder.proofs.builder.Builder.new_term.Goals as goal

pub returns-clause-becomes : goal.returns-clause-becomes
returns-clause-becomes c = becomes_new c.args.self.now c.apply.new.self c.with_next-self.result c.args.sort c.requires c.apply.ensures.grown c.with_next-self.ensures
