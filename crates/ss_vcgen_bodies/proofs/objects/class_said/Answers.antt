use Rattle.ss_vcgen_statements.proofs.Steps.{bank_ok}
use Rattle.ss_vcgen_bodies.proofs.objects.class_said.Goals as goal

pub returns-clause-stays : goal.returns-clause-stays
returns-clause-stays c = bank_ok c.class_is.result _ c.args.builder.now c.requires.fine c.class_is.new.bank c.class_is.ensures.grown c.class_is.ensures.at
