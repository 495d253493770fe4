use Rattle.ss_vcgen_statements.proofs.Steps.{bank_ok}
use Rattle.ss_vcgen_bodies.proofs.objects.length_said.Goals as goal

pub returns-clause-stays : goal.returns-clause-stays
returns-clause-stays c = bank_ok c.length_is.result _ c.args.builder.now c.requires.fine c.length_is.new.bank c.length_is.ensures.grown c.length_is.ensures.at
