use Rattle.ss_vcgen_statements.proofs.Steps.{bank_ok}
use Rattle.ss_vcgen_bodies.proofs.objects.not_negative_said.Goals as goal

pub returns-clause-stays : goal.returns-clause-stays
returns-clause-stays c = bank_ok c.not_negative.result _ c.args.builder.now c.requires.fine c.not_negative.new.bank c.not_negative.ensures.grown c.not_negative.ensures.at
