use Rattle.ss_vcgen_statements.proofs.Steps.{bank_ok}
use Rattle.ss_vcgen_statements.proofs.said.say.Goals as goal

pub returns-clause-stays : goal.returns-clause-stays
returns-clause-stays c = bank_ok c.over.result _ c.args.builder.now c.requires.fine c.over.new.bank c.over.ensures.grown c.over.ensures.at
