use Rattle.ss_vcgen_statements.proofs.Steps.{bank_ok}
use Rattle.ss_vcgen_statements.proofs.said.one_of.Goals as goal

pub returns-clause-stays : goal.returns-clause-stays
returns-clause-stays c = bank_ok c.any.result _ c.args.builder.now c.requires.fine c.any.new.bank c.any.ensures.grown c.any.ensures.at
