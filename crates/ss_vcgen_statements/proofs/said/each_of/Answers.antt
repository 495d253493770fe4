use Rattle.ss_vcgen_statements.proofs.Steps.{bank_ok}
use Rattle.ss_vcgen_statements.proofs.said.each_of.Goals as goal

pub returns-clause-stays : goal.returns-clause-stays
returns-clause-stays c = bank_ok c.all.result _ c.args.builder.now c.requires.fine c.all.new.bank c.all.ensures.grown c.all.ensures.at
