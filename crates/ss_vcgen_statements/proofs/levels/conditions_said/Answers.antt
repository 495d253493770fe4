use Rattle.ss_vcgen_statements.proofs.Steps.{bank_ok}
use Rattle.ss_vcgen_statements.proofs.levels.conditions_said.Goals as goal

pub returns-clause-stays : goal.returns-clause-stays
returns-clause-stays c = bank_ok c.conditions.result _ c.args.builder.now c.requires.fine c.conditions.new.bank c.conditions.ensures.grown c.conditions.ensures.at
