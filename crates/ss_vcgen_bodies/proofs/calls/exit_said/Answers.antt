use Rattle.ss_vcgen_statements.proofs.Steps.{bank_ok}
use Rattle.ss_vcgen_bodies.proofs.calls.exit_said.Goals as goal

pub returns-clause-stays : goal.returns-clause-stays
returns-clause-stays c = bank_ok c.exit_conditions.result _ c.args.builder.now c.requires.fine c.exit_conditions.new.bank c.exit_conditions.ensures.grown c.exit_conditions.ensures.at
