use Rattle.ss_vcgen_statements.proofs.Steps.{bank_ok}
use Rattle.ss_vcgen_bodies.proofs.calls.entry_said.Goals as goal

pub returns-clause-stays : goal.returns-clause-stays
returns-clause-stays c = bank_ok c.entry_conditions.result _ c.args.builder.now c.requires.fine c.entry_conditions.new.bank c.entry_conditions.ensures.grown c.entry_conditions.ensures.at
