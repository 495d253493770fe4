use Rattle.ss_vcgen_statements.proofs.Steps.{bank_ok}
use Rattle.ss_vcgen_bodies.proofs.calls.type_said.Goals as goal

pub returns-clause-stays : goal.returns-clause-stays
returns-clause-stays c = bank_ok c.is_of_type.result _ c.args.builder.now c.requires.fine c.is_of_type.new.bank c.is_of_type.ensures.grown c.is_of_type.ensures.at
