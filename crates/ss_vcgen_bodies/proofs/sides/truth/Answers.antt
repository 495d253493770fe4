use Rattle.ss_vcgen_statements.proofs.Steps.{bank_ok}
use Rattle.ss_vcgen_bodies.proofs.sides.truth.Goals as goal

pub returns-clause-stays : goal.returns-clause-stays
returns-clause-stays c = bank_ok c.said.result _ c.args.builder.now c.requires.fine c.said.new.bank c.said.ensures.grown c.said.ensures.at
