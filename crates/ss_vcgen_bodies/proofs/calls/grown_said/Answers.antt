use Rattle.ss_vcgen_statements.proofs.Steps.{bank_ok}
use Rattle.ss_vcgen_bodies.proofs.calls.grown_said.Goals as goal

pub returns-clause-stays : goal.returns-clause-stays
returns-clause-stays c = bank_ok c.grown.result _ c.args.builder.now c.requires.fine c.grown.new.bank c.grown.ensures.grown c.grown.ensures.at
