use Rattle.ss_vcgen_statements.proofs.Steps.{bank_ok}
use Rattle.ss_vcgen_bodies.proofs.calls.frame_said.Goals as goal

pub returns-clause-stays : goal.returns-clause-stays
returns-clause-stays c = bank_ok c.frame.result _ c.args.builder.now c.requires.fine c.frame.new.bank c.frame.ensures.grown c.frame.ensures.at
