use Rattle.ss_tests_banks.proofs.Kept.{taken}
use Rattle.ss_tests_banks.proofs.steps.undone.Goals as goal

pub returns : goal.returns
returns c = taken c.args.bank.now c.args.congruence.now c.undo.new.self c.args.to c.requires c.undo.ensures
