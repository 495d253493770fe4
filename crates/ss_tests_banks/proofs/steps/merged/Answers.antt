use Rattle.ss_tests_banks.proofs.Kept.{opened, closed}
use Rattle.ss_tests_banks.proofs.steps.merged.Goals as goal

pub merge-requires-clause-bank : goal.merge-requires-clause-bank
merge-requires-clause-bank c = opened c.args.bank.now c.args.congruence.now c.requires

pub returns : goal.returns
returns c = closed c.args.bank.now c.merge.new.self c.merge.ensures.bank
