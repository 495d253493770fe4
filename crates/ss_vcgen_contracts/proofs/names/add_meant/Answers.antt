use Rattle.ss_vcgen_contracts.proofs.Naming.{names_same}
use Rattle.ss_vcgen_contracts.proofs.names.add_meant.Goals as goal

pub returns-in-Says-clause-at : goal.returns-in-Says-clause-at
returns-in-Says-clause-at c = rw c.in-Says.is (names_same c.args.bank.now c.args.names.now.items c.requires.names)

pub returns-in-All-clause-at : goal.returns-in-All-clause-at
returns-in-All-clause-at c = rw c.in-All.is (names_same c.args.bank.now c.args.names.now.items c.requires.names)

pub returns-in-Any-clause-at : goal.returns-in-Any-clause-at
returns-in-Any-clause-at c = rw c.in-Any.is (names_same c.args.bank.now c.args.names.now.items c.requires.names)
