use Rattle.std.proofs.Common.{arith}
use Rattle.ss_search_clashes.proofs.Equations.{no_sides, fewer_than_two, more_than_two}
use Rattle.ss_search_clashes.proofs.equalities.equality_of.Goals as goal

pub returns-in_default : goal.returns-in_default
returns-in_default c = no_sides c.args.bank.now _ (fewer_than_two c.args.bank.now c.args.holds c.args.ts.now (omega arith))

pub returns-in_default-2 : goal.returns-in_default-2
returns-in_default-2 c = no_sides c.args.bank.now _ (more_than_two c.args.bank.now c.args.holds c.args.ts.now (omega arith))
