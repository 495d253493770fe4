use Rattle.std.proofs.Common.{arith}
use Rattle.ss_terms.specs.Forms.{formulas_at}
use Rattle.ss_check_steps.proofs.Exchanged.{none_left}
use Rattle.ss_check_steps.proofs.reads.+are_exchanged_at.Goals as goal

pub returns-in-empty : goal.returns-in-empty
returns-in-empty t c =
    none_left c.args.bank.now (formulas_at c.args.bank.now c.args.known.now) c.args.xs.now c.args.ys.now c.args.js.now c.are_none.result (omega (arith, c.in-empty.len_below))
    (c.are_none.ensures c.args.bank.now (formulas_at c.args.bank.now c.args.known.now))
