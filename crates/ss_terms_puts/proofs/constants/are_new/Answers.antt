use Rattle.std.proofs.Common.{sym, arith}
use Rattle.ss_terms.specs.Forms.{terms_at, formulas_at}
use Rattle.ss_terms_puts.proofs.Rising.{rising_are_new}
use Rattle.ss_terms_puts.proofs.constants.are_new.Goals as goal

pub returns-then-are_rising : goal.returns-then-are_rising
returns-then-are_rising c =
    sym (rising_are_new (formulas_at c.args.bank.now c.args.fs.now) c.highest_of_all.result (terms_at c.args.bank.now c.args.ts.now) (let e = c.highest_of_all.ensures in omega (arith, e)) (sym c.if-are_rising.ensures))
