use Rattle.std.proofs.Common.{rules, SFits, to_z-of_z}
use Rattle.std.specs.Int.{w64}
use Rattle.ss_core.specs.View.{classes}
use Rattle.ss_logic.specs.Sums.{sum_of}
use Rattle.ss_terms.specs.Forms.{formulas_at}
use Rattle.ss_check_steps.proofs.Numbers.{as_number}
use Rattle.ss_check.proofs.sums.sum.Goals as goal

pub returns-clause-fact : goal.returns-clause-fact
returns-clause-fact c =
    let fits : SFits w64 c.args.line.now.divisor = search rules in
    as_number c.sum.new.bank (sum_of (classes c.args.classes.now) (formulas_at c.args.bank.now c.args.known.now) c.args.line.now.divisor c.args.line.now.parts.items) c.sum.result
    (rw (to_z-of_z fits, c.deref.ensures.value) at c.sum.ensures.at (classes c.args.classes.now) c.requires.bank)
