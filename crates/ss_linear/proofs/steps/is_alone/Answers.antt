use Rattle.std.proofs.Common.{rules, SFits, to_z-of_z, sym, ◌∙◌}
use Rattle.std.specs.Int.{w128}
use Rattle.ss_logic.specs.Sums.{linear}
use Rattle.ss_logic.proofs.NumbersInSums.{zero_is}
use Rattle.ss_terms.specs.Forms.{term_at}
use Rattle.ss_linear.proofs.Results.{alone}
use Rattle.ss_linear.proofs.steps.is_alone.Goals as goal

pub returns-clause-alone : goal.returns-clause-alone
returns-clause-alone c = λ h.
    let fits : SFits w128 c.in-Some.sum.constant = search rules in
    let e = rw c.in-Some.is at c.in_ok-found.ensures.sum in
    alone c.args.bank.now c.in-Some.sum c.args.t (linear (term_at c.args.bank.now c.args.t)) e.1 (zero_is c.in-Some.sum.constant (sym (rw (to_z-of_z fits) at c.is_zero.ensures) ∙ c.if-not-is_zero.false)) (rw c.deref.ensures.value at (c.is_term.ensures h))
