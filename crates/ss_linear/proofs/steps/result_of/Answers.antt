use Rattle.std.proofs.Common.{◌≡◌, true, rules, SFits, to_z-of_z, sym, ◌∙◌, subst, Option, IfOk}
use Rattle.std.specs.Int.{w64, w128, is_positive}
use Rattle.ss_logic.specs.Formulas.{Formula}
use Rattle.ss_linear_sums.specs.Linear.{sum_at}
use Rattle.ss_linear.specs.Results.{IsResult}
use Rattle.ss_linear.proofs.Results.{summed_is}
use Rattle.ss_linear.proofs.steps.result_of.Goals as goal

pub returns-clause-gives : goal.returns-clause-gives
returns-clause-gives c = λ cs known h.
    let fits : SFits w64 c.args.sum.now.divisor = search rules in
    let wide : SFits w128 c.wide.result = search rules in
    let p : is_positive c.args.sum.now.divisor ≡ true = sym (rw (to_z-of_z fits) at c.is_above.ensures) ∙ c.if-not-is_above.false in
    let e = (rw (c.in-Some.is, c.deref.ensures.value) at (c.in_ok-found.ensures.sum cs known h)).1 in
    subst (λ (o : Option Formula). IfOk c.bounded.result (IsResult cs c.args.bank.now o)) (sym (summed_is cs known c.args.sum.now.divisor c.args.sum.now.parts.items (sum_at c.args.bank.now c.in-Some.total) p e))
    (rw (to_z-of_z wide, c.wide.ensures, to_z-of_z fits) at (c.bounded.ensures.gives cs))
