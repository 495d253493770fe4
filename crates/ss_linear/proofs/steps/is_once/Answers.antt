use Rattle.std.proofs.Common.{rules, SFits, to_z-of_z, sym, ◌∙◌}
use Rattle.std.specs.Int.{w128}
use Rattle.ss_linear.proofs.Results.{once}
use Rattle.ss_linear.proofs.steps.is_once.Goals as goal

pub returns : goal.returns
returns c = λ h.
    let fits : SFits w128 c.args.part.coefficient = search rules in
    once c.args.bank.now c.args.part c.args.t (sym (rw (to_z-of_z fits) at c.is_one.ensures) ∙ c.if-not-is_one.false) (sym c.is_same_term.ensures ∙ h)
