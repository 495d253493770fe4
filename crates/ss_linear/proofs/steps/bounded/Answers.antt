use Rattle.std.proofs.Common.{sym, subst, List, rules, SFits, to_z-of_z}
use Rattle.std.specs.Int.{w128}
use Rattle.ss_linear_sums.specs.declared.forms.Part.{Part}
use Rattle.ss_linear_sums.specs.Linear.{HasParts}
use Rattle.ss_linear.proofs.Results.{result_is}
use Rattle.ss_linear.proofs.steps.bounded.Goals as goal

pub returns-clause-parts : goal.returns-clause-parts
returns-clause-parts c = subst (λ (ps : List Part). HasParts c.args.bank.now ps) (sym c.at_most.ensures.parts) (rw c.in-Some-2.is at c.in_ok-parts.ensures.has)

pub returns-clause-gives : goal.returns-clause-gives
returns-clause-gives c = λ cs.
    let constant : SFits w128 c.args.sum.now.constant = search rules in
    let most : SFits w128 c.in-Some.most = search rules in
    let q : SFits w128 c.floor-quotient.result = search rules in
    let k : SFits w128 c.in-Some-negated.constant = search rules in
    let d = rw (c.in-Some-2.is, to_z-of_z c.ranges.d, c.deref.ensures.value) at c.in_ok-parts.ensures.divided in
    result_is cs c.args.bank.now c.args.d c.args.sum.now c.in-Some.most c.in-Some-negated.constant c.in-Some-2.parts.items c.at_most.result
    (rw (to_z-of_z constant) at c.in-Some.ensures)
    (rw (to_z-of_z q, c.floor-quotient.ensures, to_z-of_z most, to_z-of_z c.ranges.d) at c.in-Some-negated.ensures)
    (rw c.in-Some-2.is at c.in_ok-parts.ensures.next) d (rw c.in-Some-2.is at c.in_ok-parts.ensures.has) c.at_most.ensures.equality c.at_most.ensures.parts (rw (to_z-of_z k) at c.at_most.ensures.constant)
