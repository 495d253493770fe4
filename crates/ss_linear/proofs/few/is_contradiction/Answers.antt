use Rattle.std.proofs.Common.{◌^◌, FitsSigned, rules, arith}
use Rattle.std.specs.Prelude.{pos, ◌<ℤ◌}
use Rattle.std.proofs.lemmas.Int.{ints}
use mir.Syntax.{w128}
use Rattle.ss_linear_sums.specs.Linear.{sum_at}
use Rattle.ss_linear.proofs.Tests.{tested, not_weighted}
use Rattle.ss_linear.proofs.few.is_contradiction.Goals as goal

pub returns-in-Some : goal.returns-in-Some
returns-in-Some c = λ cs known h.
    let e = rw c.in-Some.is at (c.in_ok-found.ensures.sum cs known h) in
    let fits : FitsSigned w128 c.in-Some.sum.constant = search rules in
    let below : c.in-Some.sum.constant <ℤ pos (2 ^ 127) = omega (arith, ints) in
    tested cs known c.args.parts.now (sum_at c.args.context.now.bank.now c.in-Some.sum) c.is_false.result e.1 (c.is_false.ensures.parts c.args.context.now.bank.now) c.is_false.ensures.above (c.is_false.ensures.other c.args.context.now.bank.now) below

pub returns-in-None : goal.returns-in-None
returns-in-None c = λ cs known h. not_weighted cs known c.args.parts.now (rw c.in-None.is at (c.in_ok-found.ensures.sum cs known h))
