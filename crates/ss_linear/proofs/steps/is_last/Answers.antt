use Rattle.std.proofs.Common.{rules, FitsSigned, SFits, to_z-of_z, sym, ◌∙◌, ◌^◌, arith}
use Rattle.std.specs.Prelude.{pos, ◌<ℤ◌}
use Rattle.std.specs.Int.{w64, w128}
use Rattle.std.proofs.lemmas.Int.{ints}
use Rattle.ss_linear_sums.specs.Linear.{sum_at}
use Rattle.ss_linear_rules.proofs.Few.{gives_false}
use Rattle.ss_linear_rules.proofs.Cancelling.{one_is}
use Rattle.ss_linear.proofs.steps.is_last.Goals as goal

pub returns : goal.returns
returns c = λ cs known h yes.
    let fits : SFits w64 c.args.sum.now.divisor = search rules in
    let e = (rw (c.in-Some.is, c.deref.ensures.value) at (c.in_ok-found.ensures.sum cs known h)).1 in
    let wide : FitsSigned w128 c.in-Some.total.constant = search rules in
    let below : c.in-Some.total.constant <ℤ pos (2 ^ 127) = omega (arith, ints) in (
      one_is c.args.sum.now.divisor (sym (rw (to_z-of_z fits) at c.is_unit.ensures) ∙ c.if-not-is_unit.false),
      gives_false cs known c.args.sum.now.parts.items (sum_at c.args.bank.now c.in-Some.total) e (c.is_false.ensures.parts c.args.bank.now yes) (c.is_false.ensures.above yes) below,
    )
