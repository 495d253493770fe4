use Rattle.std.proofs.Common.{◌≡◌, ◌≤◌, ◌^◌, leb, ap, subst, ◌∙◌, arith}
use Rattle.std.specs.Prelude.{◌↔◌, IsTrue}
use Rattle.std.proofs.lemmas.Bool.{false≢true}
use Rattle.ss_search_procedure.proofs.Limits.{next_power, within, too_much, leb_is}
use Rattle.ss_search_procedure.proofs.powers.is_within.Goals as goal

pub overflow_mul-power : goal.overflow_mul-power
overflow_mul-power c = let w = within c.args.base c.loop-i.power c.args.limit c.requires c.if-power-limit.false in omega arith

pub loop-i-preserved : goal.loop-i-preserved
loop-i-preserved c = next_power c.args.base c.loop-i._i c.loop-i.power c.loop-i.invariant

pub returns-then-power-limit : goal.returns-then-power-limit
returns-then-power-limit c = (
  λ t. absurd (false≢true t),
  λ le. absurd (too_much c.args.base c.loop-i._i c.args.exponent c.loop-i.power c.args.limit c.requires c.loop-i.invariant c.loop-i-test.true c.if-power-limit.true le),
)

pub returns : goal.returns
returns c =
    let all : c.loop-i._i ≡ c.args.exponent = omega arith in
    subst (λ n. IsTrue (leb c.loop-i.power c.args.limit) ↔ (n ≤ c.args.limit)) (c.loop-i.invariant ∙ ap (λ n. c.args.base ^ n) all) (leb_is c.loop-i.power c.args.limit)
