use Rattle.std.proofs.Common.{◌<◌, ◌-◌, length, arith, ◌∙◌, ap, sym}
use Rattle.ss_tables.specs.Classes.{chain_from}
use Rattle.ss_tables_lookup.specs.Classes.{trees}
use Rattle.ss_resolver_types_heads.specs.Wants.{in_chain}
use Rattle.ss_resolver_types_heads.proofs.Chains.{next_in}
use Rattle.ss_resolver_types_heads.proofs.wants.is_in_chain.Goals as goal

pub loop-step-preserved : goal.loop-step-preserved
loop-step-preserved c =
    let cs = trees c.args.tables.now in
    let l = c.loop-step in
    let within : l.step < length cs = omega (arith, c.loop-step-test.true, c.len-step-end.ensures) in
    rw c.above-next.ensures
    (next_in cs c.args.place c.in-Some.class l.step (length cs) within c.if-class-place.false
    ∙ ap (λ o. in_chain c.args.place (chain_from cs (length cs - l.step) o)) (sym c.in-Some.is)
    ∙ l.invariant)
