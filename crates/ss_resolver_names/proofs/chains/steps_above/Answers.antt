use Rattle.std.proofs.Common.{◌-◌, sym, ap, ◌∙◌, arith}
use Rattle.ss_tables.specs.Classes.{steps_above}
use Rattle.ss_tables_lookup.specs.Classes.{trees}
use Rattle.ss_resolver_names.proofs.Above.{next_step}
use Rattle.ss_resolver_names.proofs.chains.steps_above.Goals as goal

pub loop-left-preserved : goal.loop-left-preserved
loop-left-preserved c =
    let cs = trees c.args.tables.now in
    let left = c.loop-left.left in
    ap (λ o. steps_above cs (left - 1) o) c.above-at.ensures ∙ sym (next_step cs left c.in-Some.next c.loop-left-test.true) ∙ ap (λ o. steps_above cs left o) (sym c.in-Some.is) ∙ c.loop-left.invariant
