use Rattle.std.proofs.Common.{◌≤◌, arith}
use Rattle.std.specs.Prelude.{sum_by}
use Rattle.ss_tables_lookup.specs.Classes.{trees}
use Rattle.ss_resolver_rules.specs.Numbers.{body_count}
use Rattle.ss_resolver_tables.proofs.Counted.{constructor_within}
use Rattle.ss_resolver_tables.proofs.slots.constructor_id.Goals as goal

pub overflow_cast-result : goal.overflow_cast-result
overflow_cast-result c =
    let cs = trees c.args.tables.now in
    let h : c.bodies_before.result ≤ sum_by body_count cs = rw c.bodies_before.ensures (constructor_within cs c.args.class) in
    omega (arith, h, c.requires.few)
