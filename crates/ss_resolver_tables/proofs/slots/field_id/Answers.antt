use Rattle.std.proofs.Common.{◌+◌, ◌≤◌, arith}
use Rattle.std.specs.Prelude.{sum_by}
use Rattle.ss_tables_lookup.specs.Classes.{trees}
use Rattle.ss_resolver_rules.specs.Numbers.{field_count}
use Rattle.ss_resolver_tables.proofs.Counted.{field_within}
use Rattle.ss_resolver_tables.proofs.slots.field_id.Goals as goal

pub overflow_add-result : goal.overflow_add-result
overflow_add-result c =
    let cs = trees c.args.tables.now in
    let h : c.fields_before-before.result + c.field_place-place.result ≤ sum_by field_count cs = rw (c.fields_before-before.ensures, c.field_place-place.ensures) (field_within cs c.args.class c.args.name.now) in
    omega (arith, h, c.requires.few)

pub overflow_cast-result : goal.overflow_cast-result
overflow_cast-result c =
    let cs = trees c.args.tables.now in
    let h : c.fields_before-before.result + c.field_place-place.result ≤ sum_by field_count cs = rw (c.fields_before-before.ensures, c.field_place-place.ensures) (field_within cs c.args.class c.args.name.now) in
    omega (arith, h, c.requires.few)
