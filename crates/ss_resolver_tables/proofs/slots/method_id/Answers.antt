use Rattle.std.proofs.Common.{◌+◌, ◌≤◌, arith}
use Rattle.std.specs.Prelude.{sum_by}
use Rattle.ss_tables_lookup.specs.Classes.{trees}
use Rattle.ss_resolver_rules.specs.Numbers.{body_count}
use Rattle.ss_resolver_tables.proofs.Counted.{method_within}
use Rattle.ss_resolver_tables.proofs.slots.method_id.Goals as goal

pub overflow_add-result : goal.overflow_add-result
overflow_add-result c =
    let cs = trees c.args.tables.now in
    let h : c.bodies_before-before.result + (c.constructor_count-constructors.result + c.method_place-place.result) ≤ sum_by body_count cs = rw (c.bodies_before-before.ensures, c.constructor_count-constructors.ensures, c.method_place-place.ensures) (method_within cs c.args.class c.args.name.now) in
    omega (arith, h, c.requires.few)

pub overflow_add-result-2 : goal.overflow_add-result-2
overflow_add-result-2 c =
    let cs = trees c.args.tables.now in
    let h : c.bodies_before-before.result + (c.constructor_count-constructors.result + c.method_place-place.result) ≤ sum_by body_count cs = rw (c.bodies_before-before.ensures, c.constructor_count-constructors.ensures, c.method_place-place.ensures) (method_within cs c.args.class c.args.name.now) in
    omega (arith, h, c.requires.few)

pub overflow_cast-result : goal.overflow_cast-result
overflow_cast-result c =
    let cs = trees c.args.tables.now in
    let h : c.bodies_before-before.result + (c.constructor_count-constructors.result + c.method_place-place.result) ≤ sum_by body_count cs = rw (c.bodies_before-before.ensures, c.constructor_count-constructors.ensures, c.method_place-place.ensures) (method_within cs c.args.class c.args.name.now) in
    omega (arith, h, c.requires.few)
