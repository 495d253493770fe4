use Rattle.std.specs.Prelude.{flat_map}
use Rattle.ss_store_rules.specs.Reads.{object_at}
use Rattle.ss_machine_rules.specs.Frame.{unkept_field, unkept_elements, unkept_level, unkept_committed, unkept_owner}
use Rattle.ss_machine_stores.specs.Spans.{span_of}
use Rattle.ss_machine_stores.proofs.Firsts.{first_of_five}
use Rattle.ss_machine_stores.proofs.span.Span.unkept_of_old.Goals as goal

pub returns : goal.returns
returns c =
    let s = span_of c.args.self.now in
    let o = c.args.o in
    let y = object_at s.now o in
    first_of_five (flat_map (unkept_field s o) y.fields) (unkept_elements s o y.elements) (unkept_level s o y) (unkept_committed s o y) (unkept_owner s o y) _ _ _ _ _ _ _ _ _
    c.unkept_fields.ensures c.unkept_elements.ensures c.or.ensures c.unkept_level.ensures c.or-2.ensures c.unkept_committed.ensures c.or-3.ensures c.unkept_owner.ensures c.or-4.ensures
