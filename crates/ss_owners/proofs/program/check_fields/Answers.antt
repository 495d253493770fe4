use Rattle.std.proofs.Common.{◌<◌, length, arith}
use Rattle.ss_owners.proofs.Entries.{fields_more}
use Rattle.ss_owners.proofs.program.check_fields.Goals as goal

pub loop-place-preserved : goal.loop-place-preserved
loop-place-preserved c =
    let within : c.loop-place.place < length c.args.entries.now = omega arith in
    fields_more c.args.fields.now c.args.entries.now c.loop-place.place c.index-fields-place.result c.index-entries-place.result _ c.check_field.new.found.items _
    c.loop-place.invariant c.loop-place-test.true c.index-fields-place.is within c.index-entries-place.is c.in_ok-check_field.ensures
