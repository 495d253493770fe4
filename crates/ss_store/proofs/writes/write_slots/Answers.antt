use Rattle.ss_store_rules.specs.Changes.{with_content}
use Rattle.ss_store.proofs.Loops.{mapped_more}
use Rattle.ss_store.proofs.writes.write_slots.Goals as goal

pub loop-slot-preserved : goal.loop-slot-preserved
loop-slot-preserved c = rw c.write.ensures (mapped_more (with_content c.args.f.0 c.args.v) c.args.fields.now c.loop-slot.fields c.loop-slot.slot-index c.slot-item.result c.loop-slot-test.true c.loop-slot.invariant)
