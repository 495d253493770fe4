use Rattle.ss_terms.proofs.Sorted.{class_next}
use Rattle.ss_terms.proofs.sorts.field_sorts.Goals as goal

pub loop-class-preserved : goal.loop-class-preserved
loop-class-preserved c =
    class_next c.args.classes.now.list.items c.deref-class-items.result.now c.deref-class-items.ensures.value c.loop-class.class-index c.class-item.result c.class-item.is c.loop-class-test.true
    c.loop-class.sorts.items c.add_fields.new.sorts.items _ c.in_ok-add_fields.ensures c.loop-class.invariant
