use Rattle.std.proofs.Common.{◌<◌, length, subst, arith}
use Rattle.ss_frames.proofs.Declaring.{class_next, number_fits}
use Rattle.ss_frames.proofs.fields.declaring_classes.Goals as goal

pub overflow_add-number : goal.overflow_add-number
overflow_add-number c =
    let items = c.args.classes.now.list.items in
    let i = c.loop-class.class-index in
    let within : i < length items = subst (λ xs. i < length xs) c.deref-class-items.ensures.value c.loop-class-test.true in
    let fits = number_fits items i c.loop-class.number within c.requires c.loop-class.invariant.count in
    omega (arith, fits)

pub loop-class-preserved : goal.loop-class-preserved
loop-class-preserved c = record {
  count = let e = c.loop-class.invariant.count in omega arith;
  made = class_next c.args.classes.now.list.items c.deref-class-items.result.now c.deref-class-items.ensures.value c.loop-class.class-index c.loop-class.number c.class-item.result c.class-item.is c.loop-class-test.true
      c.loop-class.made.items c.add_class.new.made.items _ c.in_ok-add_class.ensures c.loop-class.invariant.made;
}
