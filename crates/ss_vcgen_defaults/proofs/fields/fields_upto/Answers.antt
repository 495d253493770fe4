use Rattle.std.proofs.Common.{◌++◌, arith, map, refl, ap, ◌∙◌}
use Rattle.ss_core.specs.View.{classes, class_of}
use Rattle.ss_vcgen_defaults.specs.Defaults.{slot_of, slots_if}
use Rattle.ss_vcgen_defaults.proofs.Upwards.{class_next, number_fits}
use Rattle.ss_vcgen_defaults.proofs.fields.fields_upto.Goals as goal

pub overflow_add-class_number : goal.overflow_add-class_number
overflow_add-class_number c =
    let fits = number_fits c.args.classes.now c.deref-class-items.result.now c.loop-class.class-index c.deref-class-items.ensures.value c.requires c.loop-class-test.true in
    omega (arith, fits, c.loop-class.invariant.class_number)

pub loop-class-preserved : goal.loop-class-preserved
loop-class-preserved c = record {
  class_number = omega (arith, c.loop-class.invariant.class_number);
  done = class_next (classes c.args.classes.now) c.args.t.0 c.args.classes.now.list.items c.deref-class-items.result.now c.deref-class-items.ensures.value c.loop-class.class-index c.class-item.result c.class-item.is c.loop-class-test.true
      c.loop-class.class_number _ c.loop-class.number c.in_ok-number.number refl c.in_ok-number.ensures.number (map slot_of c.loop-class.list.items) (map slot_of c.add_fields.new.list.items) _
      (c.in_ok-number.ensures.added ∙ ap (λ w. map slot_of c.loop-class.list.items ++ slots_if w c.loop-class.number (class_of c.class-item.result).fields) c.is_subclass-wanted.ensures) c.loop-class.invariant.done;
}
