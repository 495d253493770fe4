use Rattle.std.proofs.Common.{◌≡◌, ◌<◌, ◌∙◌, length, arith}
use Rattle.ss_core.proofs.Fields.{met, passed, number_fits}
use Rattle.ss_core.proofs.class.Classes.field.Goals as goal

pub returns-then-left-declared : goal.returns-then-left-declared
returns-then-left-declared c =
    let many : c.len-declared.result ≡ length c.class-item.result.fields.items = c.len-declared.ensures ∙ c.class-item.result.fields.ok.0 in
    let low : c.loop-class.left < length c.class-item.result.fields.items = omega arith in
    met c.deref-class-items.result.now c.loop-class.class-index c.loop-class.number c.loop-class.left _ c.class-item.result c.index.result.now c.loop-class-test.true c.class-item.is low c.index.ensures c.loop-class.invariant

pub overflow_add-number : goal.overflow_add-number
overflow_add-number c =
    let few = rw (← c.deref-class-items.ensures.value) at c.requires in
    let fits = number_fits c.deref-class-items.result.now c.loop-class.class-index c.loop-class.number c.loop-class.left _ c.loop-class-test.true few c.loop-class.invariant in
    omega (arith, fits)

pub loop-class-preserved : goal.loop-class-preserved
loop-class-preserved c =
    let many : c.len-declared.result ≡ length c.class-item.result.fields.items = c.len-declared.ensures ∙ c.class-item.result.fields.ok.0 in
    passed c.deref-class-items.result.now c.loop-class.class-index c.loop-class.number c.loop-class.left c.len-declared.result _ c.class-item.result c.loop-class-test.true c.class-item.is many c.if-left-declared.false c.loop-class.invariant
