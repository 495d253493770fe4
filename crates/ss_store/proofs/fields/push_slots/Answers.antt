use Rattle.std.proofs.Common.{◌≡◌, ◌+◌, ◌∙◌, ap, get_or, arith}
use Rattle.ss_core.specs.View.{field_of}
use Rattle.ss_store.specs.Slots.{slot_for}
use Rattle.ss_store.proofs.NewSlots.{pushed_more, pushed_length, on_err_any}
use Rattle.ss_store.proofs.fields.push_slots.Goals as goal

pub returns-in_err-push-clause-full : goal.returns-in_err-push-clause-full
returns-in_err-push-clause-full c =
    let size = pushed_length c.args.slots.now.items c.args.slots.now.cap c.args.first c.args.fields.now c.loop-i.i c.loop-i.slots.items c.loop-i.slots.cap (omega arith) c.loop-i.invariant in
    let many = c.loop-i.slots.ok.0 in
    let room = c.loop-i.invariant.room in
    let full = c.in_err-push.ensures.full in
    on_err_any c.from_residual.result (omega arith)

pub loop-i-preserved : goal.loop-i-preserved
loop-i-preserved c =
    let d = c.index-fields-i.result in
    let e : c.slot_for.result ≡ slot_for (c.args.first + c.loop-i.i) (field_of (get_or c.args.fields.now c.loop-i.i d)) = c.slot_for.ensures ∙ ap (λ f. slot_for (c.args.first + c.loop-i.i) (field_of f)) c.index-fields-i.is in
    rw (c.in_ok-push.ensures.items, e) (pushed_more c.args.slots.now.items c.args.slots.now.cap c.args.first c.args.fields.now c.loop-i.i d c.loop-i.slots.items c.loop-i.slots.cap c.push.new.self.cap c.loop-i-test.true c.loop-i.invariant c.in_ok-push.ensures.capacity)
