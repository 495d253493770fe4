use Rattle.std.proofs.Common.{subst}
use Rattle.ss_core.specs.View as view
use Rattle.ss_logic.specs.Frames.{the_object, field_kept}
use Rattle.ss_terms.proofs.Grown.{IsGrown-then}
use Rattle.ss_frames.specs.Calls.{call_at, IsMade}
use Rattle.ss_frames.proofs.Growing.{IsTerm-grown, HasCall-grown, AreNamed-grown}
use Rattle.ss_frames.proofs.Making.{call_made}
use Rattle.ss_frames.proofs.Naming.{next_field}
use Rattle.ss_frames.proofs.objects.fields_kept.Goals as goal

pub field_kept-requires-clause-call : goal.field_kept-requires-clause-call
field_kept-requires-clause-call c = HasCall-grown c.args.b.now c.loop-f.b c.loop-f.invariant.grown c.args.context.now.call.now c.requires.call

pub field_kept-requires-clause-object : goal.field_kept-requires-clause-object
field_kept-requires-clause-object c = IsTerm-grown c.args.b.now c.loop-f.b c.loop-f.invariant.grown c.args.context.now.object the_object c.requires.object

pub field_kept-requires-clause-marks : goal.field_kept-requires-clause-marks
field_kept-requires-clause-marks c = AreNamed-grown c.args.b.now c.loop-f.b c.loop-f.invariant.grown 1 c.args.context.now.call.now c.args.marks.now c.requires.call c.requires.marks

pub loop-f-preserved : goal.loop-f-preserved
loop-f-preserved c =
    let a = c.args.b.now in
    let b = c.loop-f.b in
    let d = c.field_kept.new.b in
    let cs = view.classes c.args.context.now.classes.now in
    let m = c.args.context.now.call.now in
    let v = c.loop-f.invariant in
    let one = subst (λ n. IsMade d c.in_ok-g.g (field_kept cs (call_at b m) n)) c.in_ok-f.ensures c.in_ok-g.ensures.at in
    record {
      grown = IsGrown-then a b d v.grown c.field_kept.ensures.grown;
      made = next_field cs (call_at a m) b d c.loop-f.f c.loop-f.made.items _ c.in_ok-g.g c.field_kept.ensures.grown v.made (call_made (λ k. field_kept cs k c.loop-f.f) a b d m c.in_ok-g.g v.grown c.requires.call one) c.in_ok-push.ensures.items;
    }
