use Rattle.std.proofs.Common.{◌∙◌, refl, get_or}
use Rattle.ss_terms.proofs.Grown.{IsGrown-then, HasTerm-grown}
use Rattle.ss_terms.proofs.Tested.{AreTermsBelow-get}
use Rattle.ss_logic.specs.Frames.{the_object}
use Rattle.ss_frames.specs.Calls.{group_at}
use Rattle.ss_frames.proofs.Growing.{IsTerm-grown, next_made, group_at-grown}
use Rattle.ss_frames.proofs.bound.in_groups.Goals as goal

pub in_group-requires-clause-store : goal.in_group-requires-clause-store
in_group-requires-clause-store c = HasTerm-grown c.args.b.now c.loop-e.b c.loop-e.invariant.grown c.args.store c.requires.store

pub in_group-requires-clause-object : goal.in_group-requires-clause-object
in_group-requires-clause-object c = IsTerm-grown c.args.b.now c.loop-e.b c.loop-e.invariant.grown c.args.object the_object c.requires.object

pub in_group-requires-clause-captured : goal.in_group-requires-clause-captured
in_group-requires-clause-captured c =
    HasTerm-grown c.args.b.now c.loop-e.b c.loop-e.invariant.grown _ (AreTermsBelow-get _ c.args.captured.now c.loop-e.e-index (record { 0 = 0 }) c.requires.captured c.loop-e-test.true)

pub loop-e-preserved : goal.loop-e-preserved
loop-e-preserved c =
    let a = c.args.b.now in
    let b = c.loop-e.b in
    let d = c.in_group.new.b in
    let i = c.loop-e.e-index in
    let v = c.loop-e.invariant in
    let e = get_or c.args.captured.now i (record { 0 = 0 }) in
    let there = AreTermsBelow-get _ c.args.captured.now i (record { 0 = 0 }) c.requires.captured c.loop-e-test.true in
    let one = c.in_ok-f.ensures.at in
    record {
      grown = IsGrown-then a b d v.grown c.in_group.ensures.grown;
      made = next_made (group_at a c.args.store) b d c.args.captured.now i (record { 0 = 0 }) e c.loop-e.made.items _ c.in_ok-f.f refl c.loop-e-test.true c.in_group.ensures.grown v.made
          (one.0, one.1 ∙ group_at-grown a b v.grown c.args.store e c.requires.store there) c.in_ok-push.ensures.items;
    }
