use Rattle.std.proofs.Common.{◌∙◌, ◌++◌, ap, map, sym, subst}
use Rattle.ss_terms.specs.Forms.{HasTerms}
use Rattle.ss_terms.proofs.Grown.{IsGrown-then, HasTerm-grown, HasTerms-grown}
use Rattle.ss_logic.specs.Frames.{the_object}
use Rattle.ss_frames.specs.Calls.{HasOwned, group_at, owned_at}
use Rattle.ss_frames.proofs.Growing.{IsTerm-grown, HasCall-grown}
use Rattle.ss_frames.proofs.Making.{bound_made}
use Rattle.ss_frames.proofs.bound.not_bound.Goals as goal

pub in_groups-requires-clause-store : goal.in_groups-requires-clause-store
in_groups-requires-clause-store c = HasTerm-grown c.args.b.now c.new_or_committed.new.b c.new_or_committed.ensures.grown c.args.m.now.before c.requires.call.before

pub in_groups-requires-clause-object : goal.in_groups-requires-clause-object
in_groups-requires-clause-object c = IsTerm-grown c.args.b.now c.new_or_committed.new.b c.new_or_committed.ensures.grown c.args.object the_object c.requires.object

pub in_groups-requires-clause-captured : goal.in_groups-requires-clause-captured
in_groups-requires-clause-captured c =
    subst (HasTerms c.new_or_committed.new.b) (sym c.deref.ensures.value)
    (HasTerms-grown c.args.b.now c.new_or_committed.new.b c.new_or_committed.ensures.grown c.args.m.now.captured.items c.requires.call.captured)

pub owned_by_any-requires-clause-store : goal.owned_by_any-requires-clause-store
owned_by_any-requires-clause-store c =
    HasTerm-grown c.args.b.now c.in_groups.new.b (IsGrown-then c.args.b.now c.new_or_committed.new.b c.in_groups.new.b c.new_or_committed.ensures.grown c.in_groups.ensures.grown) c.args.m.now.before c.requires.call.before

pub owned_by_any-requires-clause-object : goal.owned_by_any-requires-clause-object
owned_by_any-requires-clause-object c =
    IsTerm-grown c.args.b.now c.in_groups.new.b (IsGrown-then c.args.b.now c.new_or_committed.new.b c.in_groups.new.b c.new_or_committed.ensures.grown c.in_groups.ensures.grown) c.args.object the_object c.requires.object

pub owned_by_any-requires-clause-owners : goal.owned_by_any-requires-clause-owners
owned_by_any-requires-clause-owners c =
    let g = IsGrown-then c.args.b.now c.new_or_committed.new.b c.in_groups.new.b c.new_or_committed.ensures.grown c.in_groups.ensures.grown in
    subst (HasOwned c.in_groups.new.b) (sym c.deref-2.ensures.value) (HasCall-grown c.args.b.now c.in_groups.new.b g c.args.m.now c.requires.call).owned

pub returns-clause-at : goal.returns-clause-at
returns-clause-at c =
    let a = c.args.b.now in
    let b = c.new_or_committed.new.b in
    let d = c.in_groups.new.b in
    let m = c.args.m.now in
    let groups = c.in_ok-groups.ensures.at in
    let owners = c.in_ok-owners.ensures.at in
    bound_made a b d c.owned_by_any.new.b c.new_or_committed.ensures.grown c.in_groups.ensures.grown c.owned_by_any.ensures.grown m c.requires.call c.in_ok-made.made.items c.in_ok-groups.groups.items c.in_ok-owners.owners.items _ c.in_ok-made.ensures.at
    (groups.0, groups.1 ∙ ap (map (group_at b m.before)) c.deref.ensures.value) (owners.0, owners.1 ∙ ap (map (owned_at d m.before)) c.deref-2.ensures.value)
    (c.in_ok-extend_from_slice-2.ensures.items ∙ ap (λ fs. fs ++ c.deref-4.result.now) (c.in_ok-extend_from_slice.ensures.items ∙ ap (λ fs. c.in_ok-made.made.items ++ fs) c.deref-3.ensures.value) ∙ ap (λ fs. c.in_ok-made.made.items ++ c.in_ok-groups.groups.items ++ fs) c.deref-4.ensures.value)
