use Rattle.std.proofs.Common.{◌∙◌, refl, get_or}
use Rattle.ss_core.specs.declared.names.ClassId.{ClassId}
use Rattle.ss_terms.specs.declared.forms.TermId.{TermId}
use Rattle.ss_terms.proofs.Grown.{IsGrown-then, HasTerm-grown}
use Rattle.ss_logic.specs.Frames.{the_object}
use Rattle.ss_frames.specs.Calls.{owned_at}
use Rattle.ss_frames.proofs.Growing.{IsTerm-grown, next_made, owned_at-grown, HasOwned-get}
use Rattle.ss_frames.proofs.bound.owned_by_any.Goals as goal

pub owned-requires-clause-store : goal.owned-requires-clause-store
owned-requires-clause-store c = HasTerm-grown c.args.b.now c.loop-owner.b c.loop-owner.invariant.grown c.args.store c.requires.store

pub owned-requires-clause-object : goal.owned-requires-clause-object
owned-requires-clause-object c = IsTerm-grown c.args.b.now c.loop-owner.b c.loop-owner.invariant.grown c.args.object the_object c.requires.object

pub owned-requires-clause-owner : goal.owned-requires-clause-owner
owned-requires-clause-owner c =
    HasTerm-grown c.args.b.now c.loop-owner.b c.loop-owner.invariant.grown _ (HasOwned-get c.args.b.now c.args.owners.now c.loop-owner.owner-index _ c.requires.owners c.loop-owner-test.true)

pub loop-owner-preserved : goal.loop-owner-preserved
loop-owner-preserved c =
    let a = c.args.b.now in
    let b = c.loop-owner.b in
    let d = c.owned.new.b in
    let i = c.loop-owner.owner-index in
    let v = c.loop-owner.invariant in
    let z : TermId × ClassId = (record { 0 = 0 }, record { 0 = 0 }) in
    let w = get_or c.args.owners.now i z in
    let there = HasOwned-get a c.args.owners.now i z c.requires.owners c.loop-owner-test.true in
    let one = c.in_ok-f.ensures.at in
    record {
      grown = IsGrown-then a b d v.grown c.owned.ensures.grown;
      made = next_made (owned_at a c.args.store) b d c.args.owners.now i z w c.loop-owner.made.items _ c.in_ok-f.f refl c.loop-owner-test.true c.owned.ensures.grown v.made
          (one.0, one.1 ∙ owned_at-grown a b v.grown c.args.store w c.requires.store there) c.in_ok-push.ensures.items;
    }
