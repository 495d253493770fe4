use Rattle.std.proofs.Common.{◌∙◌}
use Rattle.ss_journal.proofs.Links.{pushed_linked}
use Rattle.ss_journal.proofs.places.Places.push.Goals as goal

pub invariant_of-self-2 : goal.invariant_of-self-2
invariant_of-self-2 c =
    let j = c.self.inside in
    pushed_linked j.positions.items j.earlier.items j.last.items c.make_room.new.last.items c.push.new.self.items c.push-2.new.self.items c.args.self.now c.args.q c.last-before.result c.len.result c.self.invariant c.self.view_is c.make_room.ensures.same c.in_ok-make_room.ensures.room c.last-before.ensures c.in_ok-push.ensures.items c.in_default.ensures.items (c.len.ensures ∙ c.push.new.self.ok.0)
