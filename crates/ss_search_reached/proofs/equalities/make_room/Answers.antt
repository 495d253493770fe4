use Rattle.std.proofs.Common.{◌∙◌}
use Rattle.ss_search_reached.proofs.Groups.{room_pushed}
use Rattle.ss_search_reached.proofs.equalities.make_room.Goals as goal

pub loop-alloc-preserved : goal.loop-alloc-preserved
loop-alloc-preserved c = λ k. room_pushed c.loop-alloc.groups.items c.push.new.self.items c.new.result k c.in_ok-push.ensures.items c.new.ensures.items ∙ c.loop-alloc.invariant k
