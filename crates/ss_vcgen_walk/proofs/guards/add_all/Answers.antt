use Rattle.ss_vcgen_walk.proofs.Composing.{parts_next_same, parts_none}
use Rattle.ss_vcgen_walk.proofs.Growing.{HasParts-get, no_part}
use Rattle.ss_vcgen_walk.proofs.guards.add_all.Goals as goal

pub loop-part-init : goal.loop-part-init
loop-part-init c = parts_none c.args.bank.now c.args.parts.now.items c.requires.parts

pub loop-part-preserved : goal.loop-part-preserved
loop-part-preserved c =
    parts_next_same c.args.parts.now.items c.args.bank.now c.args.list.now c.loop-part.part-index no_part c.loop-part.parts.items c.push.new.self.items c.loop-part-test.true c.in_ok-push.ensures.items
    (HasParts-get c.args.bank.now c.args.list.now c.loop-part.part-index no_part c.requires.list c.loop-part-test.true, tt) c.loop-part.invariant
