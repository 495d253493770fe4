use Rattle.std.proofs.Common.{refl, ◌∙◌}
use Rattle.ss_search_reached.proofs.Links.{neighbours_all}
use Rattle.ss_search_reached.proofs.linking.add_neighbours.Goals as goal

pub loop-i-init : goal.loop-i-init
loop-i-init c = refl

pub loop-i-preserved : goal.loop-i-preserved
loop-i-preserved c = c.in_ok-add_next.ensures ∙ c.loop-i.invariant

pub returns : goal.returns
returns c = neighbours_all c.args.ts.now c.loop-i.i c.loop-i.pairs.items _ c.loop-i-test.false c.loop-i.invariant
