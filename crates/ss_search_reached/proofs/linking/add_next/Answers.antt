use Rattle.ss_search_reached.proofs.Links.{next_there, next_missing}
use Rattle.ss_search_reached.proofs.linking.add_next.Goals as goal

pub returns-in_ok-push : goal.returns-in_ok-push
returns-in_ok-push c = next_there c.args.ts.now c.args.i (record { 0 = 0 }) c.args.pairs.now.items c.push.new.self.items c.if-next-ts.true c.in_ok-push.ensures.items

pub returns-else-next-ts : goal.returns-else-next-ts
returns-else-next-ts c = next_missing c.args.ts.now c.args.i c.args.pairs.now.items c.if-next-ts.false
