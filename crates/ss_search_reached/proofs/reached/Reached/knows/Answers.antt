use Rattle.ss_search_reached.proofs.Marks.{knows_right}
use Rattle.ss_search_reached.proofs.reached.Reached.knows.Goals as goal

pub returns : goal.returns
returns c = knows_right c.args.bank.now c.numbers_are_apart.ensures c.args.self.now.numbers c.args.self.now.known.items c.args.f c.has.result c.requires.reached.has c.requires.formula c.requires.reached.marked c.has.ensures
