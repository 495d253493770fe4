use Rattle.ss_journal.proofs.Links.{has_is}
use Rattle.ss_journal.proofs.places.Places.has.Goals as goal

pub returns : goal.returns
returns c = has_is c.args.self.now c.args.from c.args.q c.last.result c.last.ensures
