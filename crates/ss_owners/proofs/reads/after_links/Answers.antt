use Rattle.std.proofs.Common.{length, refl}
use Rattle.ss_owners.proofs.Reading.{some_links}
use Rattle.ss_owners.proofs.reads.after_links.Goals as goal

pub returns-else-is_empty : goal.returns-else-is_empty
returns-else-is_empty c = λ ms p e h. some_links ms p e c.args.links.now (length c.args.links.now) c.nothing.result refl c.if-is_empty.ensures c.nothing.ensures
