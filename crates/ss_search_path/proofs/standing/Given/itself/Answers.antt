use Rattle.std.proofs.Common.{length, arith}
use Rattle.ss_search_path.proofs.StandingFacts.{whole_fact}
use Rattle.ss_search_path.proofs.standing.Given.itself.Goals as goal

pub returns : goal.returns
returns c = λ cs known f at formed. whole_fact cs c.args.self.now known c.args.place (length c.args.self.now.choices.now) f (omega arith) at formed
