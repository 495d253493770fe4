use Rattle.std.proofs.lemmas.Option.{IfSome_then}
use Rattle.ss_search_clashes.proofs.Ending.{found_end, found_none}
use Rattle.ss_search_clashes.proofs.ends.end_of.Goals as goal

pub returns-clause-gone : goal.returns-clause-gone
returns-clause-gone c = IfSome_then c.end_at.result c.end_at.ensures.some (λ j p. found_end c.args.joins.now c.args.ends.now c.requires c.args.class j p)

pub returns-clause-going : goal.returns-clause-going
returns-clause-going c = λ none. found_none c.args.joins.now c.args.ends.now c.requires c.args.class (c.end_at.ensures.none none)
