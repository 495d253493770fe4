use Rattle.ss_vcgen_walk.proofs.Growing.{with_name_is}
use Rattle.ss_vcgen_walk.proofs.contexts.with_bound.Goals as goal

pub returns-in-Some-clause-at : goal.returns-in-Some-clause-at
returns-in-Some-clause-at c = with_name_is c.with_name.result c.args.bank.now c.term.new.self c.args.context.now c.in_ok-name.name c.term.ensures.grown c.requires c.in_ok-name.ensures.at.0 c.in_ok-name.ensures.at.1 c.with_name.ensures
