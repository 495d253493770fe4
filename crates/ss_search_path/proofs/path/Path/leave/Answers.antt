use Rattle.ss_search_path.proofs.path.Path.leave.Goals as goal

pub returns-clause-behind : goal.returns-clause-behind
returns-clause-behind c = c.in_ok-pour.ensures.onto
