use Rattle.ss_search_candidates.proofs.numbers.add_equality.Goals as goal

pub add_pair-requires-clause-term : goal.add_pair-requires-clause-term
add_pair-requires-clause-term c = c.is_whole.ensures c.if-not-is_whole.false
