use Rattle.ss_search_state.proofs.state.State.+add_term.Given as goal

abbrev pub decreases-add_term : goal.decreases-add_term
decreases-add_term l = l.fuel
