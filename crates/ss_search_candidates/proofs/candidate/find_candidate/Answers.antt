use Rattle.ss_terms.proofs.Grown.{HasFormulas-grown}
use Rattle.ss_search_candidates.proofs.candidate.find_candidate.Goals as goal

pub candidate_in-requires-2 : goal.candidate_in-requires-2
candidate_in-requires-2 c = HasFormulas-grown c.args.bank.now c.candidate_in.new.bank c.candidate_in.ensures.grown c.args.formulas.now c.requires
