use Rattle.std.proofs.Common.{◌≡◌, map, take}
use Rattle.ss_terms.specs.Forms.{terms_at}
use Rattle.ss_search_models.specs.Candidates.{class_at}
use Rattle.ss_search_models.proofs.candidate.Candidate.classes_of.Given as goal

abbrev pub invariant-loop-t : goal.invariant-loop-t
invariant-loop-t l = l.classes.items ≡ map (class_at l.bank l.self) (terms_at l.bank (take l.t-index l.ts))
