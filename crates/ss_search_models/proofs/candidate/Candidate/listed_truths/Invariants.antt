use Rattle.std.proofs.Common.{◌≡◌, map, take}
use Rattle.ss_search_models.specs.Candidates.{truth_number}
use Rattle.ss_search_models.proofs.candidate.Candidate.listed_truths.Given as goal

abbrev pub invariant-loop-f : goal.invariant-loop-f
invariant-loop-f l = l.truths.items ≡ map (truth_number l.self) (take l.f-index l.self.told.now.list.items)
