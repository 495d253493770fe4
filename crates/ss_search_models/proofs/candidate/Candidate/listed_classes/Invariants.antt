use Rattle.std.proofs.Common.{◌≡◌, map, take}
use Rattle.ss_equality_rules.specs.Equal.{class_number}
use Rattle.ss_search_models.proofs.candidate.Candidate.listed_classes.Given as goal

abbrev pub invariant-loop-t : goal.invariant-loop-t
invariant-loop-t l = l.classes.items ≡ map (class_number l.self.classes.now) (take l.t-index l.self.terms.now.list.items)
