use Rattle.std.proofs.Common.{take}
use Rattle.std.specs.List.{AllByRecursion}
use Rattle.ss_search_models.specs.Candidates.{model_at}
use Rattle.ss_search_models.specs.Said.{IsValueSaid}
use Rattle.ss_search_models.proofs.values.values_differ.Given as goal

abbrev pub invariant-loop-t : goal.invariant-loop-t
invariant-loop-t l = AllByRecursion (IsValueSaid l.signatures l.bank (model_at l.bank l.candidate)) (take l.t-index l.t-items)
