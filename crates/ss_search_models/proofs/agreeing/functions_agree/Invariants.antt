use Rattle.std.proofs.Common.{take}
use Rattle.std.specs.List.{AllByRecursion}
use Rattle.ss_terms.specs.Forms.{term_at}
use Rattle.ss_search_models.specs.Candidates.{model_at}
use Rattle.ss_search_models.specs.Said.{IsFunctionSaid}
use Rattle.ss_search_models.proofs.agreeing.functions_agree.Given as goal

abbrev pub invariant-loop-t : goal.invariant-loop-t
invariant-loop-t l = AllByRecursion (λ t. IsFunctionSaid l.signatures (model_at l.bank l.candidate) (term_at l.bank t)) (take l.t-index l.t-items)
