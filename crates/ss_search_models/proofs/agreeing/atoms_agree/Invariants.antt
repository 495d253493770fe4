use Rattle.std.proofs.Common.{take}
use Rattle.std.specs.List.{AllByRecursion}
use Rattle.ss_terms.specs.Forms.{formula_at}
use Rattle.ss_search_models.specs.Candidates.{model_at}
use Rattle.ss_search_models.specs.Said.{IsAtomSaid}
use Rattle.ss_search_models.proofs.agreeing.atoms_agree.Given as goal

abbrev pub invariant-loop-f : goal.invariant-loop-f
invariant-loop-f l = AllByRecursion (λ f. IsAtomSaid l.signatures (model_at l.bank l.candidate) (formula_at l.bank f)) (take l.f-index l.f-items)
