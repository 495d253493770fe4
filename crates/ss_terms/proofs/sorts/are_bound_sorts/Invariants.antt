use Rattle.std.proofs.Common.{◌≡◌, drop}
use Rattle.ss_logic.specs.Formulas.{are_bound_sorts}
use Rattle.ss_terms.proofs.sorts.are_bound_sorts.Given as goal

abbrev pub invariant-loop-sort : goal.invariant-loop-sort
invariant-loop-sort l = are_bound_sorts (drop l.sort-index l.sorts) ≡ are_bound_sorts l.sorts
