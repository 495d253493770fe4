use Rattle.std.proofs.Common.{◌≡◌, ◌+◌, ◌*◌, take, true, false}
use Rattle.std.specs.List.{list_all, list_any}
use Rattle.ss_logic_countermodels.specs.Refuting.{comes_out}
use Rattle.ss_terms.specs.Forms.{formulas_at}
use Rattle.ss_search_models.specs.Candidates.{model_at}
use Rattle.ss_search_models.specs.Found.{AreOutcomes}
use Rattle.ss_search_models.proofs.outcomes.+finding.Given as goal

abbrev pub decreases-outcome : goal.decreases-outcome
decreases-outcome l = 3 * l.f.0 + 2

abbrev pub decreases-new_outcome : goal.decreases-new_outcome
decreases-new_outcome l = 3 * l.f.0 + 1

abbrev pub decreases-all_come_true : goal.decreases-all_come_true
decreases-all_come_true l = 3 * l.bound

abbrev pub decreases-some_come_true : goal.decreases-some_come_true
decreases-some_come_true l = 3 * l.bound

abbrev pub invariant-all_come_true-loop-f : goal.invariant-all_come_true-loop-f
invariant-all_come_true-loop-f l = record {
  outcomes : AreOutcomes l.bank (model_at l.bank l.candidate) l.outcomes;
  all : list_all (comes_out (model_at l.bank l.candidate)) (formulas_at l.bank (take l.f-index l.fs)) ≡ true;
}

abbrev pub invariant-some_come_true-loop-f : goal.invariant-some_come_true-loop-f
invariant-some_come_true-loop-f l = record {
  outcomes : AreOutcomes l.bank (model_at l.bank l.candidate) l.outcomes;
  none : list_any (comes_out (model_at l.bank l.candidate)) (formulas_at l.bank (take l.f-index l.fs)) ≡ false;
}
