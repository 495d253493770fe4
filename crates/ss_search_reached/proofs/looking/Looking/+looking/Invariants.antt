use Rattle.std.proofs.Common.{◌≡◌, ◌+◌, ◌*◌, take}
use Rattle.std.specs.List.{Contains}
use Rattle.ss_terms.specs.declared.forms.FormulaId.{FormulaId}
use Rattle.ss_search_reached.specs.Looks.{IsHolding, AreHolding}
use Rattle.ss_search_reached.proofs.looking.Looking.+looking.Given as goal

abbrev pub decreases-may_hold : goal.decreases-may_hold
decreases-may_hold l = 4 * l.f.0 + 3

abbrev pub decreases-new_may_hold : goal.decreases-new_may_hold
decreases-new_may_hold l = 4 * l.f.0 + 2

abbrev pub decreases-all_may_hold : goal.decreases-all_may_hold
decreases-all_may_hold l = 4 * l.bound

abbrev pub decreases-some_may_hold : goal.decreases-some_may_hold
decreases-some_may_hold l = 4 * l.bound + 1

abbrev pub decreases-first_open : goal.decreases-first_open
decreases-first_open l = 4 * l.bound

abbrev pub invariant-all_may_hold-loop-f : goal.invariant-all_may_hold-loop-f
invariant-all_may_hold-loop-f l = record {
  congruence : l.congruence ≡ l.initial.congruence;
  outcomes : AreHolding l.self l.outcomes;
  hold : (f : FormulaId) → Contains (take l.f-index l.fs) f → IsHolding l.self f;
}

abbrev pub invariant-first_open-loop-i : goal.invariant-first_open-loop-i
invariant-first_open-loop-i l = record { congruence : l.congruence ≡ l.initial.congruence; outcomes : AreHolding l.self l.outcomes }
