use Rattle.std.proofs.Common.{◌≡◌, ◌+◌, ◌*◌, ◌≤◌, length}
use Rattle.ss_logic.specs.Terms.{terms_from}
use Rattle.ss_logic.specs.Matching as spec
use Rattle.ss_terms.specs.Forms.{terms_at}
use Rattle.ss_rules_opened.specs.Matches.{all_found_at, HasAllFound}
use Rattle.ss_rules_opened.proofs.Finding.{left_from}
use Rattle.ss_rules_opened.proofs.matching.+matching.Given as goal

abbrev pub decreases-matched : goal.decreases-matched
decreases-matched l = 3 * l.pattern.0 + 2

abbrev pub decreases-matched_at : goal.decreases-matched_at
decreases-matched_at l = 3 * l.bound + 1

abbrev pub decreases-all_matched : goal.decreases-all_matched
decreases-all_matched l = 3 * l.bound

abbrev pub invariant-all_matched-loop-i : goal.invariant-all_matched-loop-i
invariant-all_matched-loop-i l = record {
  has : HasAllFound l.context.bank.now l.found;
  left : left_from l.context.bank.now l.found l.patterns l.ts l.i ≡ spec.all_matched (all_found_at l.context.bank.now l.initial.found) (terms_from (terms_at l.context.bank.now l.patterns)) (terms_from (terms_at l.context.bank.now l.ts));
}
