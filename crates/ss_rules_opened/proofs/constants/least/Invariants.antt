use Rattle.std.proofs.Common.{◌≡◌, ◌-◌, ◌≤◌, length}
use Rattle.ss_logic.specs.Opened.{least_from}
use Rattle.ss_terms.specs.Forms.{terms_at}
use Rattle.ss_rules_opened.proofs.constants.least.Given as goal

abbrev pub invariant-loop-k : goal.invariant-loop-k
invariant-loop-k l = record {
  within : l.k ≤ length l.ts;
  left : least_from (length (terms_at l.bank l.ts) - l.k) l.k l.sort (terms_at l.bank l.ts) ≡ least_from (length (terms_at l.bank l.ts)) 0 l.sort (terms_at l.bank l.ts);
}
