use Rattle.std.proofs.Common.{◌≡◌}
use Rattle.ss_logic.specs.Matching as spec
use Rattle.ss_terms.specs.Forms.{HasTerms}
use Rattle.ss_rules_opened.specs.Matches.{all_found_at}
use Rattle.ss_rules_opened.proofs.Finding.{all_from}
use Rattle.ss_rules_opened.proofs.matching.all_found.Given as goal

abbrev pub invariant-loop-o : goal.invariant-loop-o
invariant-loop-o l = record {
  has : HasTerms l.bank l.ts.items;
  left : all_from l.bank l.ts.items l.found l.o-index ≡ spec.all_found (all_found_at l.bank l.found);
}
