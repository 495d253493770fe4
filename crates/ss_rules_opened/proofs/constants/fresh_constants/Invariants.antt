use Rattle.std.proofs.Common.{◌≡◌}
use Rattle.ss_logic.specs.Opened.{fresh_constants}
use Rattle.ss_terms.specs.Forms.{terms_at, HasTerms, IsGrown}
use Rattle.ss_rules_opened.proofs.Fresh.{fresh_from}
use Rattle.ss_rules_opened.proofs.constants.fresh_constants.Given as goal

abbrev pub invariant-loop-sort : goal.invariant-loop-sort
invariant-loop-sort l = record {
  grown : IsGrown l.initial.bank l.bank;
  has_taken : HasTerms l.bank l.taken.items;
  has_made : HasTerms l.bank l.made.items;
  left : fresh_from l.sorts l.sort-index (terms_at l.bank l.made.items) (terms_at l.bank l.taken.items) ≡ fresh_constants l.sorts (terms_at l.initial.bank l.used);
}
