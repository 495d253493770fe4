use Rattle.std.proofs.Common.{◌≡◌, take}
use Rattle.std.specs.Prelude.{filter}
use Rattle.ss_terms.specs.Forms.{terms_at, HasTerms}
use Rattle.ss_rules_opened.specs.Matches.{is_wanted}
use Rattle.ss_rules_opened.proofs.triggers.all_wanted.Given as goal

abbrev pub invariant-loop-t : goal.invariant-loop-t
invariant-loop-t l = record {
  has : HasTerms l.bank l.kept.items;
  are : terms_at l.bank l.kept.items ≡ filter (is_wanted l.wanted) (terms_at l.bank (take l.t-index l.ts));
}
