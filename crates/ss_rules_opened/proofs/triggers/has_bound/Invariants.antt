use Rattle.std.proofs.Common.{◌≡◌, true}
use Rattle.ss_logic.specs.Terms.{terms_from}
use Rattle.ss_logic.specs.Matching.{has_bound}
use Rattle.ss_terms.specs.Forms.{terms_at}
use Rattle.ss_rules_opened.proofs.triggers.has_bound.Given as goal

abbrev pub invariant-loop-name : goal.invariant-loop-name
invariant-loop-name l = has_bound l.name (terms_from (terms_at l.bank l.ts)) ≡ true
