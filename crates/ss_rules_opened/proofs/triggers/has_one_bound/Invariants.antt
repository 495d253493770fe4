use Rattle.std.proofs.Common.{◌≡◌, take, false}
use Rattle.std.specs.List.{list_any}
use Rattle.ss_logic.specs.Matching.{is_bound}
use Rattle.ss_terms.specs.Forms.{terms_at}
use Rattle.ss_rules_opened.proofs.triggers.has_one_bound.Given as goal

abbrev pub invariant-loop-t : goal.invariant-loop-t
invariant-loop-t l = list_any (is_bound l.name) (terms_at l.bank (take l.t-index l.ts)) ≡ false
