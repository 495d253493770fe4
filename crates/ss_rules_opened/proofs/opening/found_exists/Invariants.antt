use Rattle.std.proofs.Common.{◌≡◌, take, None}
use Rattle.std.specs.Prelude.{find}
use Rattle.ss_logic.specs.Opened.{is_exists}
use Rattle.ss_terms.specs.Forms.{formulas_at}
use Rattle.ss_rules_opened.proofs.opening.found_exists.Given as goal

abbrev pub invariant-loop-f : goal.invariant-loop-f
invariant-loop-f l = find is_exists (formulas_at l.bank (take l.f-index l.fs)) ≡ None
