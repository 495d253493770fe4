use Rattle.std.proofs.Common.{◌≡◌, replicate, None}
use Rattle.ss_rules_opened.proofs.matching.nothing_found.Given as goal

abbrev pub invariant-loop-number : goal.invariant-loop-number
invariant-loop-number l = l.found.items ≡ replicate l.number None
