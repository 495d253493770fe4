use Rattle.std.proofs.Common.{◌≡◌, ◌^◌}
use Rattle.ss_search_procedure.proofs.powers.is_within.Given as goal

abbrev pub invariant-loop-i : goal.invariant-loop-i
invariant-loop-i l = l.power ≡ l.base ^ l._i
