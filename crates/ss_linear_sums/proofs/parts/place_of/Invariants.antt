use Rattle.std.proofs.Common.{take}
use Rattle.ss_linear_sums.specs.Parts.{AreOthers}
use Rattle.ss_linear_sums.proofs.parts.place_of.Given as goal

abbrev pub invariant-loop-i : goal.invariant-loop-i
invariant-loop-i l = AreOthers l.bank l.t (take l.i l.parts)
