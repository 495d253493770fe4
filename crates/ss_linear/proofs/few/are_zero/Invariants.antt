use Rattle.std.proofs.Common.{take}
use Rattle.ss_terms.specs.Forms.{Forms}
use Rattle.ss_linear_sums.specs.Linear.{parts_at}
use Rattle.ss_linear_rules.specs.Few.{AreZero}
use Rattle.ss_linear.proofs.few.are_zero.Given as goal

abbrev pub invariant-loop-p : goal.invariant-loop-p
invariant-loop-p l = (b : Forms) → AreZero (parts_at b (take l.p-index l.parts))
