use Rattle.std.proofs.Common.{take}
use Rattle.ss_terms.specs.Forms.{term_at}
use Rattle.ss_linear_sums.specs.Linear.{parts_at}
use Rattle.ss_linear.specs.Results.{AreOthers}
use Rattle.ss_linear.proofs.steps.are_others.Given as goal

abbrev pub invariant-loop-part : goal.invariant-loop-part
invariant-loop-part l = AreOthers (term_at l.bank l.t) (parts_at l.bank (take l.part-index l.parts))
