use Rattle.std.proofs.Common.{◌≡◌, take}
use Rattle.ss_terms.specs.Forms.{term_at}
use Rattle.ss_linear_sums.specs.Linear as linear
use Rattle.ss_linear_rules.specs.Few.{one_at}
use Rattle.ss_linear_rules.specs.Valued as valued
use Rattle.ss_linear.proofs.facts.coefficient_of.Given as goal

abbrev pub invariant-loop-part : goal.invariant-loop-part
invariant-loop-part l = l.sum ≡ valued.parts_at (one_at (term_at l.bank l.t)) (linear.parts_at l.bank (take l.part-index l.parts))
