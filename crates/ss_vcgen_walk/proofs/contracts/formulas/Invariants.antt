use Rattle.std.proofs.Common.{◌≡◌, take}
use Rattle.ss_vcgen_walk.proofs.Holding.{formulas_in}
use Rattle.ss_vcgen_walk.proofs.contracts.formulas.Given as goal

abbrev pub invariant-loop-part : goal.invariant-loop-part
invariant-loop-part l = l.list.items ≡ formulas_in (take l.part-index l.parts)
