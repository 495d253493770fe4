use Rattle.std.proofs.Common.{◌++◌, take}
use Rattle.ss_vcgen_walk.specs.Parts.{parts_at, AreParts}
use Rattle.ss_vcgen_walk.proofs.guards.add_all.Given as goal

abbrev pub invariant-loop-part : goal.invariant-loop-part
invariant-loop-part l = AreParts l.bank l.parts.items (λ b. parts_at b l.initial.parts.items ++ parts_at b (take l.part-index l.list))
