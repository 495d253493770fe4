use Rattle.std.proofs.Common.{◌++◌, map, take}
use Rattle.ss_terms.specs.Forms.{formulas_at, IsGrown}
use Rattle.ss_vcgen_express.specs.Marked.{with_marked}
use Rattle.ss_vcgen_express.specs.Contexts.{for_each}
use Rattle.ss_vcgen_walk.specs.Parts.{parts_at, AreParts}
use Rattle.ss_vcgen_walk.proofs.guards.add_for_each.Given as goal

abbrev pub invariant-loop-part : goal.invariant-loop-part
invariant-loop-part l = record {
  grown : IsGrown l.initial.bank l.bank;
  done : AreParts l.bank l.parts.items (λ b. parts_at b l.initial.parts.items ++ map (with_marked (for_each (formulas_at b l.out))) (parts_at b (take l.part-index l.list)));
}
