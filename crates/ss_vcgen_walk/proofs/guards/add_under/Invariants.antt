use Rattle.std.proofs.Common.{◌++◌, take}
use Rattle.ss_terms.specs.Forms.{formula_at, IsGrown}
use Rattle.ss_vcgen_express.specs.Marked.{marked_under}
use Rattle.ss_vcgen_walk.specs.Parts.{parts_at, AreParts}
use Rattle.ss_vcgen_walk.proofs.guards.add_under.Given as goal

abbrev pub invariant-loop-part : goal.invariant-loop-part
invariant-loop-part l = record {
  grown : IsGrown l.initial.bank l.bank;
  done : AreParts l.bank l.parts.items (λ b. parts_at b l.initial.parts.items ++ marked_under (formula_at b l.f) (parts_at b (take l.part-index l.list)));
}
