use Rattle.std.proofs.Common.{drop}
use Rattle.ss_vcgen_heaps.specs.Positions as positions
use Rattle.ss_vcgen_express.specs.Marked.{checked_of}
use Rattle.ss_vcgen_walk.specs.Parts.{parts_at}
use Rattle.ss_vcgen_builder.specs.Builder.{position_at, walk_at}
use Rattle.ss_vcgen_builder.proofs.Builds.{Going}
use Rattle.ss_vcgen_statements.proofs.expressions.check_parts.Given as goal

abbrev pub invariant-loop-part : goal.invariant-loop-part
invariant-loop-part l =
    Going l.fn.builder l.builder (λ b k. positions.check_parts (walk_at b l.walk) (checked_of (parts_at b (drop l.part-index l.parts))) k) (λ b. positions.check_parts (walk_at b l.walk) (checked_of (parts_at b l.parts)) (position_at b l.fn.builder))
