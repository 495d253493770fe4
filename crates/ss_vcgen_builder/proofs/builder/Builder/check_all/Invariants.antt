use Rattle.std.proofs.Common.{drop}
use Rattle.ss_terms.specs.Forms.{formulas_at}
use Rattle.ss_vcgen_heaps.specs.Positions as spec
use Rattle.ss_vcgen_builder.specs.Builder.{position_at, walk_at}
use Rattle.ss_vcgen_builder.proofs.Builds.{Going}
use Rattle.ss_vcgen_builder.proofs.builder.Builder.check_all.Given as goal

abbrev pub invariant-loop-f : goal.invariant-loop-f
invariant-loop-f l = Going l.fn.self l.self (λ b k. spec.check_all (walk_at b l.walk) l.kind l.place (formulas_at b (drop l.f-index l.fs)) k) (λ b. spec.check_all (walk_at b l.walk) l.kind l.place (formulas_at b l.fs) (position_at b l.fn.self))
