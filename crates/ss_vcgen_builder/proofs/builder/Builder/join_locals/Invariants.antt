use Rattle.std.proofs.Common.{drop}
use Rattle.ss_vcgen_builder.specs.Builder.{guard_of}
use Rattle.ss_vcgen_builder.proofs.Joining.{Joining}
use Rattle.ss_vcgen_builder.proofs.builder.Builder.join_locals.Given as goal

abbrev pub invariant-loop-i : goal.invariant-loop-i
invariant-loop-i l = Joining (guard_of l.first) (guard_of l.second) l.fn.self l.types l.firsts l.seconds l.self l.joined.items (drop l.i l.types) (drop l.i l.firsts) (drop l.i l.seconds)
