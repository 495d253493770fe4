use Rattle.std.proofs.Common.{map, drop, slice_get}
use Rattle.ss_core.specs.View.{classes, class_of}
use Rattle.ss_core.specs.Chain.{all_fields}
use Rattle.ss_core.proofs.class.Classes.field.Given as goal
use Rattle.ss_core.proofs.Fields.{IsBefore}

abbrev pub invariant-loop-class : goal.invariant-loop-class
invariant-loop-class l = IsBefore (map class_of (drop l.class-index l.class-items)) l.class-index l.number l.left (slice_get (all_fields (classes l.self)) l.fn.f.0)
