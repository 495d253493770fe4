use Rattle.std.proofs.Common.{◌≡◌, ◌++◌, map, drop}
use Rattle.ss_core.specs.View.{class_of}
use Rattle.ss_owners.specs.Marked.{marks_in}
use Rattle.ss_owners.proofs.marks.add_classes.Given as goal

abbrev pub invariant-loop-class : goal.invariant-loop-class
invariant-loop-class l = l.marks.items ++ marks_in (map class_of (drop l.class-index l.list)) ≡ l.initial.marks.items ++ marks_in (map class_of l.list)
