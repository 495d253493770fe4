use Rattle.std.proofs.Common.{◌≡◌, ◌++◌, drop, map}
use Rattle.ss_core.specs.View.{class_of}
use Rattle.ss_terms.specs.Forms.{field_sorts}
use Rattle.ss_terms.proofs.sorts.field_sorts.Given as goal

abbrev pub invariant-loop-class : goal.invariant-loop-class
invariant-loop-class l = l.sorts.items ++ field_sorts (map class_of (drop l.class-index l.classes.list.items)) ≡ field_sorts (map class_of l.classes.list.items)
