use Rattle.std.proofs.Common.{◌≡◌, drop, map}
use Rattle.ss_core.specs.View.{class_of}
use Rattle.ss_logic.specs.Rules.{stands_beside}
use Rattle.ss_rules_basic.proofs.classes.is_beside_any.Given as goal

abbrev pub invariant-loop-class : goal.invariant-loop-class
invariant-loop-class l = stands_beside (map class_of (drop l.class-index l.classes.list.items)) l.t ≡ stands_beside (map class_of l.classes.list.items) l.t
