use Rattle.std.proofs.Common.{◌≡◌, ◌+◌, ◌*◌, map, take}
use Rattle.ss_core.specs.View as view
use Rattle.ss_logic.specs.Asked as spec
use Rattle.ss_rules_asked_first.specs.Named.{AreArguments}
use Rattle.ss_rules_asked_first.proofs.names.with_invariants.Given as goal

abbrev pub invariant-loop-class : goal.invariant-loop-class
invariant-loop-class l = record {
  number : l.t ≡ 4 + 2 * l.class-index;
  names : AreArguments l.bank l.names.items (spec.with_invariants_from 4 (map view.class_of (take l.class-index l.classes.list.items)));
}
