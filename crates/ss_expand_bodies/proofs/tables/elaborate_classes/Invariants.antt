use Rattle.std.proofs.Common.{◌≡◌, ◌+◌, ◌*◌, ◌++◌, map, drop}
use Rattle.ss_core.specs.View as core
use Rattle.ss_typed.specs.View as typed
use Rattle.ss_expand_rules.specs.Elaborated as elaborated
use Rattle.ss_expand_bodies.proofs.tables.elaborate_classes.Given as goal

abbrev pub invariant-loop-class : goal.invariant-loop-class
invariant-loop-class l =
    let program = typed.typed l.program in
    record {
      listed : map core.class_of l.list.items ++ elaborated.classes_from program l.number (map core.class_of (drop l.class-index l.class-items)) ≡ elaborated.classes_from program 4 (core.classes l.program.classes);
      number : l.number ≡ 4 + 2 * l.class-index;
    }
