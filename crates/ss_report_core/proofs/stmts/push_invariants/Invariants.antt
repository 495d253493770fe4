use Rattle.std.proofs.Common.{◌≡◌, ◌++◌, drop, map}
use Rattle.std.specs.List.{flat_map}
use Rattle.ss_core.specs.View as view
use Rattle.ss_report_names.specs.Contexts.{core_of, names_in}
use Rattle.ss_report_core.specs.Stmts.{invariant_text}
use Rattle.ss_report_core.proofs.stmts.push_invariants.Given as goal

abbrev pub invariant-loop-e : goal.invariant-loop-e
invariant-loop-e l = l.out.items ++ flat_map (invariant_text (core_of l.context.program.now) (names_in l.context) l.indent) (map view.expr (drop l.e-index l.invariants)) ≡ l.fn.out.items ++ flat_map (invariant_text (core_of l.context.program.now) (names_in l.context) l.indent) (map view.expr l.invariants)
