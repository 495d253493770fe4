use Rattle.std.proofs.Common.{◌≡◌, ◌++◌, drop, map}
use Rattle.std.specs.List.{flat_map}
use Rattle.ss_core.specs.View as view
use Rattle.ss_report_names.specs.Contexts.{core_of, names_in}
use Rattle.ss_report_core.specs.Stmts.{after_comma}
use Rattle.ss_report_core.proofs.stmts.push_more_args.Given as goal

abbrev pub invariant-loop-arg : goal.invariant-loop-arg
invariant-loop-arg l = l.out.items ++ flat_map (after_comma (core_of l.context.program.now) (names_in l.context)) (map view.expr (drop l.arg-index l.args)) ≡ l.fn.out.items ++ flat_map (after_comma (core_of l.context.program.now) (names_in l.context)) (map view.expr l.args)
