use Rattle.std.proofs.Common.{◌≡◌, ◌++◌, drop, map}
use Rattle.ss_core.specs.View as view
use Rattle.ss_report_names.specs.Contexts.{core_of}
use Rattle.ss_report_core.specs.Text.{classes_from, core_text}
use Rattle.ss_report_core.proofs.whole.push_classes.Given as goal

abbrev pub invariant-loop-k : goal.invariant-loop-k
invariant-loop-k l = l.out.items ++ classes_from (core_of l.program) l.k (map view.class_of (drop l.k l.classes)) ≡ l.fn.out.items ++ core_text (core_of l.program)
