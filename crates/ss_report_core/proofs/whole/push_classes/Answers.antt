use Rattle.std.proofs.Common.{◌++◌, ap}
use Rattle.ss_report_names.specs.Contexts.{core_of}
use Rattle.ss_report_core.specs.Text.{classes_from}
use Rattle.ss_report_core.proofs.ClassSteps.{class_written}
use Rattle.ss_report_core.proofs.whole.push_classes.Goals as goal

pub loop-k-init : goal.loop-k-init
loop-k-init c = ap (λ ds. c.args.out.now.items ++ classes_from (core_of c.args.program.now) 0 ds) c.requires.classes

pub loop-k-preserved : goal.loop-k-preserved
loop-k-preserved c =
    class_written (core_of c.args.program.now) c.loop-k.k c.args.classes.now c.index-classes-k.result c.args.table.now c.index-table-k.result c.deref.result.now _ _ _
    c.requires.table c.loop-k-test.true c.index-classes-k.is c.index-table-k.is c.deref.ensures.value c.in_ok-push_class_text.ensures c.loop-k.invariant
