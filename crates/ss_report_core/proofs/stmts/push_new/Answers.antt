use Rattle.std.proofs.Common.{codes, map}
use Rattle.ss_core.specs.View as view
use Rattle.ss_report_names.specs.Names.{class_name}
use Rattle.ss_report_names.specs.Contexts.{core_of, classes_of, names_in}
use Rattle.ss_report_core.specs.Stmts.{kept_text, args_text}
use Rattle.ss_report_core.proofs.Written.{made_line}
use Rattle.ss_report_core.proofs.stmts.push_new.Goals as goal

pub returns : goal.returns
returns c =
    let s = c.args.context.now in
    let p = s.program.now in
    made_line _ _ _ _ _ _ c.args.indent.now (kept_text (names_in s) c.args.kept) (codes "new ") (class_name (classes_of p) c.args.t.0) (codes "(") (args_text (core_of p) (names_in s) (map view.expr c.args.args.now)) (codes ")") (codes "\n")
    c.in_ok-push_start.ensures c.in_ok-extend_from_slice.ensures.items c.in_ok-push_class.ensures c.push_arguments.ensures
