use Rattle.std.proofs.Common.{codes}
use Rattle.ss_core.specs.View as view
use Rattle.ss_report_names.specs.Names.{element_name}
use Rattle.ss_report_core.specs.Exprs.{expr_text}
use Rattle.ss_report_names.specs.Contexts.{classes_of, names_in}
use Rattle.ss_report_core.specs.Stmts.{kept_text}
use Rattle.ss_report_core.proofs.Written.{made_line}
use Rattle.ss_report_core.proofs.stmts.push_new_array.Goals as goal

pub returns : goal.returns
returns c =
    let s = c.args.context.now in
    let p = s.program.now in
    made_line _ _ _ _ _ _ c.args.indent.now (kept_text (names_in s) c.args.kept) (codes "new ") (element_name (classes_of p) c.args.t.0) (codes "[") (expr_text (classes_of p) (names_in s) (view.expr c.args.count.now)) (codes "]") (codes "\n")
    c.in_ok-push_start.ensures c.in_ok-extend_from_slice.ensures.items c.in_ok-push_element.ensures c.push_between.ensures
