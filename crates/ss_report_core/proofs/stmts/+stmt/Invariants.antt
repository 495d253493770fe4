use Rattle.std.proofs.Common.{◌≡◌, ◌++◌, drop}
use Rattle.ss_core.specs.View as view
use Rattle.ss_report_names.specs.Contexts.{core_of, names_in}
use Rattle.ss_report_core.specs.Stmts.{code_text}
use Rattle.ss_report_core.proofs.stmts.+stmt.Given as goal

abbrev pub invariant-push_code-loop-stmt : goal.invariant-push_code-loop-stmt
invariant-push_code-loop-stmt l = l.out.items ++ code_text (core_of l.context.program.now) (names_in l.context) l.indent (view.block (drop l.stmt-index l.code)) ≡ l.fn.out.items ++ code_text (core_of l.context.program.now) (names_in l.context) l.indent (view.block l.code)
