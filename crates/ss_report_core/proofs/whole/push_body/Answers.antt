use Rattle.std.proofs.Common.{ℕ, List, [], ◌++◌, append_assoc, codes}
use Rattle.ss_core.specs.View as view
use Rattle.ss_report_names.specs.Names.{title, local_names}
use Rattle.ss_report_names.specs.Contexts.{core_of, classes_of}
use Rattle.ss_report_core.specs.Stmts.{line, deeper, code_text}
use Rattle.ss_report_core.proofs.Written.{three_written}
use Rattle.ss_report_core.proofs.whole.push_body.Goals as goal

pub returns : goal.returns
returns c =
    let p = c.args.program.now in
    let b = view.body c.args.body.now in
    let first : List ℕ = line [] (codes "body " ++ title (classes_of p) b) in
    let code : List ℕ = code_text (core_of p) (local_names b) (deeper []) b.code in
    let last : List ℕ = line [] (codes "end") in
    three_written _ _ _ _ _ first code last _ c.in_ok-push_title_line.ensures c.in_ok-push_statements.ensures (append_assoc first code last) c.push_bytes.ensures
