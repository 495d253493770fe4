use Rattle.std.proofs.Common.{List, ◌≡◌, ◌++◌, OnOk, ap, subst, ◌∙◌, codes}
use Rattle.std.proofs.lemmas.List.{append-nil}
use Rattle.ss_core.specs.declared.stmt.Stmt.{Stmt}
use Rattle.ss_core.specs.View as view
use Rattle.ss_report_names.specs.Names.{local_names}
use Rattle.ss_report_names.specs.Contexts.{core_of}
use Rattle.ss_report_core.specs.Stmts.{code_text}
use Rattle.ss_report_core.proofs.whole.push_statements.Goals as goal

pub returns : goal.returns
returns c =
    let p = core_of c.args.program.now in
    let b = view.body c.args.body.now in
    let out = c.args.out.now.items in
    let names_are = append-nil (local_names (view.body c.in_ok-locals.locals.body.now)) ∙ ap local_names c.in_ok-locals.ensures in
    subst (λ (ss : List Stmt). OnOk c.push_code.result (c.push_code.new.out.items ≡ out ++ code_text p (local_names b) (codes "  ") (view.block ss))) c.deref.ensures.value
    (subst (λ names. OnOk c.push_code.result (c.push_code.new.out.items ≡ out ++ code_text p names (codes "  ") (view.block c.deref.result.now))) names_are c.push_code.ensures)
