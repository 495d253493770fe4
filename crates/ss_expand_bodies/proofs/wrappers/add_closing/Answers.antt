use Rattle.std.proofs.Common.{◌++◌, List, [], ◌∷◌, ap, ◌∙◌, append_assoc}
use Rattle.ss_core.specs.Tree.{StmtTree, PackStmt, ReturnStmt}
use Rattle.ss_expand_rules.specs.Bodies as bodies
use Rattle.ss_expand_expressions.specs.Sources.{stmts_of}
use Rattle.ss_expand_bodies.proofs.wrappers.add_closing.Goals as goal

pub returns : goal.returns
returns c =
    let p = c.args.place in
    let first = PackStmt p c.args.x c.args.class.0 ∷ [] in
    let last = ReturnStmt p (bodies.returned p c.args.outcome) ∷ [] in
    c.in_ok-add_return.ensures
    ∙ ap (λ (ss : List StmtTree). ss ++ last) c.in_ok-add_pack.ensures
    ∙ append_assoc (stmts_of c.args.code.now) first last
