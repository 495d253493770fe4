use Rattle.std.proofs.Common.{◌++◌, List, [], ◌∷◌, ap, ◌∙◌, append_assoc}
use Rattle.ss_core.specs.Tree.{StmtTree, LocalExpr, AssignStmt, UnpackStmt}
use Rattle.ss_expand_expressions.specs.Sources.{stmts_of}
use Rattle.ss_expand_bodies.proofs.wrappers.add_opening.Goals as goal

pub returns : goal.returns
returns c =
    let p = c.args.place in
    let x = c.args.x in
    let first = AssignStmt p x (LocalExpr p 0) ∷ [] in
    let last = UnpackStmt p x c.args.class.0 ∷ [] in
    c.in_ok-add_unpack.ensures
    ∙ ap (λ (ss : List StmtTree). ss ++ last) c.in_ok-add_this.ensures
    ∙ append_assoc (stmts_of c.args.code.now) first last
