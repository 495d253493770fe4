-- What the parts of a chain and of a path make of what stands before them.
use Rattle.ss_ast.specs.declared.expr.Link.{Link}
use Rattle.ss_ast.specs.declared.expr.Postfix.{Postfix}
use Rattle.ss_ast.specs.declared.expr.Expr.TheFolds.{fold-Link, fold-Postfix}
use Rattle.ss_ast.specs.Expressions.{ExprTree, Behind, expr_step, link_step, postfix_step}

abbrev pub link_after : Link → Behind
link_after = fold-Link ExprTree Behind Behind expr_step link_step postfix_step

abbrev pub postfix_after : Postfix → Behind
postfix_after = fold-Postfix ExprTree Behind Behind expr_step link_step postfix_step
