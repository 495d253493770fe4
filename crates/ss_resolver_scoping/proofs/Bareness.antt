-- What has a link or a postfix after it is no name.
use Rattle.std.proofs.Common.{◌≡◌, None, refl}
use Rattle.ss_core.specs.declared.names.Place.{Place}
use Rattle.ss_ast.specs.declared.expr.Expr.TheOpen as shape
use Rattle.ss_ast.specs.declared.expr.Expr.TheOpen.{Link-F, Postfix-F}
use Rattle.ss_ast.specs.Expressions.{ExprTree, Behind, link_step, postfix_step}
use Rattle.ss_resolver_names_rules.specs.Bare.{bare_name}

pub link_not_bare : (s : Link-F ExprTree Behind Behind) (at : Place) (t : ExprTree) → bare_name (link_step s at t) ≡ None
link_not_bare (shape.Operation op e) at t = refl
link_not_bare (shape.Is u) at t = refl
link_not_bare (shape.As u) at t = refl

pub postfix_not_bare : (s : Postfix-F ExprTree Behind Behind) (at : Place) (t : ExprTree) → bare_name (postfix_step s at t) ≡ None
postfix_not_bare (shape.Member n) at t = refl
postfix_not_bare (shape.Element e) at t = refl
postfix_not_bare (shape.Call es) at t = refl
