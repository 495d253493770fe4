-- What stands after the beginning of a chain or a path is smaller than the whole.
use Rattle.std.proofs.Common.{◌≡◌, ◌<◌, List, Vec, Box, Global, rules, arith}
use Rattle.std.proofs.lemmas.Grind.{common_steps}
use Rattle.ss_core.specs.declared.names.Place.{Place}
use Rattle.ss_ast.specs.declared.expr.Expr.{Expr, the_lemmas}
use Rattle.ss_ast.specs.declared.expr.Expr.TheViews as view
use Rattle.ss_ast.specs.declared.expr.Link.{Link}
use Rattle.ss_ast.specs.declared.expr.Postfix.{Postfix}
use Rattle.ss_ast.proofs.expr.Expr.TheLaws as expr_laws
use Rattle.ss_ast.proofs.expr.Link.TheLaws as link_laws
use Rattle.ss_ast.proofs.expr.Postfix.TheLaws as postfix_laws
use denote.Param.Weighed.{most}

pub links_fall : (p : Place) (first : Box Expr Global) (links : Vec Link Global) (e : Expr) (ls : List Link)
    → e ≡ view.Chain p first links → ls ≡ links.items → most (λ (x : Link). link_laws.the_size x) ls < expr_laws.the_size e
links_fall p first links e ls is ls_is = first_of (search (rules, the_lemmas), grind (arith, common_steps, the_lemmas))

pub postfixes_fall : (p : Place) (first : Box Expr Global) (postfixes : Vec Postfix Global) (e : Expr) (ls : List Postfix)
    → e ≡ view.Path p first postfixes → ls ≡ postfixes.items → most (λ (x : Postfix). postfix_laws.the_size x) ls < expr_laws.the_size e
postfixes_fall p first postfixes e ls is ls_is = first_of (search (rules, the_lemmas), grind (arith, common_steps, the_lemmas))
