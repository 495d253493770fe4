-- What stands after the beginning of a chain or a path is smaller than the whole.
use Rattle.std.proofs.Common.{◌≡◌, ◌<◌, List, Vec, Box, Global, rules, arith}
use Rattle.std.proofs.lemmas.Grind.{common_steps}
use Rattle.ss_core.specs.declared.names.Place.{Place}
use Rattle.ss_typed.specs.declared.expr.TypedExpr.{TypedExpr, the_lemmas}
use Rattle.ss_typed.specs.declared.expr.TypedExpr.TheViews as view
use Rattle.ss_typed.specs.declared.expr.TypedLink.{TypedLink}
use Rattle.ss_typed.specs.declared.expr.TypedStep.{TypedStep}
use Rattle.ss_typed.proofs.expr.TypedExpr.TheLaws as expr_laws
use Rattle.ss_typed.proofs.expr.TypedLink.TheLaws as link_laws
use Rattle.ss_typed.proofs.expr.TypedStep.TheLaws as step_laws
use denote.Param.Weighed.{most}

pub links_fall : (p : Place) (first : Box TypedExpr Global) (links : Vec TypedLink Global) (e : TypedExpr) (ls : List TypedLink)
    → e ≡ view.Chain p first links → ls ≡ links.items → most (λ (x : TypedLink). link_laws.the_size x) ls < expr_laws.the_size e
links_fall p first links e ls is ls_is = first_of (search (rules, the_lemmas), grind (arith, common_steps, the_lemmas))

pub steps_fall : (p : Place) (first : Box TypedExpr Global) (steps : Vec TypedStep Global) (e : TypedExpr) (ls : List TypedStep)
    → e ≡ view.Path p first steps → ls ≡ steps.items → most (λ (x : TypedStep). step_laws.the_size x) ls < expr_laws.the_size e
steps_fall p first steps e ls is ls_is = first_of (search (rules, the_lemmas), grind (arith, common_steps, the_lemmas))
