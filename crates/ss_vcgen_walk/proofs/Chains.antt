-- Chains and paths by what they begin with.
use Rattle.std.proofs.Common.{◌≡◌, List, Box, Vec, Global, sym, ap, ◌∙◌}
use Rattle.ss_core.specs.declared.names.Place.{Place}
use Rattle.ss_core.specs.declared.expr.Expr.{Expr}
use Rattle.ss_core.specs.declared.expr.Link.{Link}
use Rattle.ss_core.specs.declared.expr.Step.{Step}
use Rattle.ss_core.specs.declared.expr.Expr.TheFolds.{fold-roll-Expr}
use Rattle.ss_core.specs.declared.expr.Expr.TheVariants.{Chain, rolls-Chain, Path, rolls-Path}
use Rattle.ss_core.specs.declared.expr.Expr.TheOpen as shape
use Rattle.ss_core.specs.Tree.{ExprTree}
use Rattle.ss_core.specs.View.{Behind, expr_step, link_step, step_step, expr}
use Rattle.ss_core.specs.Parts.{chain_front, path_front}

pub chain_so : (e : Expr) (p : Place) (first : Box Expr Global) (links : Vec Link Global) (x : Expr) (ls : List Link) → e ≡ Chain p first links → x ≡ first.value → ls ≡ links.items → chain_front p (expr x) ls ≡ expr e
chain_so e p first links x ls is h k =
    ap (λ u. chain_front p (expr u) ls) h ∙ ap (λ l. chain_front p (expr first.value) l) k
    ∙ sym (ap expr (sym (rolls-Chain p first links)) ∙ fold-roll-Expr ExprTree Behind Behind expr_step link_step step_step (shape.Chain p first links)) ∙ ap expr (sym is)

pub path_so : (e : Expr) (p : Place) (first : Box Expr Global) (steps : Vec Step Global) (x : Expr) (ls : List Step) → e ≡ Path p first steps → x ≡ first.value → ls ≡ steps.items → path_front p (expr x) ls ≡ expr e
path_so e p first steps x ls is h k =
    ap (λ u. path_front p (expr u) ls) h ∙ ap (λ l. path_front p (expr first.value) l) k
    ∙ sym (ap expr (sym (rolls-Path p first steps)) ∙ fold-roll-Expr ExprTree Behind Behind expr_step link_step step_step (shape.Path p first steps)) ∙ ap expr (sym is)
