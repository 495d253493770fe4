-- What stands after the beginning of a chain or a path is smaller than the whole.
use Rattle.std.proofs.Common.{◌≡◌, ◌<◌, ◌≤◌, ℕ, zero, suc, List, [], ◌∷◌, Vec, Box, Global, drop, ap, arith}
use Rattle.ss_core.specs.declared.names.Place.{Place}
use Rattle.ss_typed.specs.declared.expr.TypedExpr.{TypedExpr}
use Rattle.ss_typed.specs.declared.expr.TypedExpr.TheViews as view
use Rattle.ss_typed.specs.declared.expr.TypedLink.{TypedLink}
use Rattle.ss_typed.specs.declared.expr.TypedStep.{TypedStep}
use Rattle.ss_typed.proofs.Falls.{links_fall as all_links_fall, steps_fall as all_steps_fall}
use Rattle.ss_typed.proofs.expr.TypedExpr.TheLaws as expr_laws
use Rattle.ss_typed.proofs.expr.TypedLink.TheLaws as link_laws
use Rattle.ss_typed.proofs.expr.TypedStep.TheLaws as step_laws
use denote.Param.Weighed.{most}

most_after : {X : Type 0} (w : X → ℕ) (xs : List X) (n : ℕ) → most w (drop n xs) ≤ most w xs
most_after w [] zero = omega arith
most_after w [] (suc n) = omega arith
most_after w (x ∷ xs) zero = omega arith
most_after w (x ∷ xs) (suc n) = let h : most w (drop n xs) ≤ most w xs = most_after w xs n in omega arith

pub links_fall : (p : Place) (first : Box TypedExpr Global) (links : Vec TypedLink Global) (e : TypedExpr) (ls rest : List TypedLink) (n : ℕ)
    → e ≡ view.Chain p first links → ls ≡ links.items → rest ≡ drop n ls → most (λ (x : TypedLink). link_laws.the_size x) rest < expr_laws.the_size e
links_fall p first links e ls rest n is ls_is rest_is =
    let w : TypedLink → ℕ = λ x. link_laws.the_size x in
    let all : most w ls < expr_laws.the_size e = all_links_fall p first links e ls is ls_is in
    let behind : most w (drop n ls) ≤ most w ls = most_after w ls n in
    let same : most w rest ≡ most w (drop n ls) = ap (most w) rest_is in
    omega arith

pub steps_fall : (p : Place) (first : Box TypedExpr Global) (steps : Vec TypedStep Global) (e : TypedExpr) (ls rest : List TypedStep) (n : ℕ)
    → e ≡ view.Path p first steps → ls ≡ steps.items → rest ≡ drop n ls → most (λ (x : TypedStep). step_laws.the_size x) rest < expr_laws.the_size e
steps_fall p first steps e ls rest n is ls_is rest_is =
    let w : TypedStep → ℕ = λ x. step_laws.the_size x in
    let all : most w ls < expr_laws.the_size e = all_steps_fall p first steps e ls is ls_is in
    let behind : most w (drop n ls) ≤ most w ls = most_after w ls n in
    let same : most w rest ≡ most w (drop n ls) = ap (most w) rest_is in
    omega arith
