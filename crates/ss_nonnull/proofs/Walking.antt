-- The parts of a chain and of a path, one after the other.
use Rattle.std.proofs.Common.{◌≡◌, ◌++◌, ◌+◌, ◌<◌, ◌≤◌, ℕ, length, take, get_or, map, List, Option, Vec, Box, Global, sym, ap, subst, ◌∙◌}
use Rattle.ss_core.specs.declared.names.Place.{Place}
use Rattle.ss_typed.specs.declared.expr.TypedExpr.{TypedExpr}
use Rattle.ss_typed.specs.declared.expr.TypedExpr.TheViews as view
use Rattle.ss_typed.specs.declared.expr.TypedLink.{TypedLink}
use Rattle.ss_typed.specs.declared.expr.TypedStep.{TypedStep}
use Rattle.ss_typed.specs.Tree.{ExprTree}
use Rattle.ss_typed.specs.View.{Behind, grouped, expr}
use Rattle.ss_faults.specs.declared.Fault.{Fault}
use Rattle.ss_nonnull_rules.specs.NonNull.{NullContext, Known}
use Rattle.ss_nonnull_rules.specs.Faults.{inside}
use Rattle.ss_typed.specs.Parts.{link_after, step_after}
use Rattle.std.proofs.lemmas.List.{take_all}
use Rattle.ss_typed.proofs.Grouping.{chain_is, path_is, grouped_more}
use Rattle.ss_nonnull_seen.specs.Seen.{Seen, seen, IsSeen, Leads}

pub chain_walked : (s : NullContext) (k : Option Known) (f0 f1 f2 : List Fault) (v0 v1 : Seen) (p : Place) (first : Box TypedExpr Global) (links : Vec TypedLink Global) (e f : TypedExpr) (ls : List TypedLink)
    → e ≡ view.Chain p first links → f ≡ first.value → ls ≡ links.items
    → v0 ≡ seen s k (expr f) → f1 ≡ f0 ++ inside s k (expr f)
    → Leads s k f1 v0 f2 v1 (λ (x : ExprTree). grouped p x (map link_after ls))
    → IsSeen s k f0 f2 v1 (expr e)
chain_walked s k f0 f1 f2 v0 v1 p first links e f ls is f_is ls_is h q leads =
    let whole : expr e ≡ grouped p (expr f) (map link_after ls) =
    ap expr is ∙ chain_is p first links
    ∙ ap (λ (x : TypedExpr). grouped p (expr x) (map link_after links.items)) (sym f_is)
    ∙ ap (λ (xs : List TypedLink). grouped p (expr f) (map link_after xs)) (sym ls_is) in
    subst (λ (t : ExprTree). IsSeen s k f0 f2 v1 t) (sym whole) (leads.on (expr f) f0 (record { is = h; noted = q }))

pub path_walked : (s : NullContext) (k : Option Known) (f0 f1 f2 : List Fault) (v0 v1 : Seen) (p : Place) (first : Box TypedExpr Global) (steps : Vec TypedStep Global) (e f : TypedExpr) (ls : List TypedStep)
    → e ≡ view.Path p first steps → f ≡ first.value → ls ≡ steps.items
    → v0 ≡ seen s k (expr f) → f1 ≡ f0 ++ inside s k (expr f)
    → Leads s k f1 v0 f2 v1 (λ (x : ExprTree). grouped p x (map step_after ls))
    → IsSeen s k f0 f2 v1 (expr e)
path_walked s k f0 f1 f2 v0 v1 p first steps e f ls is f_is ls_is h q leads =
    let whole : expr e ≡ grouped p (expr f) (map step_after ls) =
    ap expr is ∙ path_is p first steps
    ∙ ap (λ (x : TypedExpr). grouped p (expr x) (map step_after steps.items)) (sym f_is)
    ∙ ap (λ (xs : List TypedStep). grouped p (expr f) (map step_after xs)) (sym ls_is) in
    subst (λ (t : ExprTree). IsSeen s k f0 f2 v1 t) (sym whole) (leads.on (expr f) f0 (record { is = h; noted = q }))

-- the same part by another name
pub leads_by : (s : NullContext) (k : Option Known) (f0 f1 : List Fault) (from to : Seen) (a b : ExprTree → ExprTree)
    → ((e : ExprTree) → b e ≡ a e) → Leads s k f0 from f1 to a → Leads s k f0 from f1 to b
leads_by s k f0 f1 from to a b same leads = record {
  on = λ e before w. subst (λ (t : ExprTree). IsSeen s k before f1 to t) (sym (same e)) (leads.on e before w);
}

pub part_leads : {X : Type 0} (behind : X → Behind) (s : NullContext) (k : Option Known) (f0 f1 f2 : List Fault) (v0 v1 v2 : Seen) (p : Place) (xs : List X) (i : ℕ) (x : X)
    → i < length xs → x ≡ get_or xs i x
    → Leads s k f1 v1 f2 v2 (behind x p)
    → Leads s k f0 v0 f1 v1 (λ (e : ExprTree). grouped p e (map behind (take i xs)))
    → Leads s k f0 v0 f2 v2 (λ (e : ExprTree). grouped p e (map behind (take (i + 1) xs)))
part_leads behind s k f0 f1 f2 v0 v1 v2 p xs i x l is part so_far = record {
  on = λ e before w.
      subst (λ (t : ExprTree). IsSeen s k before f2 v2 t) (sym (grouped_more behind p e xs i x l is))
      (part.on (grouped p e (map behind (take i xs))) before (so_far.on e before w));
}

-- where all parts are gone over
pub parts_led : {X : Type 0} (behind : X → Behind) (s : NullContext) (k : Option Known) (f0 f1 : List Fault) (v0 v1 : Seen) (p : Place) (xs : List X) (i : ℕ) → length xs ≤ i
    → Leads s k f0 v0 f1 v1 (λ (e : ExprTree). grouped p e (map behind (take i xs))) → Leads s k f0 v0 f1 v1 (λ (e : ExprTree). grouped p e (map behind xs))
parts_led {X = X} behind s k f0 f1 v0 v1 p xs i l h = subst (λ (ys : List X). Leads s k f0 v0 f1 v1 (λ (e : ExprTree). grouped p e (map behind ys))) (take_all i xs l) h

-- before the first part
pub no_parts : {X : Type 0} (behind : X → Behind) (s : NullContext) (k : Option Known) (f : List Fault) (v : Seen) (p : Place) (xs : List X) → Leads s k f v f v (λ (e : ExprTree). grouped p e (map behind (take 0 xs)))
no_parts behind s k f v p xs = record { on = λ e before w. w }
