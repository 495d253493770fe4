-- The reads of an invariant, part by part.
use Rattle.std.proofs.Common.{◌≡◌, ◌++◌, ◌+◌, ◌<◌, ◌≤◌, ℕ, length, take, get_or, List, [], ◌∷◌, map, false, Vec, Box, Global, String, refl, sym, ap, subst, ◌∙◌, append_assoc, append-nil}
use Rattle.std.specs.Prelude.{◌==◌}
use Rattle.ss_core.specs.declared.names.Place.{Place}
use Rattle.ss_core.specs.declared.names.Mark.{Mark}
use Rattle.ss_core.specs.declared.expr.Quantifier.{Quantifier}
use Rattle.ss_typed.specs.declared.expr.TypedExpr.{TypedExpr}
use Rattle.ss_typed.specs.declared.expr.TypedLink.{TypedLink}
use Rattle.ss_typed.specs.declared.expr.TypedStep.{TypedStep}
use Rattle.ss_typed.specs.declared.expr.TypedExpr.TheViews as view
use Rattle.ss_typed.specs.declared.expr.TypedExpr.TheOpen as shape
use Rattle.ss_typed.specs.declared.expr.TypedExpr.TheOpen.{TypedLink-F}
use Rattle.ss_typed.specs.Tree.{ExprTree}
use Rattle.ss_typed.specs.View.{Behind, grouped, link_step, expr}
use Rattle.ss_typed.specs.Parts.{link_after, step_after}
use Rattle.ss_typed.proofs.Grouping.{chain_is, chain_some, grouped_more, link_shape, quantified_is}
use Rattle.std.proofs.lemmas.List.{take_all}
use Rattle.ss_owners_rules.specs.Admissible.{inadmissible}
use Rattle.ss_owners.specs.declared.reads.Reached.{Reached}
use Rattle.ss_owners.specs.Parts.{no_place, nothing}
use Rattle.ss_owners.specs.Reads.{reached, nothing_reached, link_reads, links_reads, IsRead, Leads}
use Rattle.ss_owners.proofs.Added.{joined, three_joined}

-- ---- chains

link_added : (ms : List Mark) (s : TypedLink-F ExprTree Behind Behind) (p : Place) (t : ExprTree) → inadmissible ms (link_step s p t) ≡ inadmissible ms t ++ inadmissible ms (link_step s no_place nothing)
link_added ms (shape.Operation op e) p t = refl
link_added ms (shape.Is c) p t = sym (append-nil (inadmissible ms t))
link_added ms (shape.As c) p t = sym (append-nil (inadmissible ms t))

reads_link : (ms : List Mark) (l : TypedLink) (p : Place) (t : ExprTree) → inadmissible ms (link_after l p t) ≡ inadmissible ms t ++ link_reads ms l
reads_link ms l p t =
    let s = link_shape l in
    ap (λ (b : Behind). inadmissible ms (b p t)) s.is ∙ link_added ms s.shape p t ∙ sym (ap (λ (b : Behind). inadmissible ms t ++ inadmissible ms (b no_place nothing)) s.is)

reads_links : (ms : List Mark) (p : Place) (t : ExprTree) (ls : List TypedLink) → inadmissible ms (grouped p t (map link_after ls)) ≡ inadmissible ms t ++ links_reads ms ls
reads_links ms p t [] = sym (append-nil (inadmissible ms t))
reads_links ms p t (l ∷ ls) =
    reads_links ms p (link_after l p t) ls
    ∙ ap (λ x. x ++ links_reads ms ls) (reads_link ms l p t)
    ∙ append_assoc (inadmissible ms t) (link_reads ms l) (links_reads ms ls)

link_nothing : (ms : List Mark) (s : TypedLink-F ExprTree Behind Behind) (p : Place) (t : ExprTree) → reached ms (link_step s p t) ≡ nothing_reached
link_nothing ms (shape.Operation op e) p t = refl
link_nothing ms (shape.Is c) p t = refl
link_nothing ms (shape.As c) p t = refl

-- with links
pub some_links : (ms : List Mark) (p : Place) (t : ExprTree) (ls : List TypedLink) (n : ℕ) (r : Reached) → n ≡ length ls → false ≡ (n == 0) → r ≡ nothing_reached → r ≡ reached ms (grouped p t (map link_after ls))
some_links ms p t ls n r counted some is = is ∙ sym (chain_some (reached ms) (λ q. nothing_reached) (link_nothing ms) p t ls n counted some)

pub chain_reached : (ms : List Mark) (p : Place) (first : Box TypedExpr Global) (links : Vec TypedLink Global) (e : TypedExpr) (l : List TypedLink) (x : TypedExpr) (head r : Reached)
    → e ≡ view.Chain p first links → x ≡ first.value → l ≡ links.items → head ≡ reached ms (expr x)
    → ((os : List Mark) (q : Place) (t : ExprTree) → head ≡ reached os t → r ≡ reached os (grouped q t (map link_after l))) → r ≡ reached ms (expr e)
chain_reached ms p first links e l x head r is x_is l_is head_is behind =
    behind ms p (expr x) head_is
    ∙ ap (λ z. reached ms (grouped p (expr z) (map link_after l))) x_is
    ∙ ap (λ z. reached ms (grouped p (expr first.value) (map link_after z))) l_is
    ∙ ap (reached ms) (sym (chain_is p first links))
    ∙ ap (λ z. reached ms (expr z)) (sym is)

pub chain_noted : (ms : List Mark) (p : Place) (first : Box TypedExpr Global) (links : Vec TypedLink Global) (e : TypedExpr) (l : List TypedLink) (x : TypedExpr) (f0 f1 f2 : List Place)
    → e ≡ view.Chain p first links → x ≡ first.value → l ≡ links.items → f1 ≡ f0 ++ inadmissible ms (expr x) → f2 ≡ f1 ++ links_reads ms l → f2 ≡ f0 ++ inadmissible ms (expr e)
chain_noted ms p first links e l x f0 f1 f2 is x_is l_is f1_is f2_is =
    joined f0 f1 f2 (inadmissible ms (expr x)) (links_reads ms l) f1_is f2_is
    ∙ ap (λ z. f0 ++ (inadmissible ms (expr z) ++ links_reads ms l)) x_is
    ∙ ap (λ z. f0 ++ (inadmissible ms (expr first.value) ++ links_reads ms z)) l_is
    ∙ ap (λ z. f0 ++ z) (sym (reads_links ms p (expr first.value) links.items))
    ∙ ap (λ z. f0 ++ inadmissible ms z) (sym (chain_is p first links))
    ∙ ap (λ z. f0 ++ inadmissible ms (expr z)) (sym is)

-- ---- paths

-- one more step, and all of them
pub step_leads : (ms : List Mark) (start : ℕ) (f0 f1 f2 : List Place) (v0 v1 v2 : Reached) (p : Place) (xs : List TypedStep) (i : ℕ) (x : TypedStep) → i < length xs → x ≡ get_or xs i x
    → Leads ms start f1 v1 f2 v2 (step_after x p) → Leads ms start f0 v0 f1 v1 (λ (e : ExprTree). grouped p e (map step_after (take i xs)))
    → Leads ms start f0 v0 f2 v2 (λ (e : ExprTree). grouped p e (map step_after (take (i + 1) xs)))
step_leads ms start f0 f1 f2 v0 v1 v2 p xs i x l is part so_far = record {
  on = λ e before w.
      subst (λ (t : ExprTree). IsRead ms start before f2 v2 t) (sym (grouped_more step_after p e xs i x l is))
      (part.on (grouped p e (map step_after (take i xs))) before (so_far.on e before w));
}

pub steps_led : (ms : List Mark) (start : ℕ) (f0 f1 : List Place) (v0 v1 : Reached) (p : Place) (xs : List TypedStep) (i : ℕ) → length xs ≤ i
    → Leads ms start f0 v0 f1 v1 (λ (e : ExprTree). grouped p e (map step_after (take i xs))) → Leads ms start f0 v0 f1 v1 (λ (e : ExprTree). grouped p e (map step_after xs))
steps_led ms start f0 f1 v0 v1 p xs i l h = subst (λ (ys : List TypedStep). Leads ms start f0 v0 f1 v1 (λ (e : ExprTree). grouped p e (map step_after ys))) (take_all i xs l) h

-- ---- quantifiers

pub quantified_noted : (ms : List Mark) (p : Place) (q : Quantifier) (n : String Global) (low high m : Box TypedExpr Global) (e x y z : TypedExpr) (f0 f1 f2 f3 : List Place)
    → e ≡ view.Quantified p q n low high m → x ≡ low.value → y ≡ high.value → z ≡ m.value
    → f1 ≡ f0 ++ inadmissible ms (expr x) → f2 ≡ f1 ++ inadmissible ms (expr y) → f3 ≡ f2 ++ inadmissible ms (expr z) → f3 ≡ f0 ++ inadmissible ms (expr e)
quantified_noted ms p q n low high m e x y z f0 f1 f2 f3 is x_is y_is z_is f1_is f2_is f3_is =
    three_joined f0 f1 f2 f3 (inadmissible ms (expr x)) (inadmissible ms (expr y)) (inadmissible ms (expr z)) f1_is f2_is f3_is
    ∙ ap (λ w. f0 ++ (inadmissible ms (expr w) ++ inadmissible ms (expr y) ++ inadmissible ms (expr z))) x_is
    ∙ ap (λ w. f0 ++ (inadmissible ms (expr low.value) ++ inadmissible ms (expr w) ++ inadmissible ms (expr z))) y_is
    ∙ ap (λ w. f0 ++ (inadmissible ms (expr low.value) ++ inadmissible ms (expr high.value) ++ inadmissible ms (expr w))) z_is
    ∙ ap (λ w. f0 ++ inadmissible ms w) (sym (quantified_is p q n low high m))
    ∙ ap (λ w. f0 ++ inadmissible ms (expr w)) (sym is)
