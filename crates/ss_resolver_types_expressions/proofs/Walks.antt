-- Facts of the code's walk over an expression, joined.
use Rattle.std.proofs.Common.{◌≡◌, ◌++◌, ◌+◌, ◌<◌, ◌≤◌, ℕ, length, take, get_or, map, List, Vec, Box, Global, sym, ap, subst, ◌∙◌}
use Rattle.ss_core.specs.declared.names.Place.{Place}
use Rattle.ss_ast.specs.declared.expr.Expr.{Expr}
use Rattle.ss_ast.specs.declared.expr.Expr.TheViews as view
use Rattle.ss_ast.specs.declared.expr.Link.{Link}
use Rattle.ss_ast.specs.declared.expr.Postfix.{Postfix}
use Rattle.ss_ast.specs.Expressions.{ExprTree, Behind, grouped, expr_tree}
use Rattle.ss_faults.specs.declared.Fault.{Fault}
use Rattle.ss_tables.specs.Scopes.{Local}
use Rattle.ss_tables_scopes.specs.Names.{Names}
use Rattle.ss_tables.specs.Named.{entered, left, with_name}
use Rattle.ss_resolver_types_heads.specs.declared.context.ExprContext.{ExprContext as CodeContext}
use Rattle.ss_ast.specs.Parts.{link_after, postfix_after}
use Rattle.ss_resolver_types_heads.specs.Wants.{Known, known}
use Rattle.ss_resolver_types_heads.specs.Expressions.{AsValue, AsCallee, faults}
use Rattle.ss_resolver_types_heads.specs.Heads.{Head, ending, known_at, rest_read, IsWalked, Leads}
use Rattle.ss_resolver_types_heads.specs.Codes.{context_of}
use Rattle.ss_resolver_types_heads.specs.Calls.{ExprContext}
use Rattle.std.proofs.lemmas.List.{take_all}
use Rattle.ss_resolver_types_heads.proofs.Endings.{known_is, read_noted}
use Rattle.ss_ast.proofs.Grouping.{chain_is, path_is, grouped_more}

-- an expression that is walked and then settled is read
pub known_read : (a : CodeContext) (n0 n1 : Names) (h : Head) (e : ExprTree) (v : Known) → n1 ≡ n0
    → h ≡ ending (context_of a n0).scope e → v ≡ known_at (context_of a n1).scope h → v ≡ known (context_of a n0).scope e
known_read a n0 n1 h e v same is k =
    k ∙ ap (λ n. known_at (context_of a n).scope h) same ∙ ap (known_at (context_of a n0).scope) is ∙ known_is (context_of a n0).scope e

pub noted_read : (a : CodeContext) (n0 n1 : Names) (h : Head) (e : ExprTree) (f0 f1 f2 : List Fault) → n1 ≡ n0
    → h ≡ ending (context_of a n0).scope e → f1 ≡ f0 ++ faults (context_of a n0) AsCallee e → f2 ≡ f1 ++ rest_read (context_of a n1) h
    → f2 ≡ f0 ++ faults (context_of a n0) AsValue e
noted_read a n0 n1 h e f0 f1 f2 same is p q =
    let w : IsWalked (context_of a n0) f0 f1 h e = record { is = is; noted = p } in
    read_noted (context_of a n0) f0 f1 f2 h e w (q ∙ ap (λ n. f1 ++ rest_read (context_of a n) h) same)

pub chain_walked : (a : CodeContext) (n0 n1 : Names) (f0 f1 f2 : List Fault) (h0 h1 : Head) (p : Place) (first : Box Expr Global) (links : Vec Link Global) (e f : Expr) (ls : List Link)
    → e ≡ view.Chain p first links → f ≡ first.value → ls ≡ links.items → n1 ≡ n0
    → h0 ≡ ending (context_of a n0).scope (expr_tree f) → f1 ≡ f0 ++ faults (context_of a n0) AsCallee (expr_tree f)
    → Leads (context_of a n1) f1 h0 f2 h1 (λ x. grouped p x (map link_after ls))
    → IsWalked (context_of a n0) f0 f2 h1 (expr_tree e)
chain_walked a n0 n1 f0 f1 f2 h0 h1 p first links e f ls is f_is ls_is same h q leads =
    let whole : expr_tree e ≡ grouped p (expr_tree f) (map link_after ls) =
    ap expr_tree is ∙ chain_is p first links
    ∙ ap (λ (x : Expr). grouped p (expr_tree x) (map link_after links.items)) (sym f_is)
    ∙ ap (λ (xs : List Link). grouped p (expr_tree f) (map link_after xs)) (sym ls_is) in
    let w : IsWalked (context_of a n0) f0 f1 h0 (expr_tree f) = record { is = h; noted = q } in
    let there = leads.on (expr_tree f) f0 (subst (λ (n : Names). IsWalked (context_of a n) f0 f1 h0 (expr_tree f)) (sym same) w) in
    subst (λ (t : ExprTree). IsWalked (context_of a n0) f0 f2 h1 t) (sym whole)
    (subst (λ (n : Names). IsWalked (context_of a n) f0 f2 h1 (grouped p (expr_tree f) (map link_after ls))) same there)

pub path_walked : (a : CodeContext) (n0 n1 : Names) (f0 f1 f2 : List Fault) (h0 h1 : Head) (p : Place) (first : Box Expr Global) (postfixes : Vec Postfix Global) (e f : Expr) (ls : List Postfix)
    → e ≡ view.Path p first postfixes → f ≡ first.value → ls ≡ postfixes.items → n1 ≡ n0
    → h0 ≡ ending (context_of a n0).scope (expr_tree f) → f1 ≡ f0 ++ faults (context_of a n0) AsCallee (expr_tree f)
    → Leads (context_of a n1) f1 h0 f2 h1 (λ x. grouped p x (map postfix_after ls))
    → IsWalked (context_of a n0) f0 f2 h1 (expr_tree e)
path_walked a n0 n1 f0 f1 f2 h0 h1 p first postfixes e f ls is f_is ls_is same h q leads =
    let whole : expr_tree e ≡ grouped p (expr_tree f) (map postfix_after ls) =
    ap expr_tree is ∙ path_is p first postfixes
    ∙ ap (λ (x : Expr). grouped p (expr_tree x) (map postfix_after postfixes.items)) (sym f_is)
    ∙ ap (λ (xs : List Postfix). grouped p (expr_tree f) (map postfix_after xs)) (sym ls_is) in
    let w : IsWalked (context_of a n0) f0 f1 h0 (expr_tree f) = record { is = h; noted = q } in
    let there = leads.on (expr_tree f) f0 (subst (λ (n : Names). IsWalked (context_of a n) f0 f1 h0 (expr_tree f)) (sym same) w) in
    subst (λ (t : ExprTree). IsWalked (context_of a n0) f0 f2 h1 t) (sym whole)
    (subst (λ (n : Names). IsWalked (context_of a n) f0 f2 h1 (grouped p (expr_tree f) (map postfix_after ls))) same there)

-- one more part after those that a loop has gone over
pub part_leads : {X : Type 0} (behind : X → Behind) (a : CodeContext) (n0 n : Names) (f0 f1 f2 : List Fault) (h0 h1 h2 : Head) (p : Place) (xs : List X) (i : ℕ) (x : X)
    → n ≡ n0 → i < length xs → x ≡ get_or xs i x
    → Leads (context_of a n) f1 h1 f2 h2 (behind x p)
    → Leads (context_of a n0) f0 h0 f1 h1 (λ e. grouped p e (map behind (take i xs)))
    → Leads (context_of a n0) f0 h0 f2 h2 (λ e. grouped p e (map behind (take (i + 1) xs)))
part_leads behind a n0 n f0 f1 f2 h0 h1 h2 p xs i x same l is part so_far = record {
  on = λ e before w.
      let done : ExprTree = grouped p e (map behind (take i xs)) in
      let here = subst (λ (m : Names). IsWalked (context_of a m) before f1 h1 done) (sym same) (so_far.on e before w) in
      subst (λ (t : ExprTree). IsWalked (context_of a n0) before f2 h2 t) (sym (grouped_more behind p e xs i x l is))
      (subst (λ (m : Names). IsWalked (context_of a m) before f2 h2 (behind x p done)) same (part.on done before here));
}

-- where all parts are gone over
pub parts_led : {X : Type 0} (behind : X → Behind) (a : ExprContext) (f0 f1 : List Fault) (h0 h1 : Head) (p : Place) (xs : List X) (i : ℕ) → length xs ≤ i
    → Leads a f0 h0 f1 h1 (λ e. grouped p e (map behind (take i xs))) → Leads a f0 h0 f1 h1 (λ e. grouped p e (map behind xs))
parts_led {X = X} behind a f0 f1 h0 h1 p xs i l h = subst (λ (ys : List X). Leads a f0 h0 f1 h1 (λ e. grouped p e (map behind ys))) (take_all i xs l) h

-- before the first part
pub no_parts : {X : Type 0} (behind : X → Behind) (a : ExprContext) (f : List Fault) (h : Head) (p : Place) (xs : List X) → Leads a f h f h (λ e. grouped p e (map behind (take 0 xs)))
no_parts behind a f h p xs = record { on = λ e before w. w }

-- ---- the scope of a quantifier's member

pub bound_here : (n0 n1 n2 : Names) (name : List ℕ) (l : Local) → n1 ≡ entered n0 → n2 ≡ with_name n1 name l → n2 ≡ with_name (entered n0) name l
bound_here n0 n1 n2 name l p q = q ∙ ap (λ n. with_name n name l) p

pub bound_left : (n0 n1 n2 n3 n4 : Names) (name : List ℕ) (l : Local) → n1 ≡ entered n0 → n2 ≡ with_name n1 name l → n3 ≡ n2 → n4 ≡ left n3 → n4 ≡ n0
bound_left n0 n1 n2 n3 n4 name l p q same r = r ∙ ap left (same ∙ bound_here n0 n1 n2 name l p q)
