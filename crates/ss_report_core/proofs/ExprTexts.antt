-- What is written of a chain, of a path and of a quantifier is their text.
use Rattle.std.proofs.Common.{◌≡◌, ℕ, List, [], ◌∷◌, ◌++◌, map, length, refl, ap, sym, subst, ◌∙◌, append_assoc, codes, Result, OnOk, String, Global, string_bytes}
use Rattle.std.specs.Prelude.{replicate}
use Rattle.std.specs.Global.{Vec, Box}
use Rattle.ss_core.specs.declared.names.Place.{Place}
use Rattle.ss_core.specs.declared.expr.Link.{Link}
use Rattle.ss_core.specs.declared.expr.Step.{Step}
use Rattle.ss_core.specs.declared.expr.Quantifier.{Quantifier}
use Rattle.ss_core.specs.declared.expr.StateWord.{StateWord}
use Rattle.ss_core.specs.declared.expr.OwnerTest.{OwnerTest}
use Rattle.ss_core.specs.declared.expr.Expr.{Expr}
use Rattle.ss_core.specs.declared.expr.Expr.TheFolds.{fold-roll-Expr}
use Rattle.ss_core.specs.declared.expr.Expr.TheVariants.{Chain, rolls-Chain, Path, rolls-Path, Quantified, rolls-Quantified, State, rolls-State, Owners, rolls-Owners}
use Rattle.ss_core.specs.declared.expr.Expr.TheOpen as shape
use Rattle.ss_core.specs.Tree.{ClassTree, ExprTree, QuantifiedExpr, StateExpr, OwnersExpr, WordTree, Consistent, Committed, New, Level, Packed, Unowned, OwnersTree, SameOwner, OwnedAt}
use Rattle.ss_core.specs.View.{Behind, grouped, expr, expr_step, link_step, step_step, word_tree, owners_tree}
use Rattle.ss_report_core.specs.Exprs.{expr_text, head_text, state_text, owners_text}
use Rattle.ss_report_core.specs.Afters.{link_after, step_after, links_text, steps_text, word_before, word_after, owners_before, owners_after}
use Rattle.ss_report_core.proofs.Chains.{chain_text, path_text}
use Rattle.ss_report_core.proofs.Written.{two_written}

chain_is : (p : Place) (first : Box Expr) (links : Vec Link) → expr (Chain p first links) ≡ grouped p (expr first.value) (map link_after links.items)
chain_is p first links = ap expr (sym (rolls-Chain p first links)) ∙ fold-roll-Expr ExprTree Behind Behind expr_step link_step step_step (shape.Chain p first links)

path_is : (p : Place) (first : Box Expr) (steps : Vec Step) → expr (Path p first steps) ≡ grouped p (expr first.value) (map step_after steps.items)
path_is p first steps = ap expr (sym (rolls-Path p first steps)) ∙ fold-roll-Expr ExprTree Behind Behind expr_step link_step step_step (shape.Path p first steps)

quantified_is : (p : Place) (q : Quantifier) (n : String Global) (low high m : Box Expr) → expr (Quantified p q n low high m) ≡ QuantifiedExpr p q (string_bytes n) (expr low.value) (expr high.value) (expr m.value)
quantified_is p q n low high m = ap expr (sym (rolls-Quantified p q n low high m)) ∙ fold-roll-Expr ExprTree Behind Behind expr_step link_step step_step (shape.Quantified p q n low high m)

pub chain_done : {T E : Type 0} (r : Result T E) (cs : List ClassTree) (names : List (List ℕ)) (p : Place) (first : Box Expr) (links : Vec Link) (e f : Expr) (ls : List Link) (n : ℕ) (o0 o1 new : List ℕ)
    → e ≡ Chain p first links → n ≡ length links.items → f ≡ first.value → ls ≡ links.items
    → o1 ≡ o0 ++ (replicate n 40 ++ expr_text cs names (expr f)) → OnOk r (new ≡ o1 ++ links_text cs names (map link_after ls))
    → OnOk r (new ≡ o0 ++ expr_text cs names (expr e))
chain_done r cs names p first links e f ls n o0 o1 new is n_is f_is ls_is e1 h =
    let whole : expr_text cs names (expr e) ≡ replicate n 40 ++ (expr_text cs names (expr f) ++ links_text cs names (map link_after ls)) =
    ap (λ (x : Expr). expr_text cs names (expr x)) is
    ∙ ap (expr_text cs names) (chain_is p first links)
    ∙ chain_text cs names p (expr first.value) links.items
    ∙ ap (λ k. replicate k 40 ++ (expr_text cs names (expr first.value) ++ links_text cs names (map link_after links.items))) (sym n_is)
    ∙ ap (λ (x : Expr). replicate n 40 ++ (expr_text cs names (expr x) ++ links_text cs names (map link_after links.items))) (sym f_is)
    ∙ ap (λ (xs : List Link). replicate n 40 ++ (expr_text cs names (expr f) ++ links_text cs names (map link_after xs))) (sym ls_is) in
    two_written r new o0 o1 (replicate n 40 ++ expr_text cs names (expr f)) (links_text cs names (map link_after ls)) (expr_text cs names (expr e)) e1
    (whole ∙ sym (append_assoc (replicate n 40) (expr_text cs names (expr f)) (links_text cs names (map link_after ls)))) h

pub path_done : {T E : Type 0} (r : Result T E) (cs : List ClassTree) (names : List (List ℕ)) (p : Place) (first : Box Expr) (steps : Vec Step) (e f : Expr) (ss : List Step) (o0 o1 new : List ℕ)
    → e ≡ Path p first steps → f ≡ first.value → ss ≡ steps.items
    → o1 ≡ o0 ++ expr_text cs names (expr f) → OnOk r (new ≡ o1 ++ steps_text cs names (map step_after ss))
    → OnOk r (new ≡ o0 ++ expr_text cs names (expr e))
path_done r cs names p first steps e f ss o0 o1 new is f_is ss_is e1 h =
    let whole : expr_text cs names (expr e) ≡ expr_text cs names (expr f) ++ steps_text cs names (map step_after ss) =
    ap (λ (x : Expr). expr_text cs names (expr x)) is
    ∙ ap (expr_text cs names) (path_is p first steps)
    ∙ path_text cs names p (expr first.value) steps.items
    ∙ ap (λ (x : Expr). expr_text cs names (expr x) ++ steps_text cs names (map step_after steps.items)) (sym f_is)
    ∙ ap (λ (xs : List Step). expr_text cs names (expr f) ++ steps_text cs names (map step_after xs)) (sym ss_is) in
    two_written r new o0 o1 (expr_text cs names (expr f)) (steps_text cs names (map step_after ss)) (expr_text cs names (expr e)) e1 whole h

-- the parts of a quantifier, one after the other
abbrev in_parts : List ClassTree → List (List ℕ) → Quantifier → List ℕ → Expr → Expr → List ℕ → Expr → List ℕ
in_parts cs names q name low high bound m = head_text names q name ++ expr_text cs names (expr low) ++ codes ": " ++ expr_text cs names (expr high) ++ codes "); " ++ expr_text cs (names ++ bound ∷ []) (expr m) ++ codes "}"

joined : (o0 o1 o2 a b : List ℕ) → o1 ≡ o0 ++ a → o2 ≡ o1 ++ b → o2 ≡ o0 ++ (a ++ b)
joined o0 o1 o2 a b e1 e2 = e2 ∙ ap (λ o. o ++ b) e1 ∙ append_assoc o0 a b

behind : (o w x y z : List ℕ) → (o ++ w) ++ ((x ++ y) ++ z) ≡ o ++ (((w ++ x) ++ y) ++ z)
behind o w x y z = simp append_assoc

pub quantified_done : {T E : Type 0} (r : Result T E) (cs : List ClassTree) (names : List (List ℕ)) (p : Place) (q : Quantifier) (n : String Global) (low high m : Box Expr) (e l h x : Expr) (name bound o0 o1 o2 new : List ℕ)
    → e ≡ Quantified p q n low high m → name ≡ string_bytes n → l ≡ low.value → h ≡ high.value → bound ≡ string_bytes n → x ≡ m.value
    → o1 ≡ o0 ++ (head_text names q name ++ expr_text cs names (expr l) ++ codes ": ") → o2 ≡ o1 ++ expr_text cs names (expr h)
    → OnOk r (new ≡ o2 ++ (codes "); " ++ expr_text cs (names ++ bound ∷ []) (expr x) ++ codes "}"))
    → OnOk r (new ≡ o0 ++ expr_text cs names (expr e))
quantified_done r cs names p q n low high m e l h x name bound o0 o1 o2 new is name_is l_is h_is bound_is x_is e1 e2 last =
    let a = head_text names q name in
    let b = expr_text cs names (expr l) in
    let d = expr_text cs names (expr h) in
    let y = expr_text cs (names ++ bound ∷ []) (expr x) in
    let whole : expr_text cs names (expr e) ≡ in_parts cs names q name l h bound x =
    ap (λ (y : Expr). expr_text cs names (expr y)) is
    ∙ ap (expr_text cs names) (quantified_is p q n low high m)
    ∙ ap (λ y. in_parts cs names q y low.value high.value (string_bytes n) m.value) (sym name_is)
    ∙ ap (λ (y : Expr). in_parts cs names q name y high.value (string_bytes n) m.value) (sym l_is)
    ∙ ap (λ (y : Expr). in_parts cs names q name l y (string_bytes n) m.value) (sym h_is)
    ∙ ap (λ y. in_parts cs names q name l h y m.value) (sym bound_is)
    ∙ ap (λ (y : Expr). in_parts cs names q name l h bound y) (sym x_is) in
    let written = joined o0 o1 o2 ((a ++ b) ++ codes ": ") d e1 e2 in
    let all : o2 ++ ((codes "); " ++ y) ++ codes "}") ≡ o0 ++ expr_text cs names (expr e) =
    ap (λ o. o ++ ((codes "); " ++ y) ++ codes "}")) written
    ∙ behind o0 (((a ++ b) ++ codes ": ") ++ d) (codes "); ") y (codes "}")
    ∙ ap (λ t. o0 ++ t) (sym whole) in
    subst (λ t. OnOk r (new ≡ t)) all last

-- ---- questions about objects

state_is : (p : Place) (w : StateWord) (a : Box Expr) → expr (State p w a) ≡ StateExpr p (word_tree w) (expr a.value)
state_is p w a = ap expr (sym (rolls-State p w a)) ∙ fold-roll-Expr ExprTree Behind Behind expr_step link_step step_step (shape.State p w a)

owners_are : (p : Place) (w : OwnerTest) (a b : Box Expr) → expr (Owners p w a b) ≡ OwnersExpr p (owners_tree w) (expr a.value) (expr b.value)
owners_are p w a b = ap expr (sym (rolls-Owners p w a b)) ∙ fold-roll-Expr ExprTree Behind Behind expr_step link_step step_step (shape.Owners p w a b)

-- what is asked, between what is written before it and after it
state_parts : (cs : List ClassTree) (w : WordTree) (e : List ℕ) → state_text cs w e ≡ word_before w ++ (e ++ word_after cs w)
state_parts cs Consistent e = refl
state_parts cs Committed e = refl
state_parts cs New e = refl
state_parts cs (Level t) e = refl
state_parts cs (Packed t) e = refl
state_parts cs Unowned e = append_assoc (codes "Owner.None(") e (codes ")")

owners_parts : (cs : List ClassTree) (w : OwnersTree) (a b : List ℕ) → owners_text cs w a b ≡ owners_before w ++ (a ++ (codes ", " ++ (b ++ owners_after cs w)))
owners_parts cs SameOwner a b = simp append_assoc
owners_parts cs (OwnedAt t) a b = simp append_assoc

pub state_done : {T E : Type 0} (r : Result T E) (cs : List ClassTree) (names : List (List ℕ)) (p : Place) (w : StateWord) (a : Box Expr) (e x : Expr) (o new : List ℕ)
    → e ≡ State p w a → x ≡ a.value → OnOk r (new ≡ o ++ (word_before (word_tree w) ++ expr_text cs names (expr x) ++ word_after cs (word_tree w)))
    → OnOk r (new ≡ o ++ expr_text cs names (expr e))
state_done r cs names p w a e x o new is x_is h =
    let before = word_before (word_tree w) in
    let rest = word_after cs (word_tree w) in
    let whole : expr_text cs names (expr e) ≡ (before ++ expr_text cs names (expr x)) ++ rest =
    ap (λ (y : Expr). expr_text cs names (expr y)) is
    ∙ ap (expr_text cs names) (state_is p w a)
    ∙ ap (λ (y : Expr). state_text cs (word_tree w) (expr_text cs names (expr y))) (sym x_is)
    ∙ state_parts cs (word_tree w) (expr_text cs names (expr x))
    ∙ sym (append_assoc before (expr_text cs names (expr x)) rest) in
    subst (λ t. OnOk r (new ≡ o ++ t)) (sym whole) h

pub owners_done : {T E : Type 0} (r : Result T E) (cs : List ClassTree) (names : List (List ℕ)) (p : Place) (w : OwnerTest) (a b : Box Expr) (e x y : Expr) (before o0 o1 new : List ℕ)
    → e ≡ Owners p w a b → x ≡ a.value → y ≡ b.value → before ≡ owners_before (owners_tree w)
    → o1 ≡ o0 ++ (before ++ expr_text cs names (expr x) ++ codes ", ") → OnOk r (new ≡ o1 ++ (expr_text cs names (expr y) ++ owners_after cs (owners_tree w)))
    → OnOk r (new ≡ o0 ++ expr_text cs names (expr e))
owners_done r cs names p w a b e x y before o0 o1 new is x_is y_is before_is e1 h =
    let first = owners_before (owners_tree w) in
    let ax = expr_text cs names (expr x) in
    let rest = expr_text cs names (expr y) ++ owners_after cs (owners_tree w) in
    let whole : expr_text cs names (expr e) ≡ ((first ++ ax) ++ codes ", ") ++ rest =
    ap (λ (z : Expr). expr_text cs names (expr z)) is
    ∙ ap (expr_text cs names) (owners_are p w a b)
    ∙ ap (λ (z : Expr). owners_text cs (owners_tree w) (expr_text cs names (expr z)) (expr_text cs names (expr b.value))) (sym x_is)
    ∙ ap (λ (z : Expr). owners_text cs (owners_tree w) ax (expr_text cs names (expr z))) (sym y_is)
    ∙ owners_parts cs (owners_tree w) ax (expr_text cs names (expr y))
    ∙ sym (append_assoc (first ++ ax) (codes ", ") rest ∙ append_assoc first ax (codes ", " ++ rest)) in
    two_written r new o0 o1 ((first ++ ax) ++ codes ", ") rest (expr_text cs names (expr e)) (e1 ∙ ap (λ t. o0 ++ ((t ++ ax) ++ codes ", ")) before_is) whole h
