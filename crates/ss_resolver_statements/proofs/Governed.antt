-- Statements with what they govern.
use Rattle.std.proofs.Common.{◌≡◌, ◌+◌, List, [], ◌∷◌, ◌++◌, length, map, Option, option_map, refl, sym, ap, ◌∙◌, length-append, add_assoc}
use Rattle.ss_core.specs.declared.names.Place.{Place}
use Rattle.ss_ast.specs.Expressions as text
use Rattle.ss_ast.specs.Statements as written
use Rattle.ss_typed.specs.Tree.{ExprTree, SimpleTree, InitTree, BlockOf, StmtTree, IfOf, IfElseOf, WhileOf, ForOf, Before, stmt_trees}
use Rattle.ss_resolver_rules.specs.Names.{Env, enter}
use Rattle.ss_resolver_rules.specs.Expressions.{expr}
use Rattle.ss_resolver_rules.specs.Statements.{Declared, declared_in, past, behind, first, behind_first, simple, stmt, stmts, block}
use Rattle.ss_resolver_expressions.specs.LocalContext.{LocalContext, entered}
use Rattle.ss_resolver_expressions.specs.Environments.{env_of}
use Rattle.ss_resolver_expressions.specs.declared.context.ResolutionContext.{ResolutionContext}
use Rattle.ss_resolver_statements.specs.Behind.{each_stmt}

pub stmts_are : (ss : List written.StmtTree) (e : Env) → stmt_trees (each_stmt e ss) ≡ stmts e (written.stmt_trees ss)
stmts_are [] e = refl
stmts_are (s ∷ ss) e = ap (λ r. Before (stmt e s) r) (stmts_are ss (behind e s))

pub block_is : (s : ResolutionContext) (a a1 : LocalContext) (p q : Place) (ss : List written.StmtTree) (rs : List StmtTree) → a1 ≡ entered a → rs ≡ each_stmt (env_of s a1) ss
    → BlockOf p (stmt_trees rs) q ≡ block (env_of s a) (written.BlockOf p (written.stmt_trees ss) q)
block_is s a a1 p q ss rs h r =
    ap (λ x. BlockOf p x q) (ap stmt_trees (r ∙ ap (λ n. each_stmt (env_of s n) ss) h) ∙ stmts_are ss (enter (env_of s a)))

pub governed_is : (s : ResolutionContext) (a a1 : LocalContext) (t : written.StmtTree) (r : StmtTree) → a1 ≡ entered a → r ≡ stmt (env_of s a1) t → r ≡ stmt (enter (env_of s a)) t
governed_is s a a1 t r h e = e ∙ ap (λ n. stmt (env_of s n) t) h

pub if_is : (s : ResolutionContext) (a a1 : LocalContext) (p : Place) (c : text.ExprTree) (t : written.StmtTree) (x : ExprTree) (y : StmtTree)
    → x ≡ expr (env_of s a) c → a1 ≡ a → y ≡ stmt (enter (env_of s a1)) t → IfOf p x y ≡ stmt (env_of s a) (written.IfOf p c t)
if_is s a a1 p c t x y h k g = ap (λ v. IfOf p v y) h ∙ ap (λ v. IfOf p (expr (env_of s a) c) v) (g ∙ ap (λ n. stmt (enter (env_of s n)) t) k)

pub if_else_is : (s : ResolutionContext) (a a1 a2 : LocalContext) (p : Place) (c : text.ExprTree) (t u : written.StmtTree) (x : ExprTree) (y z : StmtTree)
    → x ≡ expr (env_of s a) c → a1 ≡ a → y ≡ stmt (enter (env_of s a1)) t → env_of s a2 ≡ past (env_of s a1) (declared_in t) → z ≡ stmt (enter (env_of s a2)) u
    → IfElseOf p x y z ≡ stmt (env_of s a) (written.IfElseOf p c t u)
if_else_is s a a1 a2 p c t u x y z h k g b f =
    let e = env_of s a in
    ap (λ v. IfElseOf p v y z) h
    ∙ ap (λ v. IfElseOf p (expr e c) v z) (g ∙ ap (λ n. stmt (enter (env_of s n)) t) k)
    ∙ ap (λ v. IfElseOf p (expr e c) (stmt (enter e) t) v) (f ∙ ap (λ d. stmt (enter d) u) (b ∙ ap (λ n. past (env_of s n) (declared_in t)) k))

pub past_both : (e : Env) (ds fs : List Declared) → past (past e ds) fs ≡ past e (ds ++ fs)
past_both e ds fs = ap (λ n. record e { next = n }) (add_assoc e.next (length ds) (length fs) ∙ ap (λ n. e.next + n) (sym (length-append ds fs)))

pub if_else_past : (s : ResolutionContext) (a a1 a2 a3 : LocalContext) (t u : written.StmtTree) → a1 ≡ a → env_of s a2 ≡ past (env_of s a1) (declared_in t) → env_of s a3 ≡ past (env_of s a2) (declared_in u)
    → env_of s a3 ≡ past (env_of s a) (declared_in t ++ declared_in u)
if_else_past s a a1 a2 a3 t u k b c =
    c ∙ ap (λ d. past d (declared_in u)) (b ∙ ap (λ n. past (env_of s n) (declared_in t)) k) ∙ past_both (env_of s a) (declared_in t) (declared_in u)

pub while_is : (s : ResolutionContext) (a a1 a2 : LocalContext) (p : Place) (c : text.ExprTree) (es : List text.ExprTree) (t : written.StmtTree) (x : ExprTree) (xs : List ExprTree) (y : StmtTree)
    → x ≡ expr (env_of s a) c → a1 ≡ a → xs ≡ map (expr (env_of s a1)) es → a2 ≡ a1 → y ≡ stmt (enter (env_of s a2)) t
    → WhileOf p x xs y ≡ stmt (env_of s a) (written.WhileOf p c es t)
while_is s a a1 a2 p c es t x xs y h k m l g =
    let e = env_of s a in
    ap (λ v. WhileOf p v xs y) h
    ∙ ap (λ v. WhileOf p (expr e c) v y) (m ∙ ap (λ n. map (expr (env_of s n)) es) k)
    ∙ ap (λ v. WhileOf p (expr e c) (map (expr e) es) v) (g ∙ ap (λ n. stmt (enter (env_of s n)) t) (l ∙ k))

-- a `for`, by its heading and what it governs
pub for_is : (s : ResolutionContext) (a a1 a2 : LocalContext) (p : Place) (i : Option written.ForInitTree) (c : Option text.ExprTree) (x : Option written.SimpleTree) (es : List text.ExprTree) (t : written.StmtTree)
    (ri : Option InitTree) (rc : Option ExprTree) (rx : Option SimpleTree) (rs : List ExprTree) (r : StmtTree)
    → a1 ≡ entered a → ri ≡ first (env_of s a1) i → rc ≡ option_map (expr (behind_first (env_of s a1) i)) c → rx ≡ option_map (simple (behind_first (env_of s a1) i)) x
    → env_of s a2 ≡ behind_first (env_of s a1) i → rs ≡ map (expr (env_of s a2)) es → r ≡ stmt (enter (env_of s a2)) t
    → ForOf p ri rc rx rs r ≡ stmt (env_of s a) (written.ForOf p i c x es t)
for_is s a a1 a2 p i c x es t ri rc rx rs r h hi hc hx b hs g =
    let e = enter (env_of s a) in
    let f = behind_first e i in
    let e1 : behind_first (env_of s a1) i ≡ f = ap (λ n. behind_first (env_of s n) i) h in
    let e2 : env_of s a2 ≡ f = b ∙ e1 in
    ap (λ v. ForOf p v rc rx rs r) (hi ∙ ap (λ n. first (env_of s n) i) h)
    ∙ ap (λ v. ForOf p (first e i) v rx rs r) (hc ∙ ap (λ d. option_map (expr d) c) e1)
    ∙ ap (λ v. ForOf p (first e i) (option_map (expr f) c) v rs r) (hx ∙ ap (λ d. option_map (simple d) x) e1)
    ∙ ap (λ v. ForOf p (first e i) (option_map (expr f) c) (option_map (simple f) x) v r) (hs ∙ ap (λ d. map (expr d) es) e2)
    ∙ ap (λ v. ForOf p (first e i) (option_map (expr f) c) (option_map (simple f) x) (map (expr f) es) v) (g ∙ ap (λ d. stmt (enter d) t) e2)

-- the test and the step of a heading, after what it begins with
pub test_is : (s : ResolutionContext) (a1 : LocalContext) (e : Env) (c : Option text.ExprTree) (rc : Option ExprTree) → env_of s a1 ≡ e → rc ≡ option_map (expr (env_of s a1)) c → rc ≡ option_map (expr e) c
test_is s a1 e c rc b h = h ∙ ap (λ d. option_map (expr d) c) b

pub step_is : (s : ResolutionContext) (a1 a2 : LocalContext) (e : Env) (x : Option written.SimpleTree) (rx : Option SimpleTree)
    → env_of s a1 ≡ e → a2 ≡ a1 → rx ≡ option_map (simple (env_of s a2)) x → rx ≡ option_map (simple e) x
step_is s a1 a2 e x rx b k h = h ∙ ap (λ d. option_map (simple d) x) (ap (env_of s) k ∙ b)
