-- A scope that is left gives back the names, and the next local comes after those that were declared within.
use Rattle.std.proofs.Common.{ℕ, ◌≡◌, ◌+◌, List, [], ◌∷◌, ◌++◌, length, Option, Some, None, refl, sym, ap, subst, ◌∙◌, arith, length-append}
use Rattle.std.proofs.lemmas.List.{length-map}
use Rattle.ss_ast.specs.Expressions.{TypeTree}
use Rattle.ss_ast.specs.Statements.{DeclaratorTree, DeclarationTree, ForInitTree, StmtTree, stmt_trees}
use Rattle.ss_ast.specs.Statements as text
use Rattle.ss_tables.specs.Named.{Scoped}
use Rattle.ss_tables.specs.Named as scoped
use Rattle.ss_tables_scopes.specs.Names.{Names}
use Rattle.ss_resolver_rules.specs.Names.{Env, enter, declare, declare_all, after_declaration}
use Rattle.ss_resolver_rules.specs.declared.known.Known.{Known}
use Rattle.ss_resolver_rules.specs.Statements.{declared_by, declared_first, declared_in, declared_in_all, past, behind, behind_first}
use Rattle.ss_resolver_expressions.specs.LocalContext.{LocalContext, entered, left}
use Rattle.ss_resolver_expressions.specs.Environments.{env_of}
use Rattle.ss_resolver_expressions.specs.declared.context.ResolutionContext.{ResolutionContext}
use Rattle.ss_resolver_scoping.proofs.Leaving.{left_again}
use Rattle.ss_resolver_statements.specs.Behind.{behind_all}

-- the names around are the same, and so many more locals are declared
pub record Grows (e f : Env) (n : ℕ) : Type 0 where
  pub same : record f { scope = record (f.scope) { inner = e.scope.inner }; inner = e.inner; next = e.next } ≡ e
  pub next : f.next ≡ e.next + n

pub grows_none : (e : Env) → Grows e e 0
grows_none e = record { same = refl; next = omega arith }

pub grows_past : (e : Env) (n : ℕ) → Grows e (record e { next = e.next + n }) n
grows_past e n = record { same = refl; next = refl }

pub grows_more : (e f g : Env) (m n k : ℕ) → Grows e f m → Grows f g n → k ≡ m + n → Grows e g k
grows_more e f g m n k p q h = record {
  same = ap (λ (x : Env). record x { scope = record (x.scope) { inner = e.scope.inner }; inner = e.inner; next = e.next }) q.same ∙ p.same;
  next = omega (arith, p.next, q.next, h);
}

grows_all : (t : TypeTree) (ds : List DeclaratorTree) (e : Env) → Grows e (declare_all e t ds) (length ds)
grows_all t [] e = grows_none e
grows_all t (d ∷ ds) e = grows_more e (declare e t d.name) (declare_all (declare e t d.name) t ds) 1 (length ds) _ (record { same = refl; next = refl }) (grows_all t ds (declare e t d.name)) (omega arith)

counted : (e f : Env) (m n : ℕ) → m ≡ n → Grows e f m → Grows e f n
counted e f m n h g = record { same = g.same; next = g.next ∙ ap (λ k. e.next + k) h }

grows_declaration : (e : Env) (d : DeclarationTree) → Grows e (after_declaration e d) (length (declared_by d))
grows_declaration e d = counted e (after_declaration e d) _ _ (sym (length-map d.declarators _)) (grows_all d.ty d.declarators e)

grows_first : (e : Env) (i : Option ForInitTree) → Grows e (behind_first e i) (length (declared_first i))
grows_first e None = grows_none e
grows_first e (Some (text.DeclareFirst d)) = grows_declaration e d
grows_first e (Some (text.SimpleFirst x)) = grows_none e

-- after a statement
grows_after : (e : Env) (s : StmtTree) → Grows e (behind e s) (length (declared_in s))
grows_after e (text.DeclareOf d) = grows_declaration e d
grows_after e (text.InBlock b) = grows_past e _
grows_after e (text.SimpleOf x) = grows_none e
grows_after e (text.IfOf p c a) = grows_past e _
grows_after e (text.IfElseOf p c a b) = grows_past e _
grows_after e (text.WhileOf p c es a) = grows_past e _
grows_after e (text.ForOf p i c x es a) = grows_past e _
grows_after e (text.ReturnOf p c) = grows_none e
grows_after e (text.AssertOf p c) = grows_none e
grows_after e (text.AssumeOf p c) = grows_none e
grows_after e (text.ExposeOf p c n b) = grows_past e _
grows_after e (text.EmptyOf p) = grows_none e

grows_after_all : (ss : List StmtTree) (e : Env) → Grows e (behind_all e ss) (length (declared_in_all (stmt_trees ss)))
grows_after_all [] e = grows_none e
grows_after_all (s ∷ ss) e =
    grows_more e (behind e s) (behind_all (behind e s) ss) _ _ _ (grows_after e s) (grows_after_all ss (behind e s)) (length-append (declared_in s) (declared_in_all (stmt_trees ss)))

-- ---- leaving

locals_with : Names → Scoped Known → ℕ → ℕ → LocalContext
locals_with names numbered next bound = record { names = names; numbered = numbered; next = next; bound = bound }

left_scope : (s : ResolutionContext) (a b c : LocalContext) (n : ℕ) → c ≡ left b → Grows (enter (env_of s a)) (env_of s b) n → env_of s c ≡ record (env_of s a) { next = a.next + n }
unfolding locals_with
left_scope s a b c n h g =
    ap (env_of s) h
    ∙ ap (λ x. env_of s (locals_with x (scoped.left b.numbered) b.next b.bound)) (left_again b.names a.names (ap (λ (e : Env). e.scope.outer) g.same))
    ∙ ap (λ x. env_of s (locals_with a.names x b.next b.bound)) (left_again b.numbered a.numbered (ap (λ (e : Env). e.outer) g.same))
    ∙ ap (λ x. env_of s (locals_with a.names a.numbered x b.bound)) g.next
    ∙ ap (λ x. env_of s (locals_with a.names a.numbered (a.next + n) x)) (ap (λ (e : Env). e.bound) g.same)

-- a statement in a scope of its own
pub governed_left : (s : ResolutionContext) (a a1 a2 a3 : LocalContext) (t : StmtTree) → a1 ≡ entered a → env_of s a2 ≡ behind (env_of s a1) t → a3 ≡ left a2 → env_of s a3 ≡ past (env_of s a) (declared_in t)
governed_left s a a1 a2 a3 t h b l =
    let e = enter (env_of s a) in
    let is : env_of s a2 ≡ behind e t = b ∙ ap (λ x. behind (env_of s x) t) h in
    left_scope s a a2 a3 (length (declared_in t)) l (subst (λ f. Grows e f (length (declared_in t))) (sym is) (grows_after e t))

-- a block
pub block_left : (s : ResolutionContext) (a a1 a2 a3 : LocalContext) (ts : List StmtTree) → a1 ≡ entered a → env_of s a2 ≡ behind_all (env_of s a1) ts → a3 ≡ left a2 → env_of s a3 ≡ past (env_of s a) (declared_in_all (stmt_trees ts))
block_left s a a1 a2 a3 ts h b l =
    let e = enter (env_of s a) in
    let n = length (declared_in_all (stmt_trees ts)) in
    let is : env_of s a2 ≡ behind_all e ts = b ∙ ap (λ x. behind_all (env_of s x) ts) h in
    left_scope s a a2 a3 n l (subst (λ f. Grows e f n) (sym is) (grows_after_all ts e))

-- a `for`
pub for_left : (s : ResolutionContext) (a a1 a2 a3 a4 : LocalContext) (i : Option ForInitTree) (t : StmtTree) → a1 ≡ entered a → env_of s a2 ≡ behind_first (env_of s a1) i
    → env_of s a3 ≡ past (env_of s a2) (declared_in t) → a4 ≡ left a3 → env_of s a4 ≡ past (env_of s a) (declared_first i ++ declared_in t)
for_left s a a1 a2 a3 a4 i t h b p l =
    let e = enter (env_of s a) in
    let f = behind_first e i in
    let is : env_of s a3 ≡ past f (declared_in t) = p ∙ ap (λ x. past x (declared_in t)) (b ∙ ap (λ x. behind_first (env_of s x) i) h) in
    left_scope s a a3 a4 (length (declared_first i ++ declared_in t)) l
    (subst (λ g. Grows e g (length (declared_first i ++ declared_in t))) (sym is)
    (grows_more e f (past f (declared_in t)) _ _ _ (grows_first e i) (grows_past f _) (length-append (declared_first i) (declared_in t))))
