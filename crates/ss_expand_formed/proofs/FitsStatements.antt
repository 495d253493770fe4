-- Each statement without faults is resolved to one that fits where it stands.
use Rattle.std.proofs.Common.{◌≡◌, ℕ, List, [], ◌++◌, map, Bool, false, Option, Some, None, refl, sym, subst}
use Rattle.std.specs.Prelude.{option_map}
use Rattle.ss_core.specs.declared.names.Place.{Place}
use Rattle.ss_core.specs.declared.names.Ty.{Ty}
use Rattle.ss_core.specs.Tree as core
use Rattle.ss_ast.specs.Expressions as text
use Rattle.ss_ast.specs.Statements as written
use Rattle.ss_ast.specs.Programs.{ProgramTree}
use Rattle.ss_tables.specs.Scopes.{Scope}
use Rattle.ss_tables.specs.Scopes as scopes
use Rattle.ss_typed.specs.Tree as typed
use Rattle.ss_owners_rules.specs.Words.{NoWord, OfEntry, misplaced, misplaced_if, misplaced_in_all, misplaced_first, misplaced_step, misplaced_at, misplaced_in, misplaced_along}
use Rattle.ss_resolver_names_rules.specs.Expressions.{expr_faults}
use Rattle.ss_resolver_names_rules.specs.Statements as naming
use Rattle.ss_resolver_names_rules.specs.Programs.{program_faults}
use Rattle.ss_resolver_types_heads.specs.Calls.{ExprContext}
use Rattle.ss_resolver_types_heads.specs.Expressions.{AsValue, faults, faults_as}
use Rattle.ss_resolver_types_expressions.specs.Statements.{Body, Outcome, Nothing, Gives, return_faults, exposed_want}
use Rattle.ss_resolver_types_expressions.specs.Statements as typing
use Rattle.ss_resolver_rules.specs.Numbers.{class_id}
use Rattle.ss_resolver_rules.specs.Names.{Env, enter}
use Rattle.ss_resolver_rules.specs.Expressions.{expr}
use Rattle.ss_resolver_rules.specs.Statements.{declared_in_block, declared_in, declared_in_all, declared_first, behind, behind_first, simple, first, block, stmt, stmts}
use Rattle.ss_resolver_rules.specs.Programs.{resolved}
use Rattle.ss_expand_rules.specs.Statements.{exposed_class}
use Rattle.ss_expand_formed.specs.Laws.{core_of}
use Rattle.ss_expand_formed.proofs.Facts.{none_left}
use Rattle.ss_expand_formed.proofs.Fit.{Context}
use Rattle.ss_expand_formed.proofs.ExpressionsScopes.{three_left}
use Rattle.ss_expand_formed.proofs.ExpressionsPlaces.{At, env_at, IsKnown}
use Rattle.ss_expand_formed.proofs.Fits.{WhereGiven, FitTest, FitClaims, FitFirst, FitStep, FitReturn, FitExposed, FitStmt, FitBlock, FitAll}
use Rattle.ss_expand_formed.proofs.Given.{named_at, typed_at, code_at, Stands, given, value_fits, test_fits, claim_fits, claims_fit}
use Rattle.ss_expand_formed.proofs.FitsSimple.{simple_fits}
use Rattle.ss_expand_formed.proofs.FitsDeclared.{enter_at, past_at, first_at, after_at, first_env, after_env, first_scope, after_scope, first_next, after_next, Placed, placed_left, placed_right, enter_stands, past_stands, declaration_fits}
use Rattle.ss_expand_formed.proofs.Exposed.{exposed_fits}

-- a body gives a value of the type of its result, where it has one
abbrev pub Returns : Outcome → Option Ty → Type 0
Returns Nothing None = Unit {0}
Returns Nothing (Some t) = ⊥
Returns (Gives t) None = ⊥
Returns (Gives t) (Some u) = t ≡ Some u

module _ (p : ProgramTree) (faultless : program_faults p ≡ []) (x : Context) (is_known : IsKnown p x) (static constructs : Bool) (from : ℕ) (outcome : Outcome) (returns : Returns outcome x.result) where
  abbrev C : List core.ClassTree
  C = (core_of p).classes

  abbrev P : typed.TypedTree
  P = resolved p

  abbrev B : Body
  B = record { is_static = static; outcome = outcome }

  abbrev Here : At → Type 0
  Here a = Stands p faultless x is_known static constructs from a

  abbrev A : At → ExprContext
  A a = code_at p x static a

  abbrev U : At → Scope
  U a = named_at p x static a

  abbrev T : At → Scope
  T a = typed_at p x static a

  -- ---- returned values

  return_fits : (a : At) → Here a → (q : Place) (e : Option text.ExprTree) → naming.faults_of_any (U a) e ≡ [] → return_faults B (T a) q e ≡ [] → misplaced_if NoWord (option_map (expr (env_at p a)) e) ≡ [] → FitReturn P C x constructs from x.result (option_map (expr (env_at p a)) e)
  return_fits a here q e names types words = by outcome x.result refl returns e names types words
    where
      by : (o : Outcome) (r : Option Ty) → x.result ≡ r → Returns o r → (e : Option text.ExprTree) → naming.faults_of_any (U a) e ≡ [] → return_faults (record { is_static = static; outcome = o }) (T a) q e ≡ [] → misplaced_if NoWord (option_map (expr (env_at p a)) e) ≡ [] →
          FitReturn P C x constructs from r (option_map (expr (env_at p a)) e)
      by Nothing None i h None ns ts ws = tt
      by Nothing None i h (Some y) ns ts ws = let last = (none_left (faults (A a) AsValue y) _ ts).1 in let z : ⊥ = cc in z
      by Nothing (Some t) i h e ns ts ws = absurd h
      by (Gives t) None i h e ns ts ws = absurd h
      by (Gives t) (Some u) i h None ns ts ws = let z : ⊥ = cc in z
      by (Gives t) (Some u) i h (Some y) ns ts ws = value_fits p faultless x is_known static constructs from a here t u h (is_known.result u i) y ns ts ws

  -- ---- the heading of a `for`

  -- the place after what it begins with
  record IsBegun (a : At) (i : Option written.ForInitTree) : Type 0 where
    fit : FitFirst P C x constructs from (first (env_at p a) i)
    here : Here (first_at p a i)

  begins : (a : At) → Here a → (i : Option written.ForInitTree) → Placed p x a.next (declared_first i) → naming.init_faults (U a) i ≡ [] → typing.init_faults B (T a) i ≡ [] → misplaced_first (first (env_at p a) i) ≡ [] → IsBegun a i
  begins a here None placed names types words = record { fit = tt; here = here }
  begins a here (Some (written.DeclareFirst d)) placed names types words =
      let r = declaration_fits p faultless x is_known static constructs from outcome a here d placed names types words in
      record { fit = r.fit; here = r.here }
  begins a here (Some (written.SimpleFirst s)) placed names types words = record { fit = simple_fits p faultless x is_known static constructs from a here s names types words; here = here }

  tested : (a : At) → Here a → (e : Option text.ExprTree) → naming.faults_of_any (U a) e ≡ [] → typing.test_faults B (T a) e ≡ [] → misplaced_if NoWord (option_map (expr (env_at p a)) e) ≡ [] → WhereGiven P C x constructs from (FitTest P C x constructs from) (option_map (expr (env_at p a)) e)
  tested a here None names types words = tt
  tested a here (Some y) names types words = test_fits p faultless x is_known static constructs from a here y names types words

  stepped : (a : At) → Here a → (s : Option written.SimpleTree) → naming.faults_of_any_simple (U a) s ≡ [] → typing.step_faults B (T a) s ≡ [] → misplaced_step (option_map (simple (env_at p a)) s) ≡ [] → FitStep P C x constructs from (option_map (simple (env_at p a)) s)
  stepped a here None names types words = tt
  stepped a here (Some s) names types words = simple_fits p faultless x is_known static constructs from a here s names types words

  -- ---- statements

  pub after_stands : (a : At) → Here a → (s : written.StmtTree) → Placed p x a.next (declared_in s) → naming.stmt_faults (U a) s ≡ [] → typing.stmt_faults B (T a) s ≡ [] → misplaced_at (stmt (env_at p a) s) ≡ [] → Here (after_at p a s)
  after_stands a here (written.DeclareOf d) placed names types words = (declaration_fits p faultless x is_known static constructs from outcome a here d placed names types words).here
  after_stands a here (written.InBlock b) placed names types words = past_stands p faultless x is_known static constructs from a here (declared_in_block b)
  after_stands a here (written.SimpleOf s) placed names types words = here
  after_stands a here (written.IfOf q e s) placed names types words = past_stands p faultless x is_known static constructs from a here (declared_in s)
  after_stands a here (written.IfElseOf q e s r) placed names types words = past_stands p faultless x is_known static constructs from a here (declared_in s ++ declared_in r)
  after_stands a here (written.WhileOf q e es s) placed names types words = past_stands p faultless x is_known static constructs from a here (declared_in s)
  after_stands a here (written.ForOf q i e z es s) placed names types words = past_stands p faultless x is_known static constructs from a here (declared_first i ++ declared_in s)
  after_stands a here (written.ReturnOf q e) placed names types words = here
  after_stands a here (written.AssertOf q e) placed names types words = here
  after_stands a here (written.AssumeOf q e) placed names types words = here
  after_stands a here (written.ExposeOf q e n b) placed names types words = past_stands p faultless x is_known static constructs from a here (declared_in_block b)
  after_stands a here (written.EmptyOf q) placed names types words = here

  abbrev entered : (a : At) → Here a → Here (enter_at a)
  entered a here = enter_stands p faultless x is_known static constructs from a here

  -- of what stands after what a `for` begins with, in its environment and in the scopes of the phases
  abbrev Heading : Env → Scope → Scope → Option text.ExprTree → Option written.SimpleTree → List text.ExprTree → Type 0
  Heading e s t c z es =
      naming.faults_of_any s c ≡ [] → naming.faults_of_any_simple s z ≡ [] → naming.faults_of_all s es ≡ [] → typing.test_faults B t c ≡ [] → typing.step_faults B t z ≡ [] → typing.conditions B t es ≡ [] →
      misplaced_if NoWord (option_map (expr e) c) ≡ [] → misplaced_step (option_map (simple e) z) ≡ [] → misplaced_in_all OfEntry (map (expr e) es) ≡ [] →
      WhereGiven P C x constructs from (FitTest P C x constructs from) (option_map (expr e) c) × FitStep P C x constructs from (option_map (simple e) z) × FitClaims P C x constructs from OfEntry (map (expr e) es)

  headed : (a : At) → Here a → (c : Option text.ExprTree) (z : Option written.SimpleTree) (es : List text.ExprTree) → Heading (env_at p a) (U a) (T a) c z es
  headed a here c z es nc nz ne tc tz te wc wz we = (tested a here c nc tc wc, stepped a here z nz tz wz, claims_fit p faultless x is_known static constructs from outcome a here es ne te we)

  headed_in : (a : At) → Here a → (e : Env) → e ≡ env_at p a → (s : Scope) → s ≡ U a → (t : Scope) → t ≡ T a → (c : Option text.ExprTree) (z : Option written.SimpleTree) (es : List text.ExprTree) → Heading e s t c z es
  headed_in a here e ee s se t te c z es = subst (λ k. Heading k s t c z es) (sym ee) (subst (λ k. Heading (env_at p a) k t c z es) (sym se) (subst (λ k. Heading (env_at p a) (U a) k c z es) (sym te) (headed a here c z es)))

  -- a statement in an environment and the scopes of the phases
  abbrev Fine : Env → Scope → Scope → written.StmtTree → Type 0
  Fine e s t y = naming.stmt_faults s y ≡ [] → typing.stmt_faults B t y ≡ [] → misplaced_at (stmt e y) ≡ [] → FitStmt P C x constructs from (stmt e y)

  abbrev AllFine : Env → Scope → Scope → written.StmtTrees → Type 0
  AllFine e s t ys = naming.stmts_faults s ys ≡ [] → typing.stmts_faults B t ys ≡ [] → misplaced_along (stmts e ys) ≡ [] → FitAll P C x constructs from (stmts e ys)

  fine_in : (a : At) (e : Env) → e ≡ env_at p a → (s : Scope) → s ≡ U a → (t : Scope) → t ≡ T a → (y : written.StmtTree) → Fine (env_at p (enter_at a)) (U (enter_at a)) (T (enter_at a)) y → Fine (enter e) (scopes.enter s) (scopes.enter t) y
  fine_in a e ee s se t te y h = subst (λ k. Fine (enter k) (scopes.enter s) (scopes.enter t) y) (sym ee) (subst (λ k. Fine (enter (env_at p a)) (scopes.enter k) (scopes.enter t) y) (sym se) (subst (λ k. Fine (enter (env_at p a)) (scopes.enter (U a)) (scopes.enter k) y) (sym te) h))

  all_fine_in : (a : At) (e : Env) → e ≡ env_at p a → (s : Scope) → s ≡ U a → (t : Scope) → t ≡ T a → (ys : written.StmtTrees) → AllFine (env_at p a) (U a) (T a) ys → AllFine e s t ys
  all_fine_in a e ee s se t te ys h = subst (λ k. AllFine k s t ys) (sym ee) (subst (λ k. AllFine (env_at p a) k t ys) (sym se) (subst (λ k. AllFine (env_at p a) (U a) k ys) (sym te) h))

  exposes : (a : At) → Here a → (y : text.ExprTree) (n : Option text.NameTree) → expr_faults (U a) y ≡ [] → naming.named_class_faults p.classes n ≡ [] → faults_as (A a) (exposed_want p.classes n) y ≡ [] → misplaced NoWord (expr (env_at p a) y) ≡ [] →
      FitExposed P C x constructs from (expr (env_at p a) y) (exposed_class (expr (env_at p a) y) (option_map (λ (m : text.NameTree). class_id p.classes m.text) n))
  exposes a here y n names class types words =
      let g = given p faultless x is_known static constructs from a here (exposed_want p.classes n) y names types words in
      let e = exposed_fits p faultless x is_known static a here.place y n class g.wanted in
      (g.fits, e.0, e.1)

  mutual
    pub stmt_fits : (a : At) → Here a → (y : written.StmtTree) → Placed p x a.next (declared_in y) → Fine (env_at p a) (U a) (T a) y
    stmt_fits a here (written.InBlock b) placed names types words = block_fits a here b placed names types words
    stmt_fits a here (written.DeclareOf d) placed names types words = (declaration_fits p faultless x is_known static constructs from outcome a here d placed names types words).fit
    stmt_fits a here (written.SimpleOf s) placed names types words = simple_fits p faultless x is_known static constructs from a here s names types words
    stmt_fits a here (written.IfOf q e s) placed names types words =
        let ns = none_left (expr_faults (U a) e) _ names in
        let ts = none_left (typing.test B (T a) e) _ types in
        let ws = none_left (misplaced NoWord (expr (env_at p a) e)) _ words in
        (test_fits p faultless x is_known static constructs from a here e ns.0 ts.0 ws.0, stmt_fits (enter_at a) (entered a here) s placed ns.1 ts.1 ws.1)
    stmt_fits a here (written.IfElseOf q e s r) placed names types words =
        let ns = three_left (expr_faults (U a) e) (naming.stmt_faults (scopes.enter (U a)) s) _ names in
        let ts = three_left (typing.test B (T a) e) (typing.stmt_faults B (scopes.enter (T a)) s) _ types in
        let ws = three_left (misplaced NoWord (expr (env_at p a) e)) (misplaced_at (stmt (enter (env_at p a)) s)) _ words in
        let b = past_at a (declared_in s) in (
          test_fits p faultless x is_known static constructs from a here e ns.0 ts.0 ws.0,
          stmt_fits (enter_at a) (entered a here) s (placed_left p x a.next (declared_in s) (declared_in r) placed) ns.1 ts.1 ws.1,
          stmt_fits (enter_at b) (entered b (past_stands p faultless x is_known static constructs from a here (declared_in s))) r (placed_right p x a.next (declared_in s) (declared_in r) placed) ns.2 ts.2 ws.2,
        )
    stmt_fits a here (written.WhileOf q e es s) placed names types words =
        let ns = three_left (expr_faults (U a) e) (naming.faults_of_all (U a) es) _ names in
        let ts = three_left (typing.test B (T a) e) (typing.conditions B (T a) es) _ types in
        let ws = three_left (misplaced NoWord (expr (env_at p a) e)) (misplaced_in_all OfEntry (map (expr (env_at p a)) es)) _ words in (
          test_fits p faultless x is_known static constructs from a here e ns.0 ts.0 ws.0,
          claims_fit p faultless x is_known static constructs from outcome a here es ns.1 ts.1 ws.1,
          stmt_fits (enter_at a) (entered a here) s placed ns.2 ts.2 ws.2,
        )
    stmt_fits a here (written.ForOf q i e z es s) placed names types words =
        let o = enter_at a in
        let inner = first_at p o i in
        let env = behind_first (enter (env_at p a)) i in
        let named = scopes.after_init (scopes.enter (U a)) i in
        let known = scopes.after_init (scopes.enter (T a)) i in
        let ns = three_left (naming.init_faults (scopes.enter (U a)) i) (naming.heading_faults named e z es) _ names in
        let hs = three_left (naming.faults_of_any named e) (naming.faults_of_any_simple named z) _ ns.1 in
        let last = none_left (typing.init_faults B (scopes.enter (T a)) i ++ typing.test_faults B known e ++ typing.step_faults B known z ++ typing.conditions B known es) _ types in
        let more = none_left (typing.init_faults B (scopes.enter (T a)) i ++ typing.test_faults B known e ++ typing.step_faults B known z) _ last.0 in
        let ts = three_left (typing.init_faults B (scopes.enter (T a)) i) (typing.test_faults B known e) _ more.0 in
        let end = none_left (misplaced_first (first (enter (env_at p a)) i) ++ misplaced_if NoWord (option_map (expr env) e) ++ misplaced_step (option_map (simple env) z) ++ misplaced_in_all OfEntry (map (expr env) es)) _ words in
        let claims = none_left (misplaced_first (first (enter (env_at p a)) i) ++ misplaced_if NoWord (option_map (expr env) e) ++ misplaced_step (option_map (simple env) z)) _ end.0 in
        let ws = three_left (misplaced_first (first (enter (env_at p a)) i)) (misplaced_if NoWord (option_map (expr env) e)) _ claims.0 in
        let begun = begins o (entered a here) i (placed_left p x a.next (declared_first i) (declared_in s) placed) ns.0 ts.0 ws.0 in
        let ee = first_env p o i in
        let se = first_scope p static false o i in
        let te = first_scope p static static o i in
        let heading = headed_in inner begun.here env ee named se known te e z es hs.0 hs.1 hs.2 ts.1 ts.2 more.1 ws.1 ws.2 claims.1 in
        let further : Placed p x inner.next (declared_in s) = subst (λ n. Placed p x n (declared_in s)) (sym (first_next p o i)) (placed_right p x a.next (declared_first i) (declared_in s) placed) in
        let governed = fine_in inner env ee named se known te s (stmt_fits (enter_at inner) (entered inner begun.here) s further) ns.2 last.1 end.1 in
        (begun.fit, heading.0, heading.1, heading.2, governed)
    stmt_fits a here (written.ReturnOf q e) placed names types words = return_fits a here q e names types words
    stmt_fits a here (written.AssertOf q e) placed names types words = claim_fits p faultless x is_known static constructs from OfEntry refl a here e names types words
    stmt_fits a here (written.AssumeOf q e) placed names types words = claim_fits p faultless x is_known static constructs from NoWord refl a here e names types words
    stmt_fits a here (written.ExposeOf q e n b) placed names types words =
        let ns = three_left (expr_faults (U a) e) (naming.named_class_faults p.classes n) _ names in
        let ts = none_left (faults_as (A a) (exposed_want p.classes n) e) _ types in
        let ws = none_left (misplaced NoWord (expr (env_at p a) e)) _ words in
        (exposes a here e n ns.0 ns.1 ts.0 ws.0, block_fits a here b placed ns.2 ts.1 ws.1)
    stmt_fits a here (written.EmptyOf q) placed names types words = tt

    pub block_fits : (a : At) → Here a → (b : written.BlockTree) → Placed p x a.next (declared_in_block b) → naming.block_faults (U a) b ≡ [] → typing.block_faults B (T a) b ≡ [] → misplaced_in (block (env_at p a) b) ≡ [] → FitBlock P C x constructs from (block (env_at p a) b)
    block_fits a here (written.BlockOf q ys r) placed names types words = stmts_fit (enter_at a) (entered a here) ys placed names types words

    pub stmts_fit : (a : At) → Here a → (ys : written.StmtTrees) → Placed p x a.next (declared_in_all ys) → AllFine (env_at p a) (U a) (T a) ys
    stmts_fit a here written.NoMore placed names types words = tt
    stmts_fit a here (written.Before y ys) placed names types words =
        let ns = none_left (naming.stmt_faults (U a) y) _ names in
        let ts = none_left (typing.stmt_faults B (T a) y) _ types in
        let ws = none_left (misplaced_at (stmt (env_at p a) y)) _ words in
        let mine = placed_left p x a.next (declared_in y) (declared_in_all ys) placed in
        let b = after_at p a y in
        let more : Placed p x b.next (declared_in_all ys) = subst (λ n. Placed p x n (declared_in_all ys)) (sym (after_next p a y)) (placed_right p x a.next (declared_in y) (declared_in_all ys) placed) in
        let rest = stmts_fit b (after_stands a here y mine ns.0 ts.0 ws.0) ys more in (
          stmt_fits a here y mine ns.0 ts.0 ws.0,
          all_fine_in b (behind (env_at p a) y) (after_env p a y) (scopes.behind (U a) y) (after_scope p static false a y) (scopes.behind (T a) y) (after_scope p static static a y) ys rest ns.1 ts.1 ws.1,
        )
