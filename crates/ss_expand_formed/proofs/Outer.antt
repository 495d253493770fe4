-- The statements of a constructor's block fit, where one of them may be `base(..)`.
use Rattle.std.proofs.Common.{◌≡◌, ℕ, List, [], Bool, true, false, None, refl, sym, subst}
use Rattle.std.specs.Prelude.{◌&&◌, is_some}
use Rattle.std.proofs.lemmas.Bool.{true≢false}
use Rattle.ss_core.specs.Tree as core
use Rattle.ss_ast.specs.Expressions as text
use Rattle.ss_ast.specs.Statements as written
use Rattle.ss_ast.specs.Programs.{ProgramTree}
use Rattle.ss_tables.specs.Classes.{class_number}
use Rattle.ss_tables.specs.Scopes.{Scope}
use Rattle.ss_tables.specs.Statics.{count}
use Rattle.ss_typed.specs.Tree.{TypedTree}
use Rattle.ss_owners_rules.specs.Words.{misplaced_at, misplaced_along, misplaced_in}
use Rattle.ss_resolver_names_rules.specs.Statements as naming
use Rattle.ss_resolver_names_rules.specs.Programs.{program_faults}
use Rattle.ss_resolver_types_heads.specs.Calls.{Taking, base_wants, whole_call}
use Rattle.ss_resolver_types_expressions.specs.Statements.{Nothing, stmt_faults}
use Rattle.ss_resolver_types_expressions.specs.Members.{constructor_body, base_call, is_first_assignment, outermost_faults, constructor_stmts, constructor_block, calls_base, block_calls_base}
use Rattle.ss_resolver_rules.specs.Names.{Env}
use Rattle.ss_resolver_rules.specs.Statements.{declared_in_block, declared_in, declared_in_all, behind, block, stmt, stmts}
use Rattle.ss_resolver_rules.specs.Programs.{resolved}
use Rattle.ss_typed.specs.Shapes.{in_block, has_base, is_base}
use Rattle.ss_expand_formed.specs.Laws.{core_of}
use Rattle.ss_expand_formed.proofs.Facts.{none_left, or_false}
use Rattle.ss_expand_formed.proofs.Fit.{Context}
use Rattle.ss_expand_formed.proofs.ExpressionsScopes.{no_fault}
use Rattle.ss_expand_formed.proofs.ExpressionsPlaces.{At, env_at, IsKnown}
use Rattle.ss_expand_formed.proofs.Fits.{FitStmt, FitBlock, FitAll}
use Rattle.ss_expand_formed.proofs.Given.{named_at, typed_at, Stands, base_given}
use Rattle.ss_expand_formed.proofs.FitsDeclared.{enter_at, after_at, after_env, after_scope, after_next, Placed, placed_left, placed_right, enter_stands}
use Rattle.ss_expand_formed.proofs.FitsStatements.{Returns, after_stands, stmt_fits}

-- ---- whether a block has one

base_resolved : (e : Env) (y : written.StmtTree) → is_base (stmt e y) ≡ false → is_some (base_call y) ≡ false
base_resolved e (written.SimpleOf (written.AloneOf (text.CallOf q (text.BaseOf r) es))) h = absurd (true≢false h)
base_resolved e y h = refl

pub none_called : (e : Env) (ys : written.StmtTrees) → has_base (stmts e ys) ≡ false → calls_base ys ≡ false
none_called e written.NoMore h = refl
none_called e (written.Before y ys) h =
    let both = or_false (is_base (stmt e y)) (has_base (stmts (behind e y) ys)) h in
    rw (base_resolved e y both.0) (none_called (behind e y) ys both.1)

pub block_calls_none : (e : Env) (b : written.BlockTree) → has_base (in_block (block e b)) ≡ false → block_calls_base b ≡ false
block_calls_none e (written.BlockOf q ys r) h = none_called _ ys h

-- ---- the block

module _ (p : ProgramTree) (faultless : program_faults p ≡ []) (x : Context) (is_known : IsKnown p x) (first : ℕ) (returns : Returns Nothing x.result) (k : ℕ) (class : x.class ≡ class_number k) where
  abbrev C : List core.ClassTree
  C = (core_of p).classes

  abbrev P : TypedTree
  P = resolved p

  abbrev Here : At → Type 0
  Here a = Stands p faultless x is_known false true first a

  abbrev U : At → Scope
  U a = named_at p x false a

  abbrev T : At → Scope
  T a = typed_at p x false a

  -- an outermost statement, and the place after it
  record IsOuter (a : At) (y : written.StmtTree) : Type 0 where
    fit : FitStmt P C x true first (stmt (env_at p a) y)
    here : Here (after_at p a y)

  ordinary : (a : At) → Here a → (y : written.StmtTree) → Placed p x a.next (declared_in y) → naming.stmt_faults (U a) y ≡ [] → stmt_faults constructor_body (T a) y ≡ [] → misplaced_at (stmt (env_at p a) y) ≡ [] → IsOuter a y
  ordinary a here y placed ns ts ws = record {
    fit = stmt_fits p faultless x is_known false true first Nothing returns a here y placed ns ts ws;
    here = after_stands p faultless x is_known false true first Nothing returns a here y placed ns ts ws;
  }

  no_base : (s : Scope) (y : written.StmtTree) (may : Bool) → base_call y ≡ None → outermost_faults k s y may (base_call y) ≡ [] → stmt_faults constructor_body s y ≡ []
  no_base s y true e h = subst (λ o. outermost_faults k s y true o ≡ []) e h
  no_base s y false e h = h

  outer_fits : (a : At) → Here a → (y : written.StmtTree) → Placed p x a.next (declared_in y) → naming.stmt_faults (U a) y ≡ [] → (may : Bool) → outermost_faults k (T a) y may (base_call y) ≡ [] → misplaced_at (stmt (env_at p a) y) ≡ [] → IsOuter a y
  outer_fits a here (written.SimpleOf (written.AloneOf (text.CallOf q (text.BaseOf r) es))) placed ns true ts ws =
      let both = none_left (whole_call q (count es) (Taking (base_wants p.classes k))) _ ts in
      let given = base_given p faultless x is_known true first k class a here es ns (no_fault _ _ both.0) both.1 ws in
      record { fit = (refl, given); here = here }
  outer_fits a here (written.SimpleOf (written.AloneOf (text.CallOf q (text.BaseOf r) es))) placed ns false ts ws = ordinary a here (written.SimpleOf (written.AloneOf (text.CallOf q (text.BaseOf r) es))) placed ns ts ws
  outer_fits a here y placed ns may ts ws = ordinary a here y placed ns (no_base (T a) y may refl ts) ws

  all_fit : (a : At) → Here a → (ys : written.StmtTrees) → Placed p x a.next (declared_in_all ys) → naming.stmts_faults (U a) ys ≡ [] → (may : Bool) → constructor_stmts k (T a) may ys ≡ [] → misplaced_along (stmts (env_at p a) ys) ≡ [] → FitAll P C x true first (stmts (env_at p a) ys)
  all_fit a here written.NoMore placed names may types words = tt
  all_fit a here (written.Before y ys) placed names may types words =
      let ns = none_left (naming.stmt_faults (U a) y) _ names in
      let ts = none_left (outermost_faults k (T a) y may (base_call y)) _ types in
      let ws = none_left (misplaced_at (stmt (env_at p a) y)) _ words in
      let o = outer_fits a here y (placed_left p x a.next (declared_in y) (declared_in_all ys) placed) ns.0 may ts.0 ws.0 in
      let b = after_at p a y in
      let more : Placed p x b.next (declared_in_all ys) = subst (λ n. Placed p x n (declared_in_all ys)) (sym (after_next p a y)) (placed_right p x a.next (declared_in y) (declared_in_all ys) placed) in
      let named : naming.stmts_faults (U b) ys ≡ [] = subst (λ s. naming.stmts_faults s ys ≡ []) (after_scope p false false a y) ns.1 in
      let typed : constructor_stmts k (T b) (may && is_first_assignment k (T a) y) ys ≡ [] = subst (λ s. constructor_stmts k s (may && is_first_assignment k (T a) y) ys ≡ []) (after_scope p false false a y) ts.1 in
      let worded : misplaced_along (stmts (env_at p b) ys) ≡ [] = subst (λ e. misplaced_along (stmts e ys) ≡ []) (after_env p a y) ws.1 in
      (o.fit, subst (λ e. FitAll P C x true first (stmts e ys)) (sym (after_env p a y)) (all_fit b o.here ys more named (may && is_first_assignment k (T a) y) typed worded))

  pub constructor_block_fits : (a : At) → Here a → (b : written.BlockTree) → Placed p x a.next (declared_in_block b) → naming.block_faults (U a) b ≡ [] → (may : Bool) → constructor_block k (T a) may b ≡ [] → misplaced_in (block (env_at p a) b) ≡ [] → FitBlock P C x true first (block (env_at p a) b)
  constructor_block_fits a here (written.BlockOf q ys r) placed names may types words = all_fit (enter_at a) (enter_stands p faultless x is_known false true first a here) ys placed names may types words
