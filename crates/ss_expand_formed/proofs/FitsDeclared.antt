-- The places after declared locals, and the types that these have in the context of the body.
use Rattle.std.proofs.Common.{◌≡◌, ℕ, suc, ◌+◌, List, [], ◌∷◌, ◌++◌, length, map, Bool, true, false, Option, Some, None, refl, sym, ◌∙◌, ap, subst, arith}
use Rattle.std.specs.Prelude.{slice_get, option_map}
use Rattle.std.proofs.lemmas.List.{length-map}
use Rattle.ss_core.specs.Tree as core
use Rattle.ss_core.specs.Chain.{is_type}
use Rattle.ss_ast.specs.Expressions.{TypeTree}
use Rattle.ss_ast.specs.Expressions as text
use Rattle.ss_ast.specs.Statements as written
use Rattle.ss_ast.specs.Programs.{ProgramTree}
use Rattle.ss_tables.specs.Types.{written_type}
use Rattle.ss_tables.specs.Scopes as scopes
use Rattle.ss_owners_rules.specs.Words.{misplaced_declared, misplaced_if, NoWord}
use Rattle.ss_resolver_names_rules.specs.Faults.{type_faults, twice_in}
use Rattle.ss_resolver_names_rules.specs.Statements as naming
use Rattle.ss_resolver_names_rules.specs.Programs.{program_faults}
use Rattle.ss_resolver_types_heads.specs.Expressions.{mark_faults}
use Rattle.ss_resolver_types_expressions.specs.Statements.{Body, Outcome, initial_faults}
use Rattle.ss_resolver_types_expressions.specs.Statements as typing
use Rattle.ss_resolver_rules.specs.Numbers.{type_id}
use Rattle.ss_resolver_rules.specs.Names.{Env, enter, after_declaration}
use Rattle.ss_resolver_rules.specs.Names as resolver
use Rattle.ss_resolver_rules.specs.Expressions.{expr}
use Rattle.ss_resolver_rules.specs.Statements.{Declared, declared_by, declared_first, declared_in, declarators, declaration, behind, behind_first}
use Rattle.ss_resolver_rules.specs.Programs.{resolved}
use Rattle.ss_expand_formed.specs.Laws.{core_of}
use Rattle.ss_expand_formed.proofs.Facts.{none_left}
use Rattle.ss_expand_formed.proofs.ChainLaw.{type_known}
use Rattle.ss_expand_formed.proofs.Fit.{Context}
use Rattle.ss_expand_formed.proofs.ExpressionsScopes.{refusing, three_left}
use Rattle.ss_expand_formed.proofs.Classes.{type_there}
use Rattle.ss_expand_formed.proofs.ExpressionsPlaces.{At, scope_at, env_at, IsKnown}
use Rattle.ss_expand_formed.proofs.Environments.{with_at, place_with}
use Rattle.ss_expand_formed.proofs.Fits.{FitValue, FitDeclared, WhereGiven}
use Rattle.ss_expand_formed.proofs.Given.{named_at, typed_at, code_at, Stands, value_fits}

abbrev named : TypeTree → written.DeclaratorTree → Declared
named t d = record { name = d.name; ty = t }

-- ---- places

-- within a scope of its own
abbrev pub enter_at : At → At
enter_at a = record a { names = []; more_names = a.names ∷ a.more_names; numbers = []; more_numbers = a.numbers ∷ a.more_numbers }

-- past locals of inner scopes
abbrev pub past_at : At → List Declared → At
past_at a ds = record a { next = a.next + length ds }

module _ (p : ProgramTree) where
  -- after declared locals
  abbrev pub declared_at : At → TypeTree → List written.DeclaratorTree → At
  declared_at a t [] = a
  declared_at a t (d ∷ ds) = declared_at (with_at p false a t d.name.text) t ds

  abbrev pub first_at : At → Option written.ForInitTree → At
  first_at a None = a
  first_at a (Some (written.DeclareFirst d)) = declared_at a d.ty d.declarators
  first_at a (Some (written.SimpleFirst s)) = a

  -- after a statement
  abbrev pub after_at : At → written.StmtTree → At
  after_at a (written.DeclareOf d) = declared_at a d.ty d.declarators
  after_at a (written.InBlock b) = past_at a (declared_in (written.InBlock b))
  after_at a (written.SimpleOf s) = a
  after_at a (written.IfOf q e s) = past_at a (declared_in (written.IfOf q e s))
  after_at a (written.IfElseOf q e s r) = past_at a (declared_in (written.IfElseOf q e s r))
  after_at a (written.WhileOf q e es s) = past_at a (declared_in (written.WhileOf q e es s))
  after_at a (written.ForOf q i e z es s) = past_at a (declared_in (written.ForOf q i e z es s))
  after_at a (written.ReturnOf q e) = a
  after_at a (written.AssertOf q e) = a
  after_at a (written.AssumeOf q e) = a
  after_at a (written.ExposeOf q e n b) = past_at a (declared_in (written.ExposeOf q e n b))
  after_at a (written.EmptyOf q) = a

  declared_env : (a : At) (t : TypeTree) (ds : List written.DeclaratorTree) → resolver.declare_all (env_at p a) t ds ≡ env_at p (declared_at a t ds)
  declared_env a t [] = refl
  declared_env a t (d ∷ ds) = declared_env (with_at p false a t d.name.text) t ds

  pub first_env : (a : At) (i : Option written.ForInitTree) → behind_first (env_at p a) i ≡ env_at p (first_at a i)
  first_env a None = refl
  first_env a (Some (written.DeclareFirst d)) = declared_env a d.ty d.declarators
  first_env a (Some (written.SimpleFirst s)) = refl

  pub after_env : (a : At) (s : written.StmtTree) → behind (env_at p a) s ≡ env_at p (after_at a s)
  after_env a (written.DeclareOf d) = declared_env a d.ty d.declarators
  after_env a (written.InBlock b) = refl
  after_env a (written.SimpleOf s) = refl
  after_env a (written.IfOf q e s) = refl
  after_env a (written.IfElseOf q e s r) = refl
  after_env a (written.WhileOf q e es s) = refl
  after_env a (written.ForOf q i e z es s) = refl
  after_env a (written.ReturnOf q e) = refl
  after_env a (written.AssertOf q e) = refl
  after_env a (written.AssumeOf q e) = refl
  after_env a (written.ExposeOf q e n b) = refl
  after_env a (written.EmptyOf q) = refl

  module _ (members this : Bool) where
    -- the scope of a phase
    abbrev S : At → scopes.Scope
    S a = refusing members this (scope_at p a)

    declared_scope : (a : At) (t : TypeTree) (ds : List written.DeclaratorTree) → scopes.declare_all (S a) t ds ≡ S (declared_at a t ds)
    declared_scope a t [] = refl
    declared_scope a t (d ∷ ds) = declared_scope (with_at p false a t d.name.text) t ds

    pub first_scope : (a : At) (i : Option written.ForInitTree) → scopes.after_init (S a) i ≡ S (first_at a i)
    first_scope a None = refl
    first_scope a (Some (written.DeclareFirst d)) = declared_scope a d.ty d.declarators
    first_scope a (Some (written.SimpleFirst s)) = refl

    pub after_scope : (a : At) (s : written.StmtTree) → scopes.behind (S a) s ≡ S (after_at a s)
    after_scope a (written.DeclareOf d) = declared_scope a d.ty d.declarators
    after_scope a (written.InBlock b) = refl
    after_scope a (written.SimpleOf s) = refl
    after_scope a (written.IfOf q e s) = refl
    after_scope a (written.IfElseOf q e s r) = refl
    after_scope a (written.WhileOf q e es s) = refl
    after_scope a (written.ForOf q i e z es s) = refl
    after_scope a (written.ReturnOf q e) = refl
    after_scope a (written.AssertOf q e) = refl
    after_scope a (written.AssumeOf q e) = refl
    after_scope a (written.ExposeOf q e n b) = refl
    after_scope a (written.EmptyOf q) = refl

  -- ---- the number of the next local

  declared_next : (a : At) (t : TypeTree) (ds : List written.DeclaratorTree) → (declared_at a t ds).next ≡ a.next + length ds
  declared_next a t [] = omega arith
  declared_next a t (d ∷ ds) = let rest : (declared_at (with_at p false a t d.name.text) t ds).next ≡ a.next + 1 + length ds = declared_next (with_at p false a t d.name.text) t ds in omega arith

  pub first_next : (a : At) (i : Option written.ForInitTree) → (first_at a i).next ≡ a.next + length (declared_first i)
  first_next a None = omega arith
  first_next a (Some (written.DeclareFirst d)) = declared_next a d.ty d.declarators ∙ ap (λ n. a.next + n) (sym (length-map d.declarators (named d.ty)))
  first_next a (Some (written.SimpleFirst s)) = omega arith

  pub after_next : (a : At) (s : written.StmtTree) → (after_at a s).next ≡ a.next + length (declared_in s)
  after_next a (written.DeclareOf d) = declared_next a d.ty d.declarators ∙ ap (λ n. a.next + n) (sym (length-map d.declarators (named d.ty)))
  after_next a (written.InBlock b) = refl
  after_next a (written.SimpleOf s) = omega arith
  after_next a (written.IfOf q e s) = refl
  after_next a (written.IfElseOf q e s r) = refl
  after_next a (written.WhileOf q e es s) = refl
  after_next a (written.ForOf q i e z es s) = refl
  after_next a (written.ReturnOf q e) = omega arith
  after_next a (written.AssertOf q e) = omega arith
  after_next a (written.AssumeOf q e) = omega arith
  after_next a (written.ExposeOf q e n b) = refl
  after_next a (written.EmptyOf q) = omega arith

-- ---- the types of declared locals

module _ (p : ProgramTree) (x : Context) where
  -- from this number on, the locals of the context have the types of these
  abbrev pub Placed : ℕ → List Declared → Type 0
  Placed n [] = Unit {0}
  Placed n (d ∷ ds) = (slice_get x.locals n ≡ Some (type_id p.classes d.ty)) × Placed (n + 1) ds

  pub placed_left : (n : ℕ) (ds es : List Declared) → Placed n (ds ++ es) → Placed n ds
  placed_left n [] es h = tt
  placed_left n (d ∷ ds) es h = (h.0, placed_left (n + 1) ds es h.1)

  pub placed_right : (n : ℕ) (ds es : List Declared) → Placed n (ds ++ es) → Placed (n + length ds) es
  placed_right n [] es h = let z : n ≡ n + 0 = omega arith in subst (λ m. Placed m es) z h
  placed_right n (d ∷ ds) es h = let s : n + 1 + length ds ≡ n + suc (length ds) = omega arith in subst (λ m. Placed m es) s (placed_right (n + 1) ds es h.1)

module _ (p : ProgramTree) (faultless : program_faults p ≡ []) (x : Context) (is_known : IsKnown p x) (static constructs : Bool) (first : ℕ) where
  abbrev C : List core.ClassTree
  C = (core_of p).classes

  abbrev Here : At → Type 0
  Here a = Stands p faultless x is_known static constructs first a

  pub enter_stands : (a : At) → Here a → Here (enter_at a)
  enter_stands a h =
      let q = h.place in
      record {
        place = record { class = q.class; this = q.this; in_static = q.in_static; in_class = q.in_class; outcome = q.outcome; answer_is = q.answer_is; inner = tt; outer = (q.inner, q.outer) };
        unbound = h.unbound;
        behind = h.behind;
      }

  pub past_stands : (a : At) → Here a → (ds : List Declared) → Here (past_at a ds)
  past_stands a h ds =
      let q = h.place in
      let l = h.behind in
      record {
        place = record { class = q.class; this = q.this; in_static = q.in_static; in_class = q.in_class; outcome = q.outcome; answer_is = q.answer_is; inner = q.inner; outer = q.outer };
        unbound = h.unbound;
        behind = omega arith;
      }

  -- a written type that is known
  record IsWritten (t : TypeTree) : Type 0 where
    is : written_type p.classes t ≡ Some (type_id p.classes t)
    known : is_type C (type_id p.classes t) ≡ true

  written_is : (t : TypeTree) → type_faults p.classes t ≡ [] → IsWritten t
  written_is t h = let k = type_known p faultless t h in record { is = type_there p faultless t k; known = k }

  with_stands : (a : At) → Here a → (t : TypeTree) → IsWritten t → (n : List ℕ) → slice_get x.locals a.next ≡ Some (type_id p.classes t) → Here (with_at p false a t n)
  with_stands a h t w n at =
      let l = h.behind in
      record { place = place_with p x static false false false a t n h.place w.is at; unbound = h.unbound; behind = omega arith }

  initial_fits : (a : At) → Here a → (t : TypeTree) → IsWritten t → (o : Option text.ExprTree) → naming.faults_of_any (named_at p x static a) o ≡ [] → initial_faults (code_at p x static a) t o ≡ [] → misplaced_if NoWord (option_map (expr (env_at p a)) o) ≡ [] →
      WhereGiven (resolved p) C x constructs first (FitValue (resolved p) C x constructs first (type_id p.classes t)) (option_map (expr (env_at p a)) o)
  initial_fits a here t w None names types words = tt
  initial_fits a here t w (Some y) names types words = value_fits p faultless x is_known static constructs first a here (written_type p.classes t) (type_id p.classes t) w.is w.known y names types words

  module _ (o : Outcome) where
    abbrev B : Body
    B = record { is_static = static; outcome = o }

    record AreDeclared (a : At) (t : TypeTree) (ds : List written.DeclaratorTree) : Type 0 where
      fit : FitDeclared (resolved p) C x constructs first (declarators (env_at p a) t ds)
      here : Here (declared_at p a t ds)

    declarators_fit : (a : At) → Here a → (t : TypeTree) → IsWritten t → (ds : List written.DeclaratorTree) → Placed p x a.next (map (named t) ds) → naming.declarators_faults (named_at p x static a) t ds ≡ [] → typing.declarator_faults B (typed_at p x static a) t ds ≡ [] →
        misplaced_declared (declarators (env_at p a) t ds) ≡ [] → AreDeclared a t ds
    declarators_fit a here t w [] placed names types words = record { fit = tt; here = here }
    declarators_fit a here t w (d ∷ ds) placed names types words =
        let ns = three_left (naming.faults_of_any (named_at p x static a) d.initial) (twice_in a.names d.name) _ names in
        let ts = none_left (initial_faults (code_at p x static a) t d.initial) _ types in
        let hs = none_left (misplaced_if NoWord (option_map (expr (env_at p a)) d.initial)) _ words in
        let rest = declarators_fit (with_at p false a t d.name.text) (with_stands a here t w d.name.text placed.0) t w ds placed.1 ns.2 ts.1 hs.1 in
        record { fit = ((here.behind, placed.0, w.known, initial_fits a here t w d.initial ns.0 ts.0 hs.0), rest.fit); here = rest.here }

    -- a declaration without faults, and the place after it
    pub record IsDeclared (a : At) (d : written.DeclarationTree) : Type 0 where
      pub fit : FitDeclared (resolved p) C x constructs first (declaration (env_at p a) d)
      pub here : Here (declared_at p a d.ty d.declarators)

    pub declaration_fits : (a : At) → Here a → (d : written.DeclarationTree) → Placed p x a.next (declared_by d) → naming.declaration_faults (named_at p x static a) d ≡ [] → typing.declaration_faults B (typed_at p x static a) d ≡ [] → misplaced_declared (declaration (env_at p a) d) ≡ [] → IsDeclared a d
    declaration_fits a here d placed names types words =
        let ns = none_left (type_faults p.classes d.ty) _ names in
        let ts = none_left (mark_faults d.ty) _ types in
        let r = declarators_fit a here d.ty (written_is d.ty ns.0) d.declarators placed ns.1 ts.1 words in
        record { fit = r.fit; here = r.here }
