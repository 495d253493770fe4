-- An expression of code without faults is resolved to one that fits where it stands.
use Rattle.std.proofs.Common.{◌≡◌, ℕ, ◌≤◌, List, [], ◌∷◌, map, Bool, true, false, Option, Some, None, refl, ◌∙◌, ap, subst, arith}
use Rattle.ss_core.specs.declared.names.Ty.{Ty}
use Rattle.ss_core.specs.Tree as core
use Rattle.ss_core.specs.Chain.{is_type}
use Rattle.ss_ast.specs.Expressions.{Arguments}
use Rattle.ss_ast.specs.Expressions as text
use Rattle.ss_ast.specs.Programs.{ProgramTree}
use Rattle.ss_tables.specs.Scopes.{Scope}
use Rattle.ss_tables.specs.Classes.{class_number}
use Rattle.ss_tables.specs.Statics.{count}
use Rattle.ss_typed.specs.Tree.{TypedTree}
use Rattle.ss_owners_rules.specs.Words.{Allowed, NoWord, OfEntry, allows_result, misplaced, misplaced_each, misplaced_in_all}
use Rattle.ss_resolver_names_rules.specs.Expressions.{expr_faults, arguments_faults}
use Rattle.ss_resolver_names_rules.specs.Statements.{faults_of_all}
use Rattle.ss_resolver_names_rules.specs.Programs.{program_faults}
use Rattle.ss_resolver_types_heads.specs.Wants.{Want, ABool, OfType, may_stand_for, suits}
use Rattle.ss_resolver_types_heads.specs.Calls.{ExprContext, Taking, base_wants, argument_wants, is_wrong_call}
use Rattle.ss_resolver_types_heads.specs.Expressions.{AsValue, faults, argument_faults, faults_as}
use Rattle.ss_resolver_types_expressions.specs.Statements.{Outcome, conditions}
use Rattle.ss_resolver_rules.specs.Expressions.{expr, args}
use Rattle.ss_resolver_rules.specs.Programs.{resolved}
use Rattle.ss_expand_rules.specs.Program.{above_of}
use Rattle.ss_typed.specs.Lookups.{constructor_of, param_types_in}
use Rattle.ss_store_rules.specs.Types.{has_fitting}
use Rattle.ss_expand_formed.specs.Laws.{core_of}
use Rattle.ss_expand_formed.proofs.Facts.{none_left}
use Rattle.ss_expand_formed.proofs.Fit.{Context, Fit}
use Rattle.ss_expand_formed.proofs.ExpressionsScopes.{refusing, expr_context}
use Rattle.ss_expand_formed.proofs.Classes.{stands_fits}
use Rattle.ss_expand_formed.proofs.ExpressionsPlaces.{At, scope_at, env_at, IsKnown, IsPlace, class_of_value, IsWanted, wanted_bool}
use Rattle.ss_expand_formed.proofs.Conditions.{condition_sound}
use Rattle.ss_expand_formed.proofs.Answered.{answered}
use Rattle.ss_expand_formed.proofs.Fits.{FitCode, FitArguments, FitValue, FitTest, FitClaim, FitClaims}
use Rattle.ss_expand_formed.proofs.SourceCode.{any_of, value_of, base_arguments_of}

-- ---- the scopes of the phases at a place

module _ (p : ProgramTree) (x : Context) (static : Bool) where
  -- where names are looked up
  abbrev pub named_at : At → Scope
  named_at a = refusing static false (scope_at p a)

  -- where types are
  abbrev pub typed_at : At → Scope
  typed_at a = refusing static static (scope_at p a)

  abbrev pub code_at : At → ExprContext
  code_at a = expr_context static false false (scope_at p a)

module _ (p : ProgramTree) (faultless : program_faults p ≡ []) (x : Context) (is_known : IsKnown p x) (static constructs : Bool) (first : ℕ) where
  abbrev C : List core.ClassTree
  C = (core_of p).classes

  abbrev P : TypedTree
  P = resolved p

  -- a place of the body outside quantifiers, after its parameters
  pub record Stands (a : At) : Type 0 where
    pub place : IsPlace p x static false false a
    pub unbound : a.bound ≡ 0
    pub behind : first ≤ a.next

  abbrev pub Names : At → text.ExprTree → Type 0
  Names a y = expr_faults (named_at p x static a) y ≡ []

  abbrev pub Types : At → Want → text.ExprTree → Type 0
  Types a w y = faults_as (code_at p x static a) w y ≡ []

  abbrev pub Words : At → text.ExprTree → Type 0
  Words a y = misplaced NoWord (expr (env_at p a) y) ≡ []

  abbrev Code : At → text.ExprTree → Type 0
  Code a y = FitCode P C x constructs first (expr (env_at p a) y)

  pub code_fits : (a : At) → Stands a → (y : text.ExprTree) → Names a y → faults (code_at p x static a) AsValue y ≡ [] → Words a y → Code a y
  code_fits a here y names types words =
      let c = any_of p faultless x is_known static a here.place y names types words in
      (subst (λ k. Fit P C x k (expr (env_at p a) y)) here.unbound c.sound.fit, words, c.lifts)

  -- ---- what is wanted

  -- an expression that is what is wanted where it stands
  pub record IsGiven (a : At) (w : Want) (y : text.ExprTree) : Type 0 where
    pub fits : Code a y
    pub wanted : IsWanted p x static false false false a w y

  pub given : (a : At) → Stands a → (w : Want) (y : text.ExprTree) → Names a y → Types a w y → Words a y → IsGiven a w y
  given a here w y names types words =
      let v = value_of p faultless x is_known static a here.place w here.unbound y names types words in
      record { fits = (v.code.fit, v.code.words, v.code.lifts); wanted = v.wanted }

  -- a value of a type that is written
  pub value_fits : (a : At) → Stands a → (t : Option Ty) (u : Ty) → t ≡ Some u → is_type C u ≡ true → (y : text.ExprTree) → Names a y → Types a (OfType t) y → Words a y → FitValue P C x constructs first u (expr (env_at p a) y)
  value_fits a here t u same type y names types words =
      let g = given a here (OfType t) y names types words in
      let w = g.wanted in
      let stands : may_stand_for p.classes w.type u ≡ true = subst (λ o. suits p.classes (OfType o) w.type ≡ true) same w.suits in
      let fits = stands_fits p faultless w.type u (λ c n e. class_of_value p x is_known static false false a here.place y c n (w.is ∙ ap Some e)) type stands in
      (g.fits, ap (λ o. has_fitting C o u) w.is ∙ fits)

  pub test_fits : (a : At) → Stands a → (y : text.ExprTree) → Names a y → Types a ABool y → Words a y → FitTest P C x constructs first (expr (env_at p a) y)
  test_fits a here y names types words =
      let g = given a here ABool y names types words in
      (g.fits, wanted_bool p x static false false false a y g.wanted)

  -- ---- conditions in code

  abbrev pub Claimed : At → text.ExprTree → Type 0
  Claimed a y = faults_as (expr_context static true false (scope_at p a)) ABool y ≡ []

  pub claim_fits : (w : Allowed) → allows_result w ≡ false → (a : At) → Stands a → (y : text.ExprTree) → Names a y → Claimed a y → misplaced w (expr (env_at p a) y) ≡ [] → FitClaim P C x constructs first w (expr (env_at p a) y)
  claim_fits w refused a here y names types words =
      let within = (none_left (faults (expr_context static true false (scope_at p a)) AsValue y) _ types).0 in
      let c = condition_sound p faultless x is_known static false false a here.place y (answered p x static false w refused a y names within words) names types in
      (subst (λ k. Fit P C x k (expr (env_at p a) y)) here.unbound c.fit, c.type, c.calls, words)

  pub claims_fit : (o : Outcome) (a : At) → Stands a → (ys : List text.ExprTree) → faults_of_all (named_at p x static a) ys ≡ [] → conditions (record { is_static = static; outcome = o }) (typed_at p x static a) ys ≡ [] → misplaced_in_all OfEntry (map (expr (env_at p a)) ys) ≡ [] →
      FitClaims P C x constructs first OfEntry (map (expr (env_at p a)) ys)
  claims_fit o a here [] names types words = tt
  claims_fit o a here (y ∷ ys) names types words =
      let ns = none_left (expr_faults (named_at p x static a) y) _ names in
      let ts = none_left (faults_as (expr_context static true false (scope_at p a)) ABool y) _ types in
      let hs = none_left (misplaced OfEntry (expr (env_at p a) y)) _ words in
      (claim_fits OfEntry refl a here y ns.0 ts.0 hs.0, claims_fit o a here ys ns.1 ts.1 hs.1)

module _ (p : ProgramTree) (faultless : program_faults p ≡ []) (x : Context) (is_known : IsKnown p x) (constructs : Bool) (first : ℕ) (k : ℕ) (class : x.class ≡ class_number k) where
  -- the arguments of `base(..)` in a constructor of the class
  pub base_given : (a : At) → Stands p faultless x is_known false constructs first a → (es : Arguments) → arguments_faults (named_at p x false a) None es ≡ [] → is_wrong_call (count es) (Taking (base_wants p.classes k)) ≡ false →
      argument_faults (code_at p x false a) (argument_wants (count es) (Taking (base_wants p.classes k))) es ≡ [] → misplaced_each NoWord (args (env_at p a) es) ≡ [] →
      FitArguments (resolved p) (core_of p).classes x constructs first (args (env_at p a) es) (param_types_in (constructor_of (resolved p) (above_of (resolved p) x.class)))
  base_given a here es names wrong types words =
      let in_class = here.place.in_class in
      let same : k ≡ a.class = omega arith in
      base_arguments_of p faultless x is_known false a here.place here.unbound es (subst (λ j. is_wrong_call (count es) (Taking (base_wants p.classes j)) ≡ false) same wrong)
      (subst (λ j. argument_faults (code_at p x false a) (argument_wants (count es) (Taking (base_wants p.classes j))) es ≡ []) same types) names words
