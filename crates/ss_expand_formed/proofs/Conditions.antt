-- A condition of a source without faults is resolved to a truth value whose parts fit, and has no call.
use Rattle.std.proofs.Common.{◌≡◌, ℕ, List, [], Bool, true, false, refl, ◌∙◌, ap}
use Rattle.std.proofs.lemmas.Bool.{true≢false}
use Rattle.ss_ast.specs.Expressions as text
use Rattle.ss_ast.specs.Programs.{ClassTree, ProgramTree}
use Rattle.ss_typed.specs.Types.{type_of}
use Rattle.ss_resolver_names_rules.specs.Expressions.{expr_faults}
use Rattle.ss_resolver_names_rules.specs.Programs.{program_faults}
use Rattle.ss_resolver_types_heads.specs.Wants.{Want, ABool}
use Rattle.ss_resolver_types_heads.specs.Expressions.{faults_as}
use Rattle.ss_resolver_rules.specs.Names.{Env}
use Rattle.ss_resolver_rules.specs.Expressions.{expr}
use Rattle.ss_resolver_rules.specs.Programs.{resolved}
use Rattle.ss_expand_rules.specs.Calls.{has_call}
use Rattle.ss_store_rules.specs.Types.{is_bool}
use Rattle.ss_expand_formed.specs.Laws.{core_of}
use Rattle.ss_expand_formed.proofs.Fit.{Context, Fit}
use Rattle.ss_expand_formed.proofs.ExpressionsScopes.{refusing, expr_context}
use Rattle.ss_expand_formed.proofs.ExpressionsPlaces.{has_answer, At, scope_at, env_at, IsKnown, IsPlace, IsWanted, wanted_bool}
use Rattle.ss_expand_formed.proofs.Questions.{want}
use Rattle.ss_expand_formed.proofs.ExpressionsSources.{sound}

-- the environment of a place
abbrev pub at_of : Env → At
at_of e = record { class = e.scope.class; outcome = e.scope.outcome; names = e.scope.inner; more_names = e.scope.outer; numbers = e.inner; more_numbers = e.outer; next = e.next; bound = e.bound }

abbrev placed : List ClassTree → Bool → Bool → Env → Env
placed cs members this e = record e { scope = record (e.scope) { classes = cs; refuses_members = members; refuses_this = this } }

pub env_is : (p : ProgramTree) (e : Env) → e.scope.classes ≡ p.classes → e.scope.refuses_members ≡ false → e.scope.refuses_this ≡ false → e ≡ env_at p (at_of e)
env_is p e h g i = ap (λ cs. placed cs e.scope.refuses_members e.scope.refuses_this e) h ∙ ap (λ b. placed p.classes b e.scope.refuses_this e) g ∙ ap (λ b. placed p.classes false b e) i

-- what a condition is resolved to
pub record IsCondition (p : ProgramTree) (x : Context) (k : ℕ) (e : Env) (y : text.ExprTree) : Type 0 where
  pub fit : Fit (resolved p) (core_of p).classes x k (expr e y)
  pub type : is_bool (type_of (expr e y)) ≡ true
  pub calls : has_call (expr e y) ≡ false

module _ (p : ProgramTree) (faultless : program_faults p ≡ []) (x : Context) (is_known : IsKnown p x) (static lacks answer : Bool) where
  -- an expression in a condition that is what is wanted there
  pub wanted_sound : (w : Want) (a : At) → IsPlace p x static lacks answer a → (y : text.ExprTree) → has_answer answer y ≡ true → expr_faults (refusing static false (scope_at p a)) y ≡ [] → faults_as (expr_context static true lacks (scope_at p a)) w y ≡ [] →
      IsWanted p x static lacks answer true a w y
  wanted_sound w a here y ans names h = want p x is_known static lacks answer true a here w y (sound p faultless x is_known static lacks answer true (λ e. absurd (true≢false e)) a here y ans names) h

  pub condition_sound : (a : At) → IsPlace p x static lacks answer a → (y : text.ExprTree) → has_answer answer y ≡ true → expr_faults (refusing static false (scope_at p a)) y ≡ [] → faults_as (expr_context static true lacks (scope_at p a)) ABool y ≡ [] → IsCondition p x a.bound (env_at p a) y
  condition_sound a here y ans names h =
      let w = wanted_sound ABool a here y ans names h in
      record { fit = w.sound.fit; type = wanted_bool p x static lacks answer true a y w; calls = w.sound.calls refl }
