-- The argument that names a class, by its number.
use Rattle.std.proofs.Common.{ℕ, zero, suc, ◌≡◌, ◌<◌, ◌-◌, Option, Some, None, cond, refl, sym, ap, arith}
use Rattle.std.proofs.lemmas.Bool.{ne_eqb}
use Rattle.std.specs.Prelude.{◌==◌}
use Rattle.ss_ast.specs.Expressions.{ExprTree}
use Rattle.ss_tables.specs.Scopes.{Scope}
use Rattle.ss_resolver_names_rules.specs.Faults.{Faults}
use Rattle.ss_resolver_names_rules.specs.Expressions.{class_named_by, argument_faults, after_argument}

pub asked_at : (s : Scope) (n : ℕ) (e : ExprTree) (fs : Faults) → argument_faults s (Some n) e fs ≡ cond (n == 0) (class_named_by s e fs) fs
asked_at s zero e fs = refl
asked_at s (suc n) e fs = ap (λ b. cond b (class_named_by s e fs) fs) (sym (ne_eqb (suc n) 0 (λ h. omega arith)))

pub behind_first : (n : ℕ) → n ≡ 0 → after_argument (Some n) ≡ None
behind_first zero e = refl
behind_first (suc n) e = absurd (omega arith)

pub behind_other : (n : ℕ) → 0 < n → after_argument (Some n) ≡ Some (n - 1)
behind_other zero h = absurd (omega arith)
behind_other (suc n) h = let e : n ≡ suc n - 1 = omega arith in ap (λ m. Some m) e
