-- Ground forms of obligations, and how many of their formulas are reached.
use Rattle.std.specs.Prelude.{ℕ, List, [], ◌∷◌, take}
use Rattle.ss_core.specs.Tree.{ClassTree}
use Rattle.ss_logic.specs.Formulas.{Formula}
use Rattle.ss_logic_means.specs.Scenes.{AreInvariants}
use Rattle.ss_logic_means.specs.Sorts.{AreWellFormed}
use Rattle.ss_terms.specs.Forms.{Forms, formulas_at, HasFormulas}
use Rattle.ss_rules.specs.declared.form.Grounded.{Grounded}
use Rattle.ss_rules.specs.Grounds.{IsGrounded}
use Rattle.ss_logic.specs.Includes.{Includes}
use Rattle.ss_search_reaching.specs.declared.reaching.Reaching.{Reaching}
use Rattle.ss_search_reaching.specs.Reaching.{IsReaching}
use Rattle.ss_search_procedure.specs.declared.setting.Settling.{Settling}
use Rattle.ss_search_procedure.specs.Decisions.{bank_of, reached_in}

-- The formulas come from this obligation. It is well formed, and so are the invariants of the classes.
pub record IsGroundOf (cs : List ClassTree) (premises : List Formula) (goal : Formula) (b : Forms) (g : Grounded) : Type 0 where
  pub has_formulas : HasFormulas b g.formulas.items
  pub grounded : IsGrounded cs premises goal b (formulas_at b g.formulas.items) g.origins.items g.choices.items
  pub formed : AreWellFormed cs [] (goal ∷ premises)
  pub invariants : AreInvariants cs

-- ---- at the start

-- the first so many of the formulas that are settled
abbrev pub first_settled : Settling → ℕ → List Formula
first_settled s n = formulas_at (bank_of s) (take n s.formulas.now)

-- these are reached, and nothing else
pub record AreFirst (s : Settling) (n : ℕ) (r : Reaching) : Type 0 where
  pub reaching : IsReaching s.given r
  pub known : Includes (reached_in s r) (first_settled s n)
  pub only : Includes (first_settled s n) (reached_in s r)
