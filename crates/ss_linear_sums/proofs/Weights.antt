-- Known facts that are added.
use Rattle.std.proofs.Common.{◌≡◌, ℕ, ◌+◌, ◌<◌, ℤ, List, length, drop, get_or, Option, Some, None, option_and_then, refl, ◌∙◌, ap}
use Rattle.std.specs.Prelude.{slice_get}
use Rattle.std.proofs.lemmas.List.{drop_more}
use Rattle.std.proofs.lemmas.Option.{slice_get-map}
use Rattle.ss_core.specs.Tree.{ClassTree}
use Rattle.ss_logic.specs.Formulas.{Formula}
use Rattle.ss_logic.specs.Sums as sums
use Rattle.ss_logic.specs.Sums.{sum_fact_of, is_weight, add_times, add_weighted, weighted}
use Rattle.ss_terms.specs.declared.forms.FormulaId.{FormulaId}
use Rattle.ss_terms.specs.Forms.{Forms, formula_at, formulas_at}
use Rattle.ss_linear_sums.specs.Weighted.{with_known}

module _ (cs : List ClassTree) (b : Forms) (known : List FormulaId) (a : sums.LinearSum) (i : ℕ) (w : ℤ) where
  pub no_fact : (f : FormulaId) → slice_get known i ≡ Some f → sum_fact_of cs (formula_at b f) ≡ None → with_known cs (formulas_at b known) a i w ≡ None
  no_fact f e d = rw (slice_get-map (formula_at b) known i, e, d) refl

  pub known_fact : (f : FormulaId) (fact : sums.SumFact) → slice_get known i ≡ Some f → sum_fact_of cs (formula_at b f) ≡ Some fact → with_known cs (formulas_at b known) a i w ≡ add_weighted w a fact
  known_fact f fact e d = rw (slice_get-map (formula_at b) known i, e, d) refl

regrouped : {A B C : Type 0} (f : A → Option B) (g : B → Option C) (o : Option A) → option_and_then (λ x. option_and_then g (f x)) o ≡ option_and_then g (option_and_then f o)
regrouped f g None = refl
regrouped f g (Some x) = refl

module _ (cs : List ClassTree) (known : List Formula) (ps : List (ℕ × ℤ)) (i : ℕ) (d : ℕ × ℤ) (l : i < length ps) (a : sums.LinearSum) where
  next_fact : weighted cs known a (drop i ps) ≡ option_and_then (λ c. weighted cs known c (drop (i + 1) ps)) (with_known cs known a (get_or ps i d).0 (get_or ps i d).1)
  next_fact =
      ap (weighted cs known a) (drop_more ps i d l)
      ∙ regrouped (λ fact. add_weighted (get_or ps i d).1 a fact) (λ c. weighted cs known c (drop (i + 1) ps)) (option_and_then (sum_fact_of cs) (slice_get known (get_or ps i d).0))

  pub facts_stop : with_known cs known a (get_or ps i d).0 (get_or ps i d).1 ≡ None → weighted cs known a (drop i ps) ≡ None
  facts_stop e = next_fact ∙ ap (option_and_then (λ c. weighted cs known c (drop (i + 1) ps))) e

  pub facts_go_on : (c : sums.LinearSum) → with_known cs known a (get_or ps i d).0 (get_or ps i d).1 ≡ Some c → weighted cs known a (drop i ps) ≡ weighted cs known c (drop (i + 1) ps)
  facts_go_on c e = next_fact ∙ ap (option_and_then (λ c. weighted cs known c (drop (i + 1) ps))) e
