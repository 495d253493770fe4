-- What is told in well formed formulas is well formed.
use Rattle.std.proofs.Common.{◌≡◌, List, [], ◌∷◌, true, subst, ⊎_elim}
use Rattle.std.specs.List.{Contains}
use Rattle.std.proofs.lemmas.Bool.{and_parts}
use Rattle.std.proofs.lemmas.List.Elements.{Contains-append_cases}
use Rattle.ss_core.specs.Tree.{ClassTree}
use Rattle.ss_logic.specs.Formulas.{Formula, Formulas, Literal, And, Or, Forall, Exists, no_formulas, formula_then, is_well_formed, are_well_formed, neg}
use Rattle.ss_logic_means.specs.Sorts.{AreWellFormed}
use Rattle.ss_logic_means.proofs.Sorting.{neg_formed}
use Rattle.ss_logic_countermodels.specs.Refuting.{told_in, all_told_in, told}
use Rattle.ss_logic.proofs.Lists.{contains_split, contains_none}
use Rattle.ss_logic.proofs.Occurring.{from_collected}
use Rattle.ss_logic_means.proofs.Formed.{each_formed}

single : (f x : Formula) → Contains (f ∷ []) x → f ≡ x
single f x c = ⊎_elim (λ e. e) (λ n. absurd (contains_none x n)) (contains_split f [] x c)

module _ (cs : List ClassTree) where
  mutual
    told_in_formed : (f x : Formula) → Contains (told_in f) x → is_well_formed cs [] f ≡ true → is_well_formed cs [] x ≡ true
    told_in_formed (Literal sign p ts) x c h = subst (λ y. is_well_formed cs [] y ≡ true) (single (Literal true p ts) x c) h
    told_in_formed (And fs) x c h = all_told_in_formed fs x c h
    told_in_formed (Or fs) x c h = all_told_in_formed fs x c h
    told_in_formed (Forall ss f) x c h = subst (λ y. is_well_formed cs [] y ≡ true) (single (Forall ss f) x c) h
    told_in_formed (Exists ss f) x c h = subst (λ y. is_well_formed cs [] y ≡ true) (single (Forall ss (neg f)) x c) (neg_formed cs [] (Exists ss f) h)

    all_told_in_formed : (fs : Formulas) (x : Formula) → Contains (all_told_in fs) x → are_well_formed cs [] fs ≡ true → is_well_formed cs [] x ≡ true
    all_told_in_formed no_formulas x c h = absurd (contains_none x c)
    all_told_in_formed (formula_then f fs) x c h =
        let p = and_parts (is_well_formed cs [] f) (are_well_formed cs [] fs) h in
        ⊎_elim (λ a. told_in_formed f x a p.0) (λ b. all_told_in_formed fs x b p.1) (Contains-append_cases (told_in f) (all_told_in fs) x c)

  pub told_formed : (fs : List Formula) → AreWellFormed cs [] fs → (x : Formula) → Contains (told fs) x → is_well_formed cs [] x ≡ true
  told_formed fs h x c = let o = from_collected told_in fs x c in told_in_formed o.0 x o.2 (each_formed cs [] fs h o.0 o.1)
