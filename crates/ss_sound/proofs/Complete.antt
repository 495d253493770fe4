-- Obligations whose ground forms have no model within the options: none of them is refuted, and for none a budget isn't enough.
use Rattle.std.proofs.Common.{◌≡◌, ◌≢◌, ℕ, zero, suc, List, [], ◌∷◌, refl, subst}
use Rattle.std.specs.List.{slice_get}
use Rattle.ss_core.specs.Tree.{ClassTree}
use Rattle.ss_logic_countermodels.specs.declared.Countermodel.{Countermodel}
use Rattle.ss_vcgen_heaps.specs.Positions.{Obligation}
use Rattle.ss_search_answers.specs.declared.answers.Options.{Options}
use Rattle.ss_search_answers.specs.declared.answers.Budget.{Budget}
use Rattle.ss_search_answers.specs.declared.answers.Budget.TheVariants as budget
use Rattle.ss_search_answers.specs.declared.answers.Found.TheVariants as found
use Rattle.ss_search_answers.specs.declared.answers.Countered.{Countered}
use Rattle.ss_search_answers.specs.declared.answers.Undecided.{Undecided}
use Rattle.ss_search_answers.specs.Found.{HasNoModelWithin}
use Rattle.ss_search.proofs.Carried.{proved_or_memory}
use Rattle.ss_sound.specs.Decided.{IsCountered, IsOverBudget}
use Rattle.ss_sound.specs.Verdicts.{IfThere, AreCountered, AreUndecided, AreDecided, IsUnproved, IsUndecided, AllHaveNoModelWithin, IsVerifiedOrMemory, IfUnproved, IfUndecided}
use Rattle.ss_search_answers.specs.declared.answers.Verdict.{Verdict}
use Rattle.ss_search_answers.specs.declared.answers.Verdict.TheVariants as verdict

module _ (cs : List ClassTree) (p : Options) where
  not_countered : (o : Obligation) (m : Countermodel) → HasNoModelWithin cs p o.premises o.goal → IsCountered cs p o m → ⊥
  not_countered o m h c = proved_or_memory (found.Countered m) cs p o.premises o.goal c tt tt h

  not_over : (o : Obligation) (c : Budget) → HasNoModelWithin cs p o.premises o.goal → IsOverBudget cs p o c → ⊥
  not_over o (budget.Splits n) h c = proved_or_memory (found.Spent n) cs p o.premises o.goal tt c tt h
  not_over o (budget.Instances n) h c = proved_or_memory (found.TooMany n) cs p o.premises o.goal tt tt c h

  -- what isn't so of such an obligation isn't so of the one at a number of a list of them
  none_at : (os : List Obligation) (k : ℕ) (P : Obligation → Type 0) → AllHaveNoModelWithin cs p os → ((o : Obligation) → HasNoModelWithin cs p o.premises o.goal → P o → ⊥) → IfThere (slice_get os k) P → ⊥
  none_at [] zero P all never h = h
  none_at [] (suc k) P all never h = h
  none_at (o ∷ os) zero P all never h = never o all.0 h
  none_at (o ∷ os) (suc k) P all never h = none_at os k P all.1 never h

  none_countered : (os : List Obligation) (ls : List Countered) → AllHaveNoModelWithin cs p os → AreCountered cs p os ls → ls ≢ [] → ⊥
  none_countered os [] all h some = some refl
  none_countered os (l ∷ ls) all h some = none_at os l.obligation (λ o. IsCountered cs p o l.model) all (λ o. not_countered o l.model) h.0

  none_undecided : (os : List Obligation) (ls : List Undecided) → AllHaveNoModelWithin cs p os → AreUndecided cs p os ls → ls ≢ [] → ⊥
  none_undecided os [] all h some = some refl
  none_undecided os (l ∷ ls) all h some = none_at os l.obligation (λ o. IsOverBudget cs p o l.cause) all (λ o. not_over o l.cause) h.0

  pub not_unproved : (os : List Obligation) (ms : List Countered) (us : List Undecided) → AllHaveNoModelWithin cs p os → IsUnproved cs p os ms us → ⊥
  not_unproved os ms us all h = none_countered os ms all h.decided.are_countered h.some

  pub not_undecided : (os : List Obligation) (us : List Undecided) → AllHaveNoModelWithin cs p os → IsUndecided cs p os us → ⊥
  not_undecided os us all h = none_undecided os us all h.decided.are_undecided h.some

  -- the verdict of lists with their causes
  pub verdict_complete : (v : Verdict) (os : List Obligation) (n : ℕ) (ms : List Countered) (us : List Undecided) → AreDecided cs p os n ms us → AllHaveNoModelWithin cs p os
      → IfUnproved v (λ xs ys. (xs ≡ ms) × (ys ≡ us) × (xs ≢ [])) → IfUndecided v (λ ys. (ys ≡ us) × (ms ≡ []) × (ys ≢ [])) → IsVerifiedOrMemory v
  verdict_complete (verdict.Verified ds) os n ms us h all unproved undecided = tt
  verdict_complete (verdict.Unproved xs ys) os n ms us h all unproved undecided = absurd (none_countered os ms all h.are_countered (subst (λ (zs : List Countered). zs ≢ []) unproved.0 unproved.2))
  verdict_complete (verdict.Undecided ys) os n ms us h all unproved undecided = absurd (none_undecided os us all h.are_undecided (subst (λ (zs : List Undecided). zs ≢ []) undecided.0 undecided.2))
  verdict_complete verdict.Memory os n ms us h all unproved undecided = tt
