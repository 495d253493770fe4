-- The answers of verification.
use Rattle.std.specs.Prelude.{◌≡◌, ◌≢◌, ℕ, ◌<◌, ◌⊎◌, List, [], ◌∷◌, map, length, Option, Some, None, slice_get}
use Rattle.ss_core.specs.Tree.{ClassTree}
use Rattle.ss_logic_means.specs.Steps as tree
use Rattle.ss_vcgen_heaps.specs.Positions.{Obligation}
use Rattle.ss_terms.specs.Forms.{Forms}
use Rattle.ss_deriv.specs.declared.line.Line.{Line}
use Rattle.ss_deriv.specs.Lines.{lines_of}
use Rattle.ss_search_answers.specs.declared.answers.Options.{Options}
use Rattle.ss_search_answers.specs.declared.answers.Countered.{Countered}
use Rattle.ss_search_answers.specs.declared.answers.Undecided.{Undecided}
use Rattle.ss_search_answers.specs.Found.{HasNoModelWithin}
use Rattle.ss_search_answers.specs.Listed.{countered_numbers, undecided_numbers, AreRisingFrom}
use Rattle.ss_sound.specs.Decided.{IsDerivedBy, IsCountered, IsOverBudget}
use Rattle.ss_sound.specs.declared.decision.Decision.{Decision}
use Rattle.ss_sound.specs.declared.decision.Decision.TheVariants as decision
use Rattle.ss_search_answers.specs.declared.answers.Verdict.{Verdict}
use Rattle.ss_search_answers.specs.declared.answers.Verdict.TheVariants as verdict

-- the derivations that lines over numbers of the bank stand for
abbrev pub derivations_of : Forms → List (List Line) → List (List tree.Line)
derivations_of b ds = map (lines_of b) ds

-- the goal has a derivation from the premises
abbrev pub IsProved : List ClassTree → Obligation → Type 0
IsProved cs o = (lines : List tree.Line) × IsDerivedBy cs o lines

-- ---- what one decision adds to the lists

abbrev pub derivations_in : Decision → List (List Line)
derivations_in (decision.Derived d) = d ∷ []
derivations_in _ = []

abbrev pub countered_in : ℕ → Decision → List Countered
countered_in n (decision.Refuted m) = record { obligation = n; model = m } ∷ []
countered_in n _ = []

abbrev pub undecided_in : ℕ → Decision → List Undecided
undecided_in n (decision.Over c) = record { obligation = n; cause = c } ∷ []
undecided_in n _ = []

-- ---- obligations by their numbers

-- where there is an obligation at the number, this holds of it; and there is one
abbrev pub IfThere : Option Obligation → (Obligation → Type 0) → Type 0
IfThere None P = ⊥
IfThere (Some o) P = P o

-- each model refutes the obligation of its number
abbrev pub AreCountered : List ClassTree → Options → List Obligation → List Countered → Type 0
AreCountered cs p os [] = Unit {0}
AreCountered cs p os (l ∷ ls) = IfThere (slice_get os l.obligation) (λ o. IsCountered cs p o l.model) × AreCountered cs p os ls

-- for the obligation of each number its budget isn't enough
abbrev pub AreUndecided : List ClassTree → Options → List Obligation → List Undecided → Type 0
AreUndecided cs p os [] = Unit {0}
AreUndecided cs p os (l ∷ ls) = IfThere (slice_get os l.obligation) (λ o. IsOverBudget cs p o l.cause) × AreUndecided cs p os ls

-- the number is none of these
abbrev pub IsNoneOf : List ℕ → ℕ → Type 0
IsNoneOf [] k = Unit {0}
IsNoneOf (n ∷ ns) k = (n ≢ k) × IsNoneOf ns k

-- What is listed has its cause, in rising order, and none is in both lists. Each other one of the first `count` obligations has a derivation.
pub record AreDecided (cs : List ClassTree) (p : Options) (os : List Obligation) (count : ℕ) (countered : List Countered) (undecided : List Undecided) : Type 0 where
  pub are_countered : AreCountered cs p os countered
  pub are_undecided : AreUndecided cs p os undecided
  pub countered_rise : AreRisingFrom 0 (countered_numbers countered)
  pub undecided_rise : AreRisingFrom 0 (undecided_numbers undecided)
  pub apart : (k : ℕ) → IsNoneOf (countered_numbers countered) k ⊎ IsNoneOf (undecided_numbers undecided) k
  pub others : (k : ℕ) (o : Obligation) → k < count → slice_get os k ≡ Some o → IsNoneOf (countered_numbers countered) k → IsNoneOf (undecided_numbers undecided) k → IsProved cs o

-- a model refutes one obligation at least; each that is listed has its cause, and each other one has a derivation
pub record IsUnproved (cs : List ClassTree) (p : Options) (os : List Obligation) (countered : List Countered) (undecided : List Undecided) : Type 0 where
  pub some : countered ≢ []
  pub decided : AreDecided cs p os (length os) countered undecided

-- No model is at hand, and one obligation at least isn't decided. For each that is listed its budget isn't enough, and each other one has a
-- derivation.
pub record IsUndecided (cs : List ClassTree) (p : Options) (os : List Obligation) (undecided : List Undecided) : Type 0 where
  pub some : undecided ≢ []
  pub decided : AreDecided cs p os (length os) [] undecided

-- ---- completeness

-- Of each the ground form has no more formulas than the options allow, no model refutes it, and the splits are enough for it.
abbrev pub AllHaveNoModelWithin : List ClassTree → Options → List Obligation → Type 0
AllHaveNoModelWithin cs p [] = Unit {0}
AllHaveNoModelWithin cs p (o ∷ os) = HasNoModelWithin cs p o.premises o.goal × AllHaveNoModelWithin cs p os

-- ---- the answers

abbrev pub IsVerifiedOrMemory : Verdict → Type 0
IsVerifiedOrMemory (verdict.Verified ds) = Unit {0}
IsVerifiedOrMemory verdict.Memory = Unit {0}
IsVerifiedOrMemory _ = ⊥

abbrev pub IfVerified : Verdict → (List (List Line) → Type 0) → Type 0
IfVerified (verdict.Verified ds) P = P ds.items
IfVerified _ P = Unit {0}

abbrev pub IfUnproved : Verdict → (List Countered → List Undecided → Type 0) → Type 0
IfUnproved (verdict.Unproved countered undecided) P = P countered.items undecided.items
IfUnproved _ P = Unit {0}

abbrev pub IfUndecided : Verdict → (List Undecided → Type 0) → Type 0
IfUndecided (verdict.Undecided undecided) P = P undecided.items
IfUndecided _ P = Unit {0}
