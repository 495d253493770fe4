-- Parts of lists of numbers of a bank, and the obligations of a list within a bank.
use Rattle.std.proofs.Common.{◌≡◌, ℕ, zero, suc, List, [], ◌∷◌, take, drop, Some, subst}
use Rattle.std.specs.List.{slice_get}
use Rattle.ss_terms.specs.declared.forms.FormulaId.{FormulaId}
use Rattle.ss_terms.specs.Forms.{Forms, AreBelow, IsGrown}
use Rattle.ss_terms.proofs.Grown.{HasFormula-grown}
use Rattle.ss_vcgen_builder.specs.declared.builder.Listed.{Listed}
use Rattle.ss_vcgen_builder.specs.Builder.{IsPlaced, AreWithin}

pub AreBelow-take : (n k : ℕ) (fs : List FormulaId) → AreBelow n fs → AreBelow n (take k fs)
AreBelow-take n zero fs h = tt
AreBelow-take n (suc k) [] h = tt
AreBelow-take n (suc k) (f ∷ fs) h = (h.0, AreBelow-take n k fs h.1)

pub AreBelow-drop : (n k : ℕ) (fs : List FormulaId) → AreBelow n fs → AreBelow n (drop k fs)
AreBelow-drop n zero fs h = h
AreBelow-drop n (suc k) [] h = tt
AreBelow-drop n (suc k) (f ∷ fs) h = AreBelow-drop n k fs h.1

-- the k-th obligation of a list within a bank
pub within_at : (b : Forms) (n : ℕ) (os : List Listed) (k : ℕ) (o : Listed) → AreWithin b n os → slice_get os k ≡ Some o → IsPlaced b n o
within_at b n [] k o h e = absurd (cc)
within_at b n (x ∷ xs) zero o h e = let same : x ≡ o = cc in subst (λ y. IsPlaced b n y) same h.0
within_at b n (x ∷ xs) (suc k) o h e = within_at b n xs k o h.1 e

-- obligations within a bank are within it as it grows
pub within_later : (a b : Forms) (n : ℕ) (os : List Listed) → IsGrown a b → AreWithin a n os → AreWithin b n os
within_later a b n [] grown h = tt
within_later a b n (o ∷ os) grown h = (record { goal = HasFormula-grown a b grown o.goal h.0.goal; first = h.0.first; end = h.0.end }, within_later a b n os grown h.1)
