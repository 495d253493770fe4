-- Numbers that a bank has stay so as it grows, and lists of them as they are changed.
use Rattle.std.proofs.Common.{ℕ, zero, suc, ◌+◌, ◌<◌, List, [], ◌∷◌, ◌++◌, length, get_or, Option, arith}
use Rattle.std.specs.Prelude.{slice_get, slice_set, IfSome}
use Rattle.ss_terms.specs.declared.forms.TermId.{TermId}
use Rattle.ss_terms.specs.declared.forms.FormulaId.{FormulaId}
use Rattle.ss_terms.specs.Forms.{Forms, HasFormula, HasFormulas, IsGrown}
use Rattle.ss_terms.proofs.Grown.{HasTermOf-grown, HasFormula-grown}
use Rattle.ss_vcgen_builder.specs.declared.builder.Listed.{Listed}
use Rattle.ss_vcgen_builder.specs.Builder.{HasLocals, IsPlaced, AreWithin}
use Rattle.ss_terms.specs.Numbered.{HasTermOf}

module _ (a b : Forms) (g : IsGrown a b) where
  pub HasLocals-grown : (ls : List (Option TermId)) → HasLocals a ls → HasLocals b ls
  HasLocals-grown [] h = tt
  HasLocals-grown (l ∷ ls) h = (HasTermOf-grown a b g l h.0, HasLocals-grown ls h.1)

  IsPlaced-grown : (n : ℕ) (o : Listed) → IsPlaced a n o → IsPlaced b n o
  IsPlaced-grown n o h = record { goal = HasFormula-grown a b g o.goal h.goal; first = h.first; end = h.end }

  pub AreWithin-grown : (n : ℕ) (os : List Listed) → AreWithin a n os → AreWithin b n os
  AreWithin-grown n [] h = tt
  AreWithin-grown n (o ∷ os) h = (IsPlaced-grown n o h.0, AreWithin-grown n os h.1)

module _ (b : Forms) where
  pub HasLocals-set : (ls : List (Option TermId)) (x : ℕ) (l : Option TermId) → HasLocals b ls → HasTermOf b l → HasLocals b (slice_set ls x l)
  HasLocals-set [] x l h w = tt
  HasLocals-set (m ∷ ls) zero l h w = (w, h.1)
  HasLocals-set (m ∷ ls) (suc x) l h w = (h.0, HasLocals-set ls x l h.1 w)

  pub HasLocals-push : (ls : List (Option TermId)) (l : Option TermId) → HasLocals b ls → HasTermOf b l → HasLocals b (ls ++ l ∷ [])
  HasLocals-push [] l h w = (w, tt)
  HasLocals-push (m ∷ ls) l h w = (h.0, HasLocals-push ls l h.1 w)

  pub HasLocals-get : (ls : List (Option TermId)) (i : ℕ) (d : Option TermId) → HasLocals b ls → i < length ls → HasTermOf b (get_or ls i d)
  HasLocals-get [] i d h at = absurd (omega arith)
  HasLocals-get (l ∷ ls) zero d h at = h.0
  HasLocals-get (l ∷ ls) (suc i) d h at = HasLocals-get ls i d h.1 (omega arith)

  pub HasLocals-found : (ls : List (Option TermId)) (x : ℕ) → HasLocals b ls → IfSome (slice_get ls x) (λ l. HasTermOf b l)
  HasLocals-found [] x h = tt
  HasLocals-found (l ∷ ls) zero h = h.0
  HasLocals-found (l ∷ ls) (suc x) h = HasLocals-found ls x h.1

  pub HasFormulas-get : (fs : List FormulaId) (i : ℕ) (d : FormulaId) → HasFormulas b fs → i < length fs → HasFormula b (get_or fs i d)
  HasFormulas-get [] i d h at = absurd (omega arith)
  HasFormulas-get (f ∷ fs) zero d h at = h.0
  HasFormulas-get (f ∷ fs) (suc i) d h at = HasFormulas-get fs i d h.1 (omega arith)

  pub AreWithin-push : (n : ℕ) (os : List Listed) (o : Listed) → AreWithin b n os → IsPlaced b n o → AreWithin b n (os ++ o ∷ [])
  AreWithin-push n [] o h w = (w, tt)
  AreWithin-push n (p ∷ os) o h w = (h.0, AreWithin-push n os o h.1 w)

  -- a longer trail
  pub AreWithin-longer : (n : ℕ) (os : List Listed) → AreWithin b n os → AreWithin b (n + 1) os
  AreWithin-longer n [] h = tt
  AreWithin-longer n (o ∷ os) h = (record { goal = h.0.goal; first = h.0.first; end = let l = h.0.end in omega arith }, AreWithin-longer n os h.1)

-- what stands where a list has no formula
abbrev pub no_formula : FormulaId
no_formula = record { 0 = 0 }
