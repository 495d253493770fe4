-- Where a term stands among parts.
use Rattle.std.specs.Prelude.{◌≡◌, ℕ, ℤ, pos, ◌<◌, List, [], ◌∷◌, ◌++◌, length, take, set, get_or, Bool, true, false, Option, Some, None}
use Rattle.ss_logic.specs.Equal.{same_term}
use Rattle.ss_logic.specs.Sums.{plus_times}
use Rattle.ss_terms.specs.declared.forms.TermId.{TermId}
use Rattle.ss_terms.specs.Forms.{Forms, term_at}
use Rattle.ss_linear_sums.specs.declared.forms.Part.{Part}

-- no part is of the term
abbrev pub AreOthers : Forms → TermId → List Part → Type 0
AreOthers b t [] = Unit {0}
AreOthers b t (p ∷ ps) = (same_term (term_at b p.term) (term_at b t) ≡ false) × AreOthers b t ps

abbrev pub no_part : Part
no_part = record { term = record { 0 = 0 }; coefficient = pos 0 }

-- the first part of the term, where there is one
abbrev pub IsPlaceOf : Forms → TermId → List Part → Option ℕ → Type 0
IsPlaceOf b t ps None = AreOthers b t ps
IsPlaceOf b t ps (Some i) = (i < length ps) × AreOthers b t (take i ps) × (same_term (term_at b (get_or ps i no_part).term) (term_at b t) ≡ true)

-- the part with another coefficient
abbrev pub with_coefficient : ℤ → Part → Part
with_coefficient k p = record { term = p.term; coefficient = k }

-- the part at the place has n times c more
abbrev pub IsRaised : Bool → ℕ → ℤ → ℤ → List Part → List Part → Type 0
IsRaised true i n c ps qs = (k : ℤ) × (plus_times (get_or ps i no_part).coefficient n c ≡ Some k) × (qs ≡ set ps i (with_coefficient k (get_or ps i no_part)))
IsRaised false i n c ps qs = (plus_times (get_or ps i no_part).coefficient n c ≡ None) × (qs ≡ ps)

-- n times a part is new at the end
abbrev pub IsPushed : Bool → ℤ → Part → List Part → List Part → Type 0
IsPushed true n q ps qs = (k : ℤ) × (plus_times (pos 0) n q.coefficient ≡ Some k) × (qs ≡ ps ++ with_coefficient k q ∷ [])
IsPushed false n q ps qs = (plus_times (pos 0) n q.coefficient ≡ None) × (qs ≡ ps)
