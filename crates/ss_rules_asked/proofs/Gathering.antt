-- Lists that are gathered from terms and atoms.
use Rattle.std.proofs.Common.{◌≡◌, ℕ, zero, suc, ◌+◌, ◌<◌, List, [], ◌∷◌, ◌++◌, length, map, take, get_or, Bool, true, false, refl, sym, ◌∙◌, ap, subst, append_assoc, arith, Option, Some, None}
use Rattle.std.specs.Prelude.{IfSome, option_map, option_to_list, filter, filter_map}
use Rattle.std.proofs.lemmas.List.{append-nil, map_push, take_more}
use Rattle.std.proofs.lemmas.List.Elements.{filter_map-append, filter-append}
use Rattle.ss_logic.specs.Terms.{Term}
use Rattle.ss_logic.specs.Formulas.{Formula}
use Rattle.ss_logic.specs.Asked as spec
use Rattle.ss_terms.specs.declared.forms.TermId.{TermId}
use Rattle.ss_terms.specs.declared.forms.FormulaId.{FormulaId}
use Rattle.ss_terms.specs.Forms.{Forms, term_at, terms_at, formula_at, formulas_at, HasTerm, HasTerms, AreTermsBelow}
use Rattle.ss_terms.proofs.Longer.{HasTerms-push}
use Rattle.ss_rules_asked.specs.declared.forms.Reading.{Reading}
use Rattle.ss_rules_asked.specs.declared.forms.Counts.{Counts}
use Rattle.ss_rules_asked.specs.Readings.{reading_at, readings_at, counts_at, all_counts_at, HasReading, HasReadings, HasCount, HasCounts, AreReadings, AreCounts, AreTerms, IsReading, IsCount}

-- ---- one more item, of which there is something or nothing

one_kept : {Y Z : Type 0} (h : Y → Option Z) (y : Y) (o : Option Z) → h y ≡ o → filter_map h (y ∷ []) ≡ option_to_list o
one_kept h y None e = rw e refl
one_kept h y (Some z) e = rw e refl

pub gathered : {X Y Z : Type 0} (at : X → Y) (h : Y → Option Z) (start : List Z) (items : List X) (i : ℕ) (d : X) → i < length items →
    (start ++ filter_map h (map at (take i items))) ++ option_to_list (h (at (get_or items i d))) ≡ start ++ filter_map h (map at (take (i + 1) items))
gathered at h start items i d within =
    append_assoc start (filter_map h (map at (take i items))) (option_to_list (h (at (get_or items i d))))
    ∙ ap (λ zs. start ++ zs)
    (ap (λ zs. filter_map h (map at (take i items)) ++ zs) (sym (one_kept h (at (get_or items i d)) (h (at (get_or items i d))) refl))
    ∙ sym (filter_map-append h (map at (take i items)) (at (get_or items i d) ∷ []))
    ∙ ap (filter_map h) (sym (map_push at (take i items) (get_or items i d)))
    ∙ ap (λ xs. filter_map h (map at xs)) (sym (take_more items i d within)))

HasReadings-push : (b : Forms) (rs : List Reading) (r : Reading) → HasReadings b rs → HasReading b r → HasReadings b (rs ++ r ∷ [])
HasReadings-push b [] r h k = (k, tt)
HasReadings-push b (x ∷ rs) r h k = (h.0, HasReadings-push b rs r h.1 k)

HasCounts-push : (b : Forms) (cs : List Counts) (c : Counts) → HasCounts b cs → HasCount b c → HasCounts b (cs ++ c ∷ [])
HasCounts-push b [] c h k = (k, tt)
HasCounts-push b (x ∷ cs) c h k = (h.0, HasCounts-push b cs c h.1 k)

pub HasReadings-get : (b : Forms) (rs : List Reading) (i : ℕ) (d : Reading) → HasReadings b rs → i < length rs → HasReading b (get_or rs i d)
HasReadings-get b [] i d h at = absurd (omega arith)
HasReadings-get b (r ∷ rs) zero d h at = h.0
HasReadings-get b (r ∷ rs) (suc i) d h at = HasReadings-get b rs i d h.1 (omega arith)

-- ---- reads

pub reading_pushed : (b : Forms) (rs more : List Reading) (r : Reading) → more ≡ rs ++ r ∷ [] → HasReadings b rs → HasReading b r → AreReadings b more (readings_at b rs ++ reading_at b r ∷ [])
reading_pushed b rs more r e h k = record { has = subst (HasReadings b) (sym e) (HasReadings-push b rs r h k); are = ap (readings_at b) e ∙ map_push (reading_at b) rs r }

pub reading_given : (b : Forms) (rs more : List Reading) (r : Reading) (o : Option Reading) → o ≡ Some r → more ≡ rs ++ r ∷ [] → HasReadings b rs → IfSome o (HasReading b) →
    AreReadings b more (readings_at b rs ++ option_to_list (option_map (reading_at b) o))
reading_given b rs more r o same e h k =
    subst (λ p. AreReadings b more (readings_at b rs ++ option_to_list (option_map (reading_at b) p))) (sym same) (reading_pushed b rs more r e h (subst (λ p. IfSome p (HasReading b)) same k))

pub reading_kept : (b : Forms) (rs : List Reading) → HasReadings b rs → AreReadings b rs (readings_at b rs ++ [])
reading_kept b rs h = record { has = h; are = sym (append-nil (readings_at b rs)) }

pub readings_next : {X Y : Type 0} (at : X → Y) (h : Y → Option spec.Reading) (start : List spec.Reading) (items : List X) (i : ℕ) (d : X) (b : Forms) (rs more : List Reading) (r : Option Reading) → i < length items →
    AreReadings b rs (start ++ filter_map h (map at (take i items))) → IsReading b r (h (at (get_or items i d))) → AreReadings b more (readings_at b rs ++ option_to_list (option_map (reading_at b) r)) →
    AreReadings b more (start ++ filter_map h (map at (take (i + 1) items)))
readings_next at h start items i d b rs more r within before is next = record {
  has = next.has;
  are =
      next.are
      ∙ ap (λ xs. xs ++ option_to_list (option_map (reading_at b) r)) before.are
      ∙ ap (λ o. (start ++ filter_map h (map at (take i items))) ++ option_to_list o) is.is
      ∙ gathered at h start items i d within;
}

-- ---- counts

pub count_pushed : (b : Forms) (cs more : List Counts) (c : Counts) → more ≡ cs ++ c ∷ [] → HasCounts b cs → HasCount b c → AreCounts b more (all_counts_at b cs ++ counts_at b c ∷ [])
count_pushed b cs more c e h k = record { has = subst (HasCounts b) (sym e) (HasCounts-push b cs c h k); are = ap (all_counts_at b) e ∙ map_push (counts_at b) cs c }

pub count_given : (b : Forms) (cs more : List Counts) (c : Counts) (o : Option Counts) → o ≡ Some c → more ≡ cs ++ c ∷ [] → HasCounts b cs → IfSome o (HasCount b) →
    AreCounts b more (all_counts_at b cs ++ option_to_list (option_map (counts_at b) o))
count_given b cs more c o same e h k =
    subst (λ p. AreCounts b more (all_counts_at b cs ++ option_to_list (option_map (counts_at b) p))) (sym same) (count_pushed b cs more c e h (subst (λ p. IfSome p (HasCount b)) same k))

pub count_kept : (b : Forms) (cs : List Counts) → HasCounts b cs → AreCounts b cs (all_counts_at b cs ++ [])
count_kept b cs h = record { has = h; are = sym (append-nil (all_counts_at b cs)) }

pub counts_next : (items : List FormulaId) (i : ℕ) (d : FormulaId) (b : Forms) (cs more : List Counts) (c : Option Counts) → i < length items →
    AreCounts b cs (filter_map spec.counts (formulas_at b (take i items))) → IsCount b c (spec.counts (formula_at b (get_or items i d))) → AreCounts b more (all_counts_at b cs ++ option_to_list (option_map (counts_at b) c)) →
    AreCounts b more (filter_map spec.counts (formulas_at b (take (i + 1) items)))
counts_next items i d b cs more c within before is next = record {
  has = next.has;
  are =
      next.are
      ∙ ap (λ xs. xs ++ option_to_list (option_map (counts_at b) c)) before.are
      ∙ ap (λ o. filter_map spec.counts (formulas_at b (take i items)) ++ option_to_list o) is.is
      ∙ gathered (formula_at b) spec.counts [] items i d within;
}

-- ---- pairs

pair_shown : (x : Term) (r : Bool) → r ≡ spec.is_pair x → r ≡ true → filter spec.is_pair (x ∷ []) ≡ x ∷ []
pair_shown x r e f = rw (sym e ∙ f) refl

pair_hidden : (x : Term) (r : Bool) → r ≡ spec.is_pair x → r ≡ false → filter spec.is_pair (x ∷ []) ≡ []
pair_hidden x r e f = rw (sym e ∙ f) refl

pub pair_pushed : (b : Forms) (ts more : List TermId) (t : TermId) → true ≡ spec.is_pair (term_at b t) → more ≡ ts ++ t ∷ [] → HasTerms b ts → HasTerm b t → AreTerms b more (terms_at b ts ++ filter spec.is_pair (term_at b t ∷ []))
pair_pushed b ts more t is e h k = record {
  has = subst (HasTerms b) (sym e) (HasTerms-push b ts t h k);
  are = ap (terms_at b) e ∙ map_push (term_at b) ts t ∙ ap (λ xs. terms_at b ts ++ xs) (sym (pair_shown (term_at b t) true is refl));
}

pub pair_kept : (b : Forms) (ts : List TermId) (t : TermId) → false ≡ spec.is_pair (term_at b t) → HasTerms b ts → AreTerms b ts (terms_at b ts ++ filter spec.is_pair (term_at b t ∷ []))
pair_kept b ts t is h = record { has = h; are = sym (ap (λ xs. terms_at b ts ++ xs) (pair_hidden (term_at b t) false is refl) ∙ append-nil (terms_at b ts)) }

pub pairs_next : (items : List TermId) (i : ℕ) (d : TermId) (b : Forms) (ts more : List TermId) → i < length items →
    AreTerms b ts (filter spec.is_pair (terms_at b (take i items))) → AreTerms b more (terms_at b ts ++ filter spec.is_pair (term_at b (get_or items i d) ∷ [])) → AreTerms b more (filter spec.is_pair (terms_at b (take (i + 1) items)))
pairs_next items i d b ts more within before next = record {
  has = next.has;
  are =
      next.are
      ∙ ap (λ xs. xs ++ filter spec.is_pair (term_at b (get_or items i d) ∷ [])) before.are
      ∙ sym (filter-append spec.is_pair (terms_at b (take i items)) (term_at b (get_or items i d) ∷ []))
      ∙ ap (filter spec.is_pair) (sym (map_push (term_at b) (take i items) (get_or items i d)))
      ∙ ap (λ xs. filter spec.is_pair (terms_at b xs)) (sym (take_more items i d within));
}
