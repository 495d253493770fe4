-- Owners and terms that are gathered from a list.
use Rattle.std.proofs.Common.{◌≡◌, ℕ, zero, suc, ◌+◌, ◌<◌, ◌≤◌, List, [], ◌∷◌, ◌++◌, length, map, take, get_or, refl, sym, ◌∙◌, ap, subst, arith, Option, Some, None}
use Rattle.std.specs.Prelude.{IfSome, option_map, option_to_list, filter_map}
use Rattle.std.proofs.lemmas.List.{append-nil, map_push}
use Rattle.ss_logic.specs.Terms.{Term, terms_from}
use Rattle.ss_logic.specs.Asked as spec
use Rattle.ss_terms.specs.declared.forms.TermId.{TermId}
use Rattle.ss_terms.specs.Forms.{Forms, term_at, terms_at, HasTerm, HasTerms}
use Rattle.ss_terms.proofs.Longer.{HasTerms-push}
use Rattle.ss_rules_asked.specs.Readings.{IsOne, AreTerms}
use Rattle.ss_rules_asked.proofs.Gathering.{gathered}
use Rattle.ss_rules_asked_first.specs.declared.owners.Owner.{Owner}
use Rattle.ss_rules_asked_first.specs.Good.{owner_at, owners_at, HasOwner, HasOwners, IsOwner, AreOwners}

-- ---- owners

pub two-short : (b : Forms) (ts : List TermId) → length ts < 2 → spec.two_parts (terms_from (terms_at b ts)) ≡ None
two-short b [] h = refl
two-short b (t ∷ []) h = refl
two-short b (t ∷ u ∷ ts) h = absurd (omega arith)

pub two-long : (b : Forms) (ts : List TermId) → 3 ≤ length ts → spec.two_parts (terms_from (terms_at b ts)) ≡ None
two-long b [] h = absurd (omega arith)
two-long b (t ∷ []) h = absurd (omega arith)
two-long b (t ∷ u ∷ []) h = absurd (omega arith)
two-long b (t ∷ u ∷ v ∷ ts) h = refl

HasOwners-push : (b : Forms) (ps : List Owner) (p : Owner) → HasOwners b ps → HasOwner b p → HasOwners b (ps ++ p ∷ [])
HasOwners-push b [] p h k = (k, tt)
HasOwners-push b (q ∷ ps) p h k = (h.0, HasOwners-push b ps p h.1 k)

pub HasOwners-get : (b : Forms) (ps : List Owner) (i : ℕ) (d : Owner) → HasOwners b ps → i < length ps → HasOwner b (get_or ps i d)
HasOwners-get b [] i d h at = absurd (omega arith)
HasOwners-get b (p ∷ ps) zero d h at = h.0
HasOwners-get b (p ∷ ps) (suc i) d h at = HasOwners-get b ps i d h.1 (omega arith)

owner_pushed : (b : Forms) (ps more : List Owner) (p : Owner) → more ≡ ps ++ p ∷ [] → HasOwners b ps → HasOwner b p → AreOwners b more (owners_at b ps ++ owner_at b p ∷ [])
owner_pushed b ps more p e h k = record { has = subst (HasOwners b) (sym e) (HasOwners-push b ps p h k); are = ap (owners_at b) e ∙ map_push (owner_at b) ps p }

pub owner_given : (b : Forms) (ps more : List Owner) (p : Owner) (o : Option Owner) → o ≡ Some p → more ≡ ps ++ p ∷ [] → HasOwners b ps → IfSome o (HasOwner b) →
    AreOwners b more (owners_at b ps ++ option_to_list (option_map (owner_at b) o))
owner_given b ps more p o same e h k =
    subst (λ q. AreOwners b more (owners_at b ps ++ option_to_list (option_map (owner_at b) q))) (sym same) (owner_pushed b ps more p e h (subst (λ q. IfSome q (HasOwner b)) same k))

pub owner_kept : (b : Forms) (ps : List Owner) → HasOwners b ps → AreOwners b ps (owners_at b ps ++ [])
owner_kept b ps h = record { has = h; are = sym (append-nil (owners_at b ps)) }

pub owners_next : (items : List TermId) (i : ℕ) (d : TermId) (b : Forms) (ps more : List Owner) (p : Option Owner) → i < length items →
    AreOwners b ps (filter_map spec.pair_parts (terms_at b (take i items))) → IsOwner b p (spec.pair_parts (term_at b (get_or items i d))) → AreOwners b more (owners_at b ps ++ option_to_list (option_map (owner_at b) p)) →
    AreOwners b more (filter_map spec.pair_parts (terms_at b (take (i + 1) items)))
owners_next items i d b ps more p within before is next = record {
  has = next.has;
  are =
      next.are
      ∙ ap (λ xs. xs ++ option_to_list (option_map (owner_at b) p)) before.are
      ∙ ap (λ o. filter_map spec.pair_parts (terms_at b (take i items)) ++ option_to_list o) is.is
      ∙ gathered (term_at b) spec.pair_parts [] items i d within;
}

-- ---- terms

term_pushed : (b : Forms) (ts more : List TermId) (t : TermId) → more ≡ ts ++ t ∷ [] → HasTerms b ts → HasTerm b t → AreTerms b more (terms_at b ts ++ term_at b t ∷ [])
term_pushed b ts more t e h k = record { has = subst (HasTerms b) (sym e) (HasTerms-push b ts t h k); are = ap (terms_at b) e ∙ map_push (term_at b) ts t }

pub term_given : (b : Forms) (ts more : List TermId) (t : TermId) (o : Option TermId) → o ≡ Some t → more ≡ ts ++ t ∷ [] → HasTerms b ts → IfSome o (HasTerm b) →
    AreTerms b more (terms_at b ts ++ option_to_list (option_map (term_at b) o))
term_given b ts more t o same e h k =
    subst (λ q. AreTerms b more (terms_at b ts ++ option_to_list (option_map (term_at b) q))) (sym same) (term_pushed b ts more t e h (subst (λ q. IfSome q (HasTerm b)) same k))

pub term_kept : (b : Forms) (ts : List TermId) → HasTerms b ts → AreTerms b ts (terms_at b ts ++ [])
term_kept b ts h = record { has = h; are = sym (append-nil (terms_at b ts)) }

pub terms_next : {X Y : Type 0} (at : X → Y) (h : Y → Option Term) (items : List X) (i : ℕ) (d : X) (b : Forms) (ts more : List TermId) (t : Option TermId) → i < length items →
    AreTerms b ts (filter_map h (map at (take i items))) → IsOne b t (h (at (get_or items i d))) → AreTerms b more (terms_at b ts ++ option_to_list (option_map (term_at b) t)) →
    AreTerms b more (filter_map h (map at (take (i + 1) items)))
terms_next at h items i d b ts more t within before is next = record {
  has = next.has;
  are =
      next.are
      ∙ ap (λ xs. xs ++ option_to_list (option_map (term_at b) t)) before.are
      ∙ ap (λ o. filter_map h (map at (take i items)) ++ option_to_list o) is.is
      ∙ gathered at h [] items i d within;
}
