-- Places of a `forall`, gathered.
use Rattle.std.proofs.Common.{◌≡◌, ℕ, zero, suc, ◌+◌, ◌<◌, ◌≤◌, List, [], ◌∷◌, ◌++◌, length, map, take, get_or, Bool, true, false, refl, sym, ◌∙◌, ap, subst, append_assoc, arith, Option, Some, None, if◌then◌else◌, Result, Ok, Err, Vec, Global}
use Rattle.std.specs.Prelude.{flat_map, filter_map, option_map, option_to_list, IfSome, IfOk, ◌&&◌}
use Rattle.std.proofs.lemmas.List.{append-nil, map_push, take_more, flat_map_more}
use Rattle.std.proofs.lemmas.List.Elements.{filter_map-append}
use Rattle.ss_logic.specs.declared.Sort.{Sort}
use Rattle.ss_logic.specs.Terms.{Term}
use Rattle.ss_logic.specs.Formulas.{Formula}
use Rattle.ss_logic.specs.Asked.{is_empty}
use Rattle.ss_logic.specs.Matching.{is_one_whole}
use Rattle.ss_terms.specs.declared.forms.TermId.{TermId}
use Rattle.ss_terms.specs.Forms.{Forms, term_at, terms_at, HasTerm, HasTerms}
use Rattle.ss_rules_opened.specs.declared.places.Tuple.{Tuple}
use Rattle.ss_rules_opened.specs.Matches.{tuple_at, tuples_at, HasTuples, AreTuples, AreThese, places_by, number_places, match_places}

HasTuples-push : (b : Forms) (ts : List Tuple) (t : Tuple) → HasTuples b ts → HasTerms b t.terms.items → HasTuples b (ts ++ t ∷ [])
HasTuples-push b [] t h k = (k, tt)
HasTuples-push b (x ∷ ts) t h k = (h.0, HasTuples-push b ts t h.1 k)

tuple_pushed : (b : Forms) (ts more : List Tuple) (t : Tuple) → more ≡ ts ++ t ∷ [] → HasTuples b ts → HasTerms b t.terms.items → AreTuples b more (tuples_at b ts ++ tuple_at b t ∷ [])
tuple_pushed b ts more t e h k = record { has = subst (HasTuples b) (sym e) (HasTuples-push b ts t h k); are = ap (tuples_at b) e ∙ map_push (tuple_at b) ts t }

pub tuple_given : (b : Forms) (ts more : List Tuple) (t : Tuple) (o : Option (Vec TermId Global)) → o ≡ Some t.terms → more ≡ ts ++ t ∷ [] → HasTuples b ts → IfSome o (λ v. HasTerms b v.items) →
    AreTuples b more (tuples_at b ts ++ option_to_list (option_map (λ v. terms_at b v.items) o))
tuple_given b ts more t o same e h k =
    subst (λ q. AreTuples b more (tuples_at b ts ++ option_to_list (option_map (λ v. terms_at b v.items) q))) (sym same) (tuple_pushed b ts more t e h (subst (λ q. IfSome q (λ v. HasTerms b v.items)) same k))

pub tuple_kept : (b : Forms) (ts : List Tuple) → HasTuples b ts → AreTuples b ts (tuples_at b ts ++ [])
tuple_kept b ts h = record { has = h; are = sym (append-nil (tuples_at b ts)) }

-- ---- one more item

one_kept : {Y Z : Type 0} (h : Y → Option Z) (y : Y) (o : Option Z) → h y ≡ o → filter_map h (y ∷ []) ≡ option_to_list o
one_kept h y None e = rw e refl
one_kept h y (Some z) e = rw e refl

pub pattern_next : {X Y : Type 0} (at : X → Y) (h : Y → Option (List Term)) (start : List (List Term)) (items : List X) (i : ℕ) (d : X) (b : Forms) (ts more : List Tuple) (r : Option (Vec TermId Global)) → i < length items →
    AreTuples b ts (start ++ filter_map h (map at (take i items))) → AreThese b r (h (at (get_or items i d))) → AreTuples b more (tuples_at b ts ++ option_to_list (option_map (λ v. terms_at b v.items) r)) →
    AreTuples b more (start ++ filter_map h (map at (take (i + 1) items)))
pattern_next at h start items i d b ts more r within before is next = record {
  has = next.has;
  are =
      next.are
      ∙ ap (λ xs. xs ++ option_to_list (option_map (λ v. terms_at b v.items) r)) before.are
      ∙ ap (λ o. (start ++ filter_map h (map at (take i items))) ++ option_to_list o) is.are
      ∙ append_assoc start (filter_map h (map at (take i items))) (option_to_list (h (at (get_or items i d))))
      ∙ ap (λ zs. start ++ zs)
      (ap (λ zs. filter_map h (map at (take i items)) ++ zs) (sym (one_kept h (at (get_or items i d)) (h (at (get_or items i d))) refl))
      ∙ sym (filter_map-append h (map at (take i items)) (at (get_or items i d) ∷ []))
      ∙ ap (filter_map h) (sym (map_push at (take i items) (get_or items i d)))
      ∙ ap (λ xs. filter_map h (map at xs)) (sym (take_more items i d within)));
}

pub place_next : {X Y : Type 0} (at : X → Y) (what : Y → List (List Term)) (start : List (List Term)) (items : List X) (i : ℕ) (d : X) (b : Forms) (ts more : List Tuple) → i < length items →
    AreTuples b ts (start ++ flat_map what (map at (take i items))) → AreTuples b more (tuples_at b ts ++ what (at (get_or items i d))) → AreTuples b more (start ++ flat_map what (map at (take (i + 1) items)))
place_next at what start items i d b ts more within before next = record {
  has = next.has;
  are =
      next.are
      ∙ ap (λ zs. zs ++ what (at (get_or items i d))) before.are
      ∙ flat_map_more what start (map at (take i items)) (at (get_or items i d))
      ∙ ap (λ zs. start ++ flat_map what zs) (sym (map_push at (take i items) (get_or items i d)))
      ∙ ap (λ zs. start ++ flat_map what (map at zs)) (sym (take_more items i d within));
}

pub alone_next : (items : List TermId) (i : ℕ) (d : TermId) (b : Forms) (ts more : List Tuple) → i < length items → AreTuples b ts (map (λ t. t ∷ []) (terms_at b (take i items))) →
    AreTuples b more (tuples_at b ts ++ (term_at b (get_or items i d) ∷ []) ∷ []) → AreTuples b more (map (λ t. t ∷ []) (terms_at b (take (i + 1) items)))
alone_next items i d b ts more within before next = record {
  has = next.has;
  are =
      next.are
      ∙ ap (λ xs. xs ++ (term_at b (get_or items i d) ∷ []) ∷ []) before.are
      ∙ sym (map_push (λ t. t ∷ []) (terms_at b (take i items)) (term_at b (get_or items i d)))
      ∙ ap (λ zs. map (λ t. t ∷ []) zs) (sym (map_push (term_at b) (take i items) (get_or items i d)))
      ∙ ap (λ zs. map (λ t. t ∷ []) (terms_at b zs)) (sym (take_more items i d within));
}

-- ---- in other words

pub ok_tuples : {E : Type 0} (r : Result (Vec Tuple Global) E) (b : Forms) (these those : List (List Term)) → these ≡ those → IfOk r (λ v. AreTuples b v.items these) → IfOk r (λ v. AreTuples b v.items those)
ok_tuples (Ok v) b these those e h = record { has = h.has; are = h.are ∙ e }
ok_tuples (Err z) b these those e h = tt

pub both_added : (b : Forms) (start ts us : List Tuple) (first second : List (List Term)) → start ≡ [] → AreTuples b ts (tuples_at b start ++ first) → AreTuples b us (tuples_at b ts ++ second) → AreTuples b us (first ++ second)
both_added b start ts us first second e h k = record { has = k.has; are = k.are ∙ ap (λ xs. xs ++ second) (h.are ∙ ap (λ xs. tuples_at b xs ++ first) e) }

pub by_number : (fs : List Formula) (ss : List Sort) (for_terms : List Term) (for_atoms : List Formula) (r : Bool) → r ≡ (is_empty for_terms && is_empty for_atoms && is_one_whole ss) → r ≡ true → number_places fs ≡ places_by fs ss for_terms for_atoms
by_number fs ss for_terms for_atoms r e holds = sym (ap (λ v. if v then number_places fs else match_places (length ss) for_terms for_atoms fs) (sym e ∙ holds))

pub by_match : (fs : List Formula) (ss : List Sort) (for_terms : List Term) (for_atoms : List Formula) (r : Bool) → r ≡ (is_empty for_terms && is_empty for_atoms && is_one_whole ss) → r ≡ false → match_places (length ss) for_terms for_atoms fs ≡ places_by fs ss for_terms for_atoms
by_match fs ss for_terms for_atoms r e fails = sym (ap (λ v. if v then number_places fs else match_places (length ss) for_terms for_atoms fs) (sym e ∙ fails))
