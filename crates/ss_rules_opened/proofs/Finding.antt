-- Patterns, walked term by term.
use Rattle.std.proofs.Common.{◌≡◌, ℕ, zero, suc, ◌+◌, ◌*◌, ◌<◌, ◌≤◌, ◌≢◌, List, [], ◌∷◌, ◌++◌, length, map, take, drop, get_or, set, replicate, Bool, true, false, refl, sym, ◌∙◌, ap, subst, append_assoc, add-one, arith, Option, Some, None, if◌then◌else◌, Result, Ok, Err, Vec, Global}
use Rattle.std.specs.Prelude.{option_map, option_and_then, slice_get, IfSome, IfOk}
use Rattle.std.proofs.Math.Seq.{drop-cons}
use Rattle.std.proofs.lemmas.List.{map-set, map_push, append-nil}
use Rattle.std.proofs.lemmas.Option.{slice_get-map, slice_get_past, slice_get-get_or}
use Rattle.std.proofs.lemmas.Bool.{ltb-true, and_parts, false≢true}
use Rattle.ss_core.specs.Tree.{ClassTree}
use Rattle.ss_logic.specs.Terms.{Symbol, Term, Bound, App, Terms, no_terms, term_then, terms_from, takes, sorts_of, is_well_sorted, are_well_sorted}
use Rattle.ss_logic.specs.Equal.{same_term, same_symbol, equal_terms, same_term_equal, equal_symbols, symbols_discrete, answer_from}
use Rattle.ss_logic.specs.Matching as spec
use Rattle.ss_terms.specs.Lists.{SmallVec}
use Rattle.ss_terms.specs.declared.forms.TermId.{TermId}
use Rattle.ss_terms.specs.declared.forms.Symbol as form
use Rattle.ss_terms.specs.declared.forms.Term.TheVariants.{App as AppForm}
use Rattle.ss_terms.specs.Forms.{Forms, term_at, terms_at, HasTerm, HasTerms, IsTermForm}
use Rattle.ss_terms.proofs.Trees.{AreTermsBelow-more}
use Rattle.ss_terms.proofs.Longer.{HasTerms-push}
use Rattle.ss_rules_opened.specs.Matches.{found_at, all_found_at, HasAllFound, IsMatch, AreThese}

-- ---- what stands for one bound name

pub HasAllFound-get : (b : Forms) (found : List (Option TermId)) (k : ℕ) (d : Option TermId) → HasAllFound b found → k < length found → IfSome (get_or found k d) (HasTerm b)
HasAllFound-get b [] k d h l = absurd (omega arith)
HasAllFound-get b (o ∷ found) zero d h l = h.0
HasAllFound-get b (o ∷ found) (suc k) d h l = HasAllFound-get b found k d h.1 (omega arith)

HasAllFound-set : (b : Forms) (found : List (Option TermId)) (k : ℕ) (t : TermId) → HasAllFound b found → HasTerm b t → HasAllFound b (set found k (Some t))
HasAllFound-set b [] k t h at = tt
HasAllFound-set b (o ∷ found) zero t h at = (at, h.1)
HasAllFound-set b (o ∷ found) (suc k) t h at = (h.0, HasAllFound-set b found k t h.1 at)

pub nothing_there : (b : Forms) (found : List (Option TermId)) (k : ℕ) (t : Term) → HasAllFound b found → length found ≤ k → IsMatch b false found (spec.with_found (all_found_at b found) k t (slice_get (all_found_at b found) k))
nothing_there b found k t h past = record {
  has = h;
  is = ap (spec.with_found (all_found_at b found) k t) (slice_get-map (found_at b) found k ∙ ap (option_map (found_at b)) (slice_get_past found k past));
}

there : (b : Forms) (found : List (Option TermId)) (k : ℕ) (d : Option TermId) (o : Option TermId) → k < length found → get_or found k d ≡ o → slice_get (all_found_at b found) k ≡ Some (found_at b o)
there b found k d o within e = slice_get-map (found_at b) found k ∙ ap (option_map (found_at b)) (slice_get-get_or found k d within ∙ ap Some e)

same_there : (found : List (Option Term)) (k : ℕ) (t u : Term) (r : Bool) → r ≡ same_term t u → spec.with_found found k t (Some (Some u)) ≡ (if r then Some found else None)
same_there found k t u r e = ap (λ v. if v then Some found else None) (sym e)

pub something_there : (b : Forms) (found : List (Option TermId)) (k : ℕ) (d : Option TermId) (t u : TermId) (r : Bool) → HasAllFound b found → k < length found → get_or found k d ≡ Some u → r ≡ same_term (term_at b t) (term_at b u) →
    IsMatch b r found (spec.with_found (all_found_at b found) k (term_at b t) (slice_get (all_found_at b found) k))
something_there b found k d t u r h within e same = record {
  has = h;
  is = ap (spec.with_found (all_found_at b found) k (term_at b t)) (there b found k d (Some u) within e) ∙ same_there (all_found_at b found) k (term_at b t) (term_at b u) r same;
}

pub HasTerm-there : (b : Forms) (found : List (Option TermId)) (k : ℕ) (d : Option TermId) (u : TermId) → HasAllFound b found → k < length found → get_or found k d ≡ Some u → HasTerm b u
HasTerm-there b found k d u h within e = subst (λ o. IfSome o (HasTerm b)) e (HasAllFound-get b found k d h within)

pub newly_there : (b : Forms) (found after : List (Option TermId)) (k : ℕ) (d : Option TermId) (t : TermId) → HasAllFound b found → HasTerm b t → k < length found → get_or found k d ≡ None → after ≡ set found k (Some t) →
    IsMatch b true after (spec.with_found (all_found_at b found) k (term_at b t) (slice_get (all_found_at b found) k))
newly_there b found after k d t h at within e written = record {
  has = subst (HasAllFound b) (sym written) (HasAllFound-set b found k t h at);
  is =
      ap (spec.with_found (all_found_at b found) k (term_at b t)) (there b found k d None within e)
      ∙ ap Some (sym (map-set (found_at b) found k (Some t)) ∙ ap (all_found_at b) (sym written));
}

-- ---- a pattern without bound names is itself alone

same_symbol-itself : (f : Symbol) → same_symbol f f ≡ true
unfolding same_symbol
same_symbol-itself f = answer_from (symbols_discrete f f) refl

mutual
  itself : (found : List (Option Term)) (cs : List ClassTree) (t : Term) → is_well_sorted cs [] t ≡ true → spec.matched found t t ≡ Some found
  itself found cs (Bound k) h = let small : k < 0 = ltb-true k 0 h in absurd (omega arith)
  itself found cs (App f ts) h = rw (same_symbol-itself f) (itself_all found cs ts (and_parts (takes cs f (sorts_of cs [] ts)) (are_well_sorted cs [] ts) h).1)

  itself_all : (found : List (Option Term)) (cs : List ClassTree) (ts : Terms) → are_well_sorted cs [] ts ≡ true → spec.all_matched found ts ts ≡ Some found
  itself_all found cs no_terms h = refl
  itself_all found cs (term_then t ts) h =
      let p = and_parts (is_well_sorted cs [] t) (are_well_sorted cs [] ts) h in
      ap (option_and_then (λ more. spec.all_matched more ts ts)) (itself found cs t p.0) ∙ itself_all found cs ts p.1

none_is_none : {A : Type 0} (x : A) → None ≡ Some x → ⊥
none_is_none x e = cc

passed : (r : Bool) (o : Option (List (Option Term))) (x : List (Option Term)) → (if r then o else None) ≡ Some x → (r ≡ true) × (o ≡ Some x)
passed true o x e = (refl, e)
passed false o x e = absurd (none_is_none x e)

went_on : (next : List (Option Term) → Option (List (Option Term))) (o : Option (List (Option Term))) (x : List (Option Term)) → option_and_then next o ≡ Some x → (more : List (Option Term)) × (o ≡ Some more) × (next more ≡ Some x)
went_on next None x e = absurd (none_is_none x e)
went_on next (Some more) x e = (more, refl, e)

-- and what it matches is the same term
mutual
  alike : (found : List (Option Term)) (cs : List ClassTree) (p : Term) → is_well_sorted cs [] p ≡ true → (t : Term) (x : List (Option Term)) → spec.matched found p t ≡ Some x → p ≡ t
  alike found cs (Bound k) h t x e = let small : k < 0 = ltb-true k 0 h in absurd (omega arith)
  alike found cs (App f ts) h (Bound k) x e = absurd (none_is_none x e)
  alike found cs (App f ts) h (App g us) x e =
      let parts = passed (same_symbol f g) (spec.all_matched found ts us) x e in
      ap (λ k. App k ts) (equal_symbols f g parts.0) ∙ ap (App g) (all_alike found cs ts (and_parts (takes cs f (sorts_of cs [] ts)) (are_well_sorted cs [] ts) h).1 us x parts.1)

  all_alike : (found : List (Option Term)) (cs : List ClassTree) (ps : Terms) → are_well_sorted cs [] ps ≡ true → (ts : Terms) (x : List (Option Term)) → spec.all_matched found ps ts ≡ Some x → ps ≡ ts
  all_alike found cs no_terms h no_terms x e = refl
  all_alike found cs no_terms h (term_then t ts) x e = absurd (none_is_none x e)
  all_alike found cs (term_then p ps) h no_terms x e = absurd (none_is_none x e)
  all_alike found cs (term_then p ps) h (term_then t ts) x e =
      let w = and_parts (is_well_sorted cs [] p) (are_well_sorted cs [] ps) h in
      let m = went_on (λ more. spec.all_matched more ps ts) (spec.matched found p t) x e in
      ap (λ q. term_then q ps) (alike found cs p w.0 t m.0 m.1) ∙ ap (term_then t) (all_alike m.0 cs ps w.1 ts x m.2)

unlike : (found : List (Option Term)) (cs : List ClassTree) (p t : Term) → is_well_sorted cs [] p ≡ true → same_term p t ≡ false → (o : Option (List (Option Term))) → spec.matched found p t ≡ o → o ≡ None
unlike found cs p t h d None m = refl
unlike found cs p t h d (Some x) m = absurd (false≢true (sym d ∙ same_term_equal p t (alike found cs p h t x m)))

closed : (found : List (Option Term)) (cs : List ClassTree) (p t : Term) (r : Bool) → is_well_sorted cs [] p ≡ true → r ≡ same_term p t → spec.matched found p t ≡ (if r then Some found else None)
closed found cs p t true h e = ap (spec.matched found p) (sym (equal_terms p t (sym e))) ∙ itself found cs p h
closed found cs p t false h e = unlike found cs p t h (sym e) (spec.matched found p t) refl

pub closed_match : (cs : List ClassTree) (b : Forms) (found : List (Option TermId)) (p t : Term) (r : Bool) → HasAllFound b found → is_well_sorted cs [] p ≡ true → r ≡ same_term p t → IsMatch b r found (spec.matched (all_found_at b found) p t)
closed_match cs b found p t r h sorted e = record { has = h; is = closed (all_found_at b found) cs p t r sorted e }

-- ---- a function

pub other_function : (b : Forms) (found : List (Option TermId)) (f g : Symbol) (ts us : Terms) (r : Bool) → HasAllFound b found → r ≡ same_symbol f g → r ≡ false → IsMatch b false found (spec.matched (all_found_at b found) (App f ts) (App g us))
other_function b found f g ts us r h e fails = record { has = h; is = ap (λ v. if v then spec.all_matched (all_found_at b found) ts us else None) (sym e ∙ fails) }

pub same_function : (b : Forms) (start : List (Option Term)) (found : List (Option TermId)) (f g : Symbol) (ts us : Terms) (r matches : Bool) → r ≡ same_symbol f g → r ≡ true → IsMatch b matches found (spec.all_matched start ts us) →
    IsMatch b matches found (spec.matched start (App f ts) (App g us))
same_function b start found f g ts us r matches e holds m = record { has = m.has; is = ap (λ v. if v then spec.all_matched start ts us else None) (sym e ∙ holds) ∙ m.is }

-- ---- one by one

lengths_differ : (found : List (Option Term)) (xs ys : List Term) → length xs ≢ length ys → spec.all_matched found (terms_from xs) (terms_from ys) ≡ None
lengths_differ found [] [] d = absurd (d refl)
lengths_differ found [] (y ∷ ys) d = refl
lengths_differ found (x ∷ xs) [] d = refl
lengths_differ found (x ∷ xs) (y ∷ ys) d = never (spec.matched found x y) (λ more. lengths_differ more xs ys (λ e. d (ap suc e)))
  where
    never : (o : Option (List (Option Term))) → ((more : List (Option Term)) → spec.all_matched more (terms_from xs) (terms_from ys) ≡ None) → option_and_then (λ more. spec.all_matched more (terms_from xs) (terms_from ys)) o ≡ None
    never None h = refl
    never (Some more) h = h more

count-map : (b : Forms) (ts : List TermId) → length (terms_at b ts) ≡ length ts
count-map b [] = refl
count-map b (t ∷ ts) = ap suc (count-map b ts)

pub other_count : (b : Forms) (found : List (Option TermId)) (ps ts : List TermId) → HasAllFound b found → length ps ≢ length ts → IsMatch b false found (spec.all_matched (all_found_at b found) (terms_from (terms_at b ps)) (terms_from (terms_at b ts)))
other_count b found ps ts h d = record { has = h; is = lengths_differ (all_found_at b found) (terms_at b ps) (terms_at b ts) (λ e. d (sym (count-map b ps) ∙ e ∙ count-map b ts)) }

-- what is left to match from the place i on
abbrev pub left_from : Forms → List (Option TermId) → List TermId → List TermId → ℕ → Option (List (Option Term))
left_from b found ps ts i = spec.all_matched (all_found_at b found) (terms_from (terms_at b (drop i ps))) (terms_from (terms_at b (drop i ts)))

left_here : (b : Forms) (found : List (Option TermId)) (ps ts : List TermId) (i : ℕ) (d e : TermId) → i < length ps → i < length ts →
    left_from b found ps ts i ≡ option_and_then (λ more. spec.all_matched more (terms_from (terms_at b (drop (i + 1) ps))) (terms_from (terms_at b (drop (i + 1) ts)))) (spec.matched (all_found_at b found) (term_at b (get_or ps i d)) (term_at b (get_or ts i e)))
left_here b found ps ts i d e p t =
    ap (λ xs. spec.all_matched (all_found_at b found) (terms_from (terms_at b xs)) (terms_from (terms_at b (drop i ts)))) (drop-cons ps i d p ∙ ap (λ n. get_or ps i d ∷ drop n ps) (sym (add-one i)))
    ∙ ap (λ ys. spec.all_matched (all_found_at b found) (terms_from (terms_at b (get_or ps i d ∷ drop (i + 1) ps))) (terms_from (terms_at b ys))) (drop-cons ts i e t ∙ ap (λ n. get_or ts i e ∷ drop n ts) (sym (add-one i)))

pub no_more : (b : Forms) (found after : List (Option TermId)) (ps ts : List TermId) (i : ℕ) (d e : TermId) (all : Option (List (Option Term))) → i < length ps → i < length ts → left_from b found ps ts i ≡ all →
    IsMatch b false after (spec.matched (all_found_at b found) (term_at b (get_or ps i d)) (term_at b (get_or ts i e))) → IsMatch b false after all
no_more b found after ps ts i d e all p t left m = record {
  has = m.has;
  is = sym left ∙ left_here b found ps ts i d e p t ∙ ap (option_and_then (λ more. spec.all_matched more (terms_from (terms_at b (drop (i + 1) ps))) (terms_from (terms_at b (drop (i + 1) ts))))) m.is;
}

pub one_more : (b : Forms) (found after : List (Option TermId)) (ps ts : List TermId) (i : ℕ) (d e : TermId) (all : Option (List (Option Term))) → i < length ps → i < length ts → left_from b found ps ts i ≡ all →
    IsMatch b true after (spec.matched (all_found_at b found) (term_at b (get_or ps i d)) (term_at b (get_or ts i e))) → left_from b after ps ts (i + 1) ≡ all
one_more b found after ps ts i d e all p t left m =
    sym (ap (option_and_then (λ more. spec.all_matched more (terms_from (terms_at b (drop (i + 1) ps))) (terms_from (terms_at b (drop (i + 1) ts))))) m.is)
    ∙ sym (left_here b found ps ts i d e p t)
    ∙ left

nothing_left : (ts : List TermId) (i : ℕ) → length ts ≤ i → drop i ts ≡ []
nothing_left [] zero l = refl
nothing_left [] (suc i) l = refl
nothing_left (t ∷ ts) zero l = absurd (omega arith)
nothing_left (t ∷ ts) (suc i) l = nothing_left ts i (omega arith)

pub all_done : (b : Forms) (found : List (Option TermId)) (ps ts : List TermId) (i : ℕ) (all : Option (List (Option Term))) → HasAllFound b found → length ps ≡ length ts → length ps ≤ i → left_from b found ps ts i ≡ all → IsMatch b true found all
all_done b found ps ts i all h same past left = record {
  has = h;
  is =
      let past_too : length ts ≤ i = omega (arith, same, past) in
      sym left
      ∙ ap (λ xs. spec.all_matched (all_found_at b found) (terms_from (terms_at b xs)) (terms_from (terms_at b (drop i ts)))) (nothing_left ps i past)
      ∙ ap (λ ys. spec.all_matched (all_found_at b found) no_terms (terms_from (terms_at b ys))) (nothing_left ts i past_too);
}

-- ---- at first nothing stands for a bound name

pub one_nothing : {X : Type 0} (x : X) (xs more : List X) (n : ℕ) → xs ≡ replicate n x → more ≡ xs ++ x ∷ [] → more ≡ replicate (n + 1) x
one_nothing x xs more n e pushed =
    let one : n + 1 ≡ suc n = omega arith in
    pushed ∙ ap (λ ys. ys ++ x ∷ []) e ∙ last x n ∙ sym (ap (λ k. replicate k x) one)
  where
    last : {X : Type 0} (x : X) (n : ℕ) → replicate n x ++ x ∷ [] ≡ replicate (suc n) x
    last x zero = refl
    last x (suc n) = ap (λ ys. x ∷ ys) (last x n)

nothing-map : (b : Forms) (n : ℕ) → all_found_at b (replicate n None) ≡ replicate n None
nothing-map b zero = refl
nothing-map b (suc n) = ap (λ xs. None ∷ xs) (nothing-map b n)

pub nothing_at : (b : Forms) (found : List (Option TermId)) (n : ℕ) → found ≡ replicate n None → all_found_at b found ≡ replicate n None
nothing_at b found n e = ap (all_found_at b) e ∙ nothing-map b n

has-nothing : (b : Forms) (n : ℕ) → HasAllFound b (replicate n None)
has-nothing b zero = tt
has-nothing b (suc n) = (tt, has-nothing b n)

pub nothing_had : (b : Forms) (found : List (Option TermId)) (n : ℕ) → found ≡ replicate n None → HasAllFound b found
nothing_had b found n e = subst (HasAllFound b) (sym e) (has-nothing b n)

-- ---- all of them

abbrev after_these : List Term → Option (List Term) → Option (List Term)
after_these ts o = option_map (λ us. ts ++ us) o

-- the terms so far, and then those from the place i on
abbrev pub all_from : Forms → List TermId → List (Option TermId) → ℕ → Option (List Term)
all_from b ts found i = after_these (terms_at b ts) (spec.all_found (all_found_at b (drop i found)))

after_none : (o : Option (List Term)) → after_these [] o ≡ o
after_none None = refl
after_none (Some us) = refl

pub none_so_far : (b : Forms) (ts : List TermId) (found : List (Option TermId)) → ts ≡ [] → all_from b ts found 0 ≡ spec.all_found (all_found_at b found)
none_so_far b ts found e = ap (λ us. after_these (terms_at b us) (spec.all_found (all_found_at b found))) e ∙ after_none (spec.all_found (all_found_at b found))

here : (b : Forms) (ts : List TermId) (found : List (Option TermId)) (i : ℕ) (d o : Option TermId) → i < length found → get_or found i d ≡ o → all_from b ts found i ≡ after_these (terms_at b ts) (spec.all_found (found_at b o ∷ all_found_at b (drop (i + 1) found)))
here b ts found i d o within e =
    ap (λ xs. after_these (terms_at b ts) (spec.all_found (all_found_at b xs))) (drop-cons found i d within ∙ ap (λ n. get_or found i d ∷ drop n found) (sym (add-one i)) ∙ ap (λ x. x ∷ drop (i + 1) found) e)

pub one_missing : (b : Forms) (ts : List TermId) (found : List (Option TermId)) (i : ℕ) (d : Option TermId) (all : Option (List Term)) → i < length found → get_or found i d ≡ None → all_from b ts found i ≡ all → AreThese b None all
one_missing b ts found i d all within e left = record { has = tt; are = sym (here b ts found i d None within e) ∙ left }

then_one : (ts : List Term) (x : Term) (o : Option (List Term)) → after_these (ts ++ x ∷ []) o ≡ after_these ts (option_map (λ us. x ∷ us) o)
then_one ts x None = refl
then_one ts x (Some us) = ap Some (append_assoc ts (x ∷ []) us)

pub has_one_more : (b : Forms) (ts more : List TermId) (found : List (Option TermId)) (i : ℕ) (d : Option TermId) (t : TermId) → HasTerms b ts → HasAllFound b found → i < length found → get_or found i d ≡ Some t → more ≡ ts ++ t ∷ [] → HasTerms b more
has_one_more b ts more found i d t h k within e pushed = subst (HasTerms b) (sym pushed) (HasTerms-push b ts t h (HasTerm-there b found i d t k within e))

pub found_one_more : (b : Forms) (ts more : List TermId) (found : List (Option TermId)) (i : ℕ) (d : Option TermId) (t : TermId) (all : Option (List Term)) → i < length found → get_or found i d ≡ Some t → more ≡ ts ++ t ∷ [] → all_from b ts found i ≡ all →
    all_from b more found (i + 1) ≡ all
found_one_more b ts more found i d t all within e pushed left =
    ap (λ us. after_these us (spec.all_found (all_found_at b (drop (i + 1) found)))) (ap (terms_at b) pushed ∙ map_push (term_at b) ts t)
    ∙ then_one (terms_at b ts) (term_at b t) (spec.all_found (all_found_at b (drop (i + 1) found)))
    ∙ sym (here b ts found i d (Some t) within e)
    ∙ left

none_from : (found : List (Option TermId)) (i : ℕ) → length found ≤ i → drop i found ≡ []
none_from [] zero l = refl
none_from [] (suc i) l = refl
none_from (t ∷ found) zero l = absurd (omega arith)
none_from (t ∷ found) (suc i) l = none_from found i (omega arith)

pub found_all : (b : Forms) (v : Vec TermId Global) (found : List (Option TermId)) (i : ℕ) (all : Option (List Term)) → HasTerms b v.items → length found ≤ i → all_from b v.items found i ≡ all → AreThese b (Some v) all
found_all b v found i all h past left = record {
  has = h;
  are =
      ap Some (sym (append-nil (terms_at b v.items)))
      ∙ sym (ap (λ xs. after_these (terms_at b v.items) (spec.all_found (all_found_at b xs))) (none_from found i past))
      ∙ left;
}

-- ---- whether they match, and then the terms

pub none_match : (b : Forms) (found : List (Option TermId)) (after : Option (List (Option Term))) (r : Bool) → IsMatch b r found after → r ≡ false → AreThese b None (option_and_then spec.all_found after)
none_match b found after r m fails = record { has = tt; are = sym (ap (option_and_then spec.all_found) (m.is ∙ ap (λ v. if v then Some (all_found_at b found) else None) fails)) }

pub these_match : (b : Forms) (found : List (Option TermId)) (after : Option (List (Option Term))) (r : Bool) → IsMatch b r found after → r ≡ true → option_and_then spec.all_found after ≡ spec.all_found (all_found_at b found)
these_match b found after r m holds = ap (option_and_then spec.all_found) (m.is ∙ ap (λ v. if v then Some (all_found_at b found) else None) holds)

pub ok_these : {E : Type 0} (r : Result (Option (Vec TermId Global)) E) (b : Forms) (x y : Option (List Term)) → x ≡ y → IfOk r (λ o. AreThese b o x) → IfOk r (λ o. AreThese b o y)
ok_these (Ok o) b x y e h = record { has = h.has; are = h.are ∙ e }
ok_these (Err z) b x y e h = tt

-- ---- arguments of a term of the bank

pub arguments_there : (b : Forms) (t : TermId) (f : form.Symbol) (v : SmallVec TermId) (ts : List TermId) → ts ≡ v.items → HasTerm b t → IsTermForm b t (AppForm f v) → HasTerms b ts
arguments_there b t f v ts e h n = subst (HasTerms b) (sym e) (AreTermsBelow-more t.0 (length b.terms) (omega (arith, h)) v.items n.below)

pub these_same : (b : Forms) (r : Option (Vec TermId Global)) (x y : Option (List Term)) → x ≡ y → AreThese b r x → AreThese b r y
these_same b r x y e h = record { has = h.has; are = h.are ∙ e }

-- what was written back into a whole list is the list
pub written_whole : {X : Type 0} (n : ℕ) (xs old : List X) → n ≡ length xs → take n (xs ++ drop (length xs) old) ≡ xs
written_whole n xs old e = ap (λ k. take k (xs ++ drop (length xs) old)) e ∙ front xs (drop (length xs) old)
  where
    front : {X : Type 0} (xs ys : List X) → take (length xs) (xs ++ ys) ≡ xs
    front [] ys = refl
    front (x ∷ xs) ys = ap (λ zs. x ∷ zs) (front xs ys)
