-- Each two whole numbers of one class, and the equalities of a model.
use Rattle.std.proofs.Common.{◌≡◌, ℕ, zero, suc, ◌+◌, ◌<◌, ◌≤◌, ◌==◌, List, [], ◌∷◌, ◌++◌, length, get_or, set, take, drop, map, Bool, true, false, cond, eqb, Option, Some, refl, sym, ◌∙◌, ap, subst, append_assoc, arith}
use Rattle.std.specs.Prelude.{filter, unwrap_or}
use Rattle.std.proofs.lemmas.Bool.{eqb-true, eq-eqb, false≢true}
use Rattle.std.proofs.lemmas.List.{append-nil, map-append, map_push, drop_more, drop_all, take_more, get_or-set_same, get_or-set_other}
use Rattle.std.proofs.lemmas.List.Elements.{filter-append}
use Rattle.ss_logic.specs.Terms.{Term}
use Rattle.ss_logic.specs.Shapes.{equal}
use Rattle.ss_logic_countermodels.specs.Refuting.{equalities, equalities_of}
use Rattle.ss_linear.specs.Contradictions.{equality_at, equalities_at, HasPairs}
use Rattle.ss_terms.specs.declared.forms.TermId.{TermId}
use Rattle.ss_terms.specs.Forms.{Forms, term_at, terms_at, HasTerm}
use Rattle.ss_search_models.specs.declared.wholes.Whole.{Whole}
use Rattle.ss_search_models.specs.declared.candidate.Candidate.{Candidate}
use Rattle.ss_search_models.specs.Candidates.{class_at, model_at}
use Rattle.ss_search_models.specs.Wholes.{no_whole, whole_at, wholes_at, IsClassed, AreClassed, IsFirst, AreNexts, pairs_of, pairs_in, next_of, nexts_in}

-- ---- the terms

pub not_whole : (p : Term → Bool) (xs : List Term) (t : Term) → p t ≡ false → xs ≡ xs ++ filter p (t ∷ [])
not_whole p xs t e = sym (ap (λ v. xs ++ cond v (t ∷ []) []) e ∙ append-nil xs)

pub one_whole : (b : Forms) (p : Term → Bool) (old new : List Whole) (w : Whole) → new ≡ old ++ w ∷ [] → p (whole_at b w) ≡ true → wholes_at b new ≡ wholes_at b old ++ filter p (whole_at b w ∷ [])
one_whole b p old new w is e = ap (wholes_at b) is ∙ map_push (whole_at b) old w ∙ sym (ap (λ v. wholes_at b old ++ cond v (whole_at b w ∷ []) []) e)

pub whole_more : (b : Forms) (p : Term → Bool) (ts : List TermId) (i : ℕ) (d : TermId) (xs ys : List Term) → i < length ts → xs ≡ filter p (terms_at b (take i ts)) → ys ≡ xs ++ filter p (term_at b (get_or ts i d) ∷ []) → ys ≡ filter p (terms_at b (take (i + 1) ts))
whole_more b p ts i d xs ys l h k =
    k ∙ ap (λ r. r ++ filter p (term_at b (get_or ts i d) ∷ [])) h
    ∙ sym (ap (λ us. filter p (terms_at b us)) (take_more ts i d l) ∙ ap (filter p) (map_push (term_at b) (take i ts) (get_or ts i d)) ∙ filter-append p (terms_at b (take i ts)) (term_at b (get_or ts i d) ∷ []))

pub classed_pushed : (b : Forms) (c : Candidate) (old new : List Whole) (w : Whole) → new ≡ old ++ w ∷ [] → AreClassed b c old → IsClassed b c w → AreClassed b c new
classed_pushed b c old new w is h k = subst (λ (ws : List Whole). AreClassed b c ws) (sym is) (pushed old h)
  where
    pushed : (ws : List Whole) → AreClassed b c ws → AreClassed b c (ws ++ w ∷ [])
    pushed [] h = (k, tt)
    pushed (u ∷ ws) h = (h.0, pushed ws h.1)

-- ---- the next one of a class

first_here : (ws : List Whole) (i : ℕ) → i < length ws → IsFirst ws i (get_or ws i no_whole).class i
first_here ws i l = record {
  from = omega arith;
  within = omega arith;
  same = λ _. refl;
  none = λ k a b e. omega arith;
}

not_here : (ws : List Whole) (i class place : ℕ) → ((get_or ws i no_whole).class ≡ class → ⊥) → IsFirst ws (i + 1) class place → (k : ℕ) → i ≤ k → k < place → (get_or ws k no_whole).class ≡ class → ⊥
not_here ws i class place apart f k a b e = by (eqb k i) refl
  where
    by : (v : Bool) → eqb k i ≡ v → ⊥
    by true same = apart (ap (λ j. (get_or ws j no_whole).class) (sym (eqb-true k i same)) ∙ e)
    by false other = let unequal : (k ≡ i → ⊥) = λ is. false≢true (sym other ∙ eq-eqb k i is) in f.none k (omega (arith, unequal)) b e

first_before : (ws : List Whole) (i class place : ℕ) → ((get_or ws i no_whole).class ≡ class → ⊥) → IsFirst ws (i + 1) class place → IsFirst ws i class place
first_before ws i class place apart f = record {
  from = let l = f.from in omega arith;
  within = f.within;
  same = f.same;
  none = not_here ws i class place apart f;
}

-- one place before, where the place of its class is now this one
pub first_more : (ws : List Whole) (i class : ℕ) (old new : Option ℕ) → i < length ws → new ≡ cond (eqb (get_or ws i no_whole).class class) (Some i) old → IsFirst ws (i + 1) class (unwrap_or old (length ws)) → IsFirst ws i class (unwrap_or new (length ws))
first_more ws i class old new l is f = by (eqb (get_or ws i no_whole).class class) refl is
  where
    by : (v : Bool) → eqb (get_or ws i no_whole).class class ≡ v → new ≡ cond v (Some i) old → IsFirst ws i class (unwrap_or new (length ws))
    by true same h =
        subst (λ (o : Option ℕ). IsFirst ws i class (unwrap_or o (length ws))) (sym h)
        (subst (λ (n : ℕ). IsFirst ws i n i) (eqb-true (get_or ws i no_whole).class class same) (first_here ws i l))
    by false other h =
        subst (λ (o : Option ℕ). IsFirst ws i class (unwrap_or o (length ws))) (sym h)
        (first_before ws i class (unwrap_or old (length ws)) (λ e. false≢true (sym other ∙ eq-eqb (get_or ws i no_whole).class class e)) f)

pub first_none : (ws : List Whole) (class : ℕ) → IsFirst ws (length ws) class (length ws)
first_none ws class = record {
  from = omega arith;
  within = omega arith;
  same = λ l. omega arith;
  none = λ k a b e. omega arith;
}

-- the place of this one is known too
pub next_more : (ws : List Whole) (old new : List ℕ) (i place : ℕ) → i < length ws → length old ≡ length ws → new ≡ set old i place → IsFirst ws (i + 1) (get_or ws i no_whole).class place →
    ((k : ℕ) → i + 1 ≤ k → k < length ws → IsFirst ws (k + 1) (get_or ws k no_whole).class (get_or old k 0)) →
    (k : ℕ) → i ≤ k → k < length ws → IsFirst ws (k + 1) (get_or ws k no_whole).class (get_or new k 0)
next_more ws old new i place l long is f next k a b =
    subst (λ (ns : List ℕ). IsFirst ws (k + 1) (get_or ws k no_whole).class (get_or ns k 0)) (sym is) (by (eqb k i) refl)
  where
    by : (v : Bool) → eqb k i ≡ v → IsFirst ws (k + 1) (get_or ws k no_whole).class (get_or (set old i place) k 0)
    by true same =
        subst (λ (j : ℕ). IsFirst ws (j + 1) (get_or ws j no_whole).class (get_or (set old i place) j 0)) (sym (eqb-true k i same))
        (subst (λ (n : ℕ). IsFirst ws (i + 1) (get_or ws i no_whole).class n) (sym (get_or-set_same old i place 0 (omega arith))) f)
    by false other =
        let unequal : (k ≡ i → ⊥) = λ e. false≢true (sym other ∙ eq-eqb k i e) in
        subst (λ (n : ℕ). IsFirst ws (k + 1) (get_or ws k no_whole).class n) (sym (get_or-set_other old i k place 0 unequal)) (next k (omega (arith, unequal)) b)

-- ---- pairs

passed : (n : ℕ) (ws : List Whole) (i k : ℕ) → i ≤ k → ((j : ℕ) → i ≤ j → j < k → (get_or ws j no_whole).class ≡ n → ⊥) → filter (λ u. n == u.class) (drop i ws) ≡ filter (λ u. n == u.class) (drop k ws)
passed n [] zero zero l none = refl
passed n [] zero (suc k) l none = refl
passed n [] (suc i) zero l none = refl
passed n [] (suc i) (suc k) l none = refl
passed n (w ∷ ws) zero zero l none = refl
passed n (w ∷ ws) (suc i) zero l none = absurd (omega arith)
passed n (w ∷ ws) (suc i) (suc k) l none = passed n ws i k (omega arith) (λ j a b e. none (suc j) (omega arith) (omega arith) e)
passed n (w ∷ ws) zero (suc k) l none = by (n == w.class) (λ e. none zero (omega arith) (omega arith) (sym (eqb-true n w.class e))) ∙ passed n ws zero k (omega arith) (λ j a b e. none (suc j) (omega arith) (omega arith) e)
  where
    by : (v : Bool) → (v ≡ true → ⊥) → cond v (w ∷ filter (λ u. n == u.class) ws) (filter (λ u. n == u.class) ws) ≡ filter (λ u. n == u.class) ws
    by true other = absurd (other refl)
    by false other = refl

-- from a place to the first one of the class there are no pairs
pub pairs_passed : (w : Whole) (ws : List Whole) (i place : ℕ) → IsFirst ws i w.class place → pairs_of w (drop i ws) ≡ pairs_of w (drop place ws)
pairs_passed w ws i place f = ap (map (λ (u : Whole). (w.term, u.term))) (passed w.class ws i place f.from f.none)

pairs_next : (w : Whole) (ws : List Whole) (j : ℕ) → j < length ws → (get_or ws j no_whole).class ≡ w.class → pairs_of w (drop j ws) ≡ (w.term, (get_or ws j no_whole).term) ∷ pairs_of w (drop (j + 1) ws)
pairs_next w ws j l e =
    ap (pairs_of w) (drop_more ws j no_whole l)
    ∙ ap (λ v. map (λ (u : Whole). (w.term, u.term)) (cond v (get_or ws j no_whole ∷ filter (λ u. w.class == u.class) (drop (j + 1) ws)) (filter (λ u. w.class == u.class) (drop (j + 1) ws)))) (eq-eqb w.class (get_or ws j no_whole).class (sym e))

pub next_same : (ws : List Whole) (ns : List ℕ) (w : Whole) (j : ℕ) → AreNexts ws ns → j < length ws → (get_or ws j no_whole).class ≡ w.class → IsFirst ws (j + 1) w.class (get_or ns j 0)
next_same ws ns w j nexts l e = subst (λ (n : ℕ). IsFirst ws (j + 1) n (get_or ns j 0)) e (nexts j l)

pub pair_step : (w : Whole) (ws : List Whole) (j place : ℕ) (old new all : List (TermId × TermId)) → j < length ws → (get_or ws j no_whole).class ≡ w.class → IsFirst ws (j + 1) w.class place → new ≡ old ++ (w.term, (get_or ws j no_whole).term) ∷ [] → old ++ pairs_of w (drop j ws) ≡ all → new ++ pairs_of w (drop place ws) ≡ all
pair_step w ws j place old new all l e first is h =
    ap (λ ps. ps ++ pairs_of w (drop place ws)) is
    ∙ append_assoc old ((w.term, (get_or ws j no_whole).term) ∷ []) (pairs_of w (drop place ws))
    ∙ ap (λ ps. old ++ (w.term, (get_or ws j no_whole).term) ∷ ps) (sym (pairs_passed w ws (j + 1) place first))
    ∙ ap (λ ps. old ++ ps) (sym (pairs_next w ws j l e))
    ∙ h

pub pairs_end : (w : Whole) (ws : List Whole) (j : ℕ) (ps all : List (TermId × TermId)) → length ws ≤ j → ps ++ pairs_of w (drop j ws) ≡ all → ps ≡ all
pairs_end w ws j ps all l h = sym (append-nil ps) ∙ ap (λ us. ps ++ pairs_of w us) (sym (drop_all j ws l)) ∙ h

pub pairs_more : (ws : List Whole) (i : ℕ) (old new all : List (TermId × TermId)) → i < length ws → new ≡ old ++ pairs_of (get_or ws i no_whole) (drop (i + 1) ws) → old ++ pairs_in (drop i ws) ≡ all → new ++ pairs_in (drop (i + 1) ws) ≡ all
pairs_more ws i old new all l is h =
    ap (λ ps. ps ++ pairs_in (drop (i + 1) ws)) is
    ∙ append_assoc old (pairs_of (get_or ws i no_whole) (drop (i + 1) ws)) (pairs_in (drop (i + 1) ws))
    ∙ ap (λ us. old ++ pairs_in us) (sym (drop_more ws i no_whole l))
    ∙ h

pub pairs_all : (ws : List Whole) (i : ℕ) (ps all : List (TermId × TermId)) → length ws ≤ i → ps ++ pairs_in (drop i ws) ≡ all → ps ≡ all
pairs_all ws i ps all l h = sym (append-nil ps) ∙ ap (λ us. ps ++ pairs_in us) (sym (drop_all i ws l)) ∙ h

-- ---- the next one of a class, with each one

pub next_found : (w : Whole) (ws : List Whole) (i j : ℕ) (old new : List (TermId × TermId)) → j < length ws → IsFirst ws i w.class j → new ≡ old ++ (w.term, (get_or ws j no_whole).term) ∷ [] → new ≡ old ++ next_of w (drop i ws)
next_found w ws i j old new l first is =
    is ∙ ap (λ ps. old ++ take 1 ps) (sym (pairs_passed w ws i j first ∙ pairs_next w ws j l (first.same l)))

pub next_missing : (w : Whole) (ws : List Whole) (i j : ℕ) (old : List (TermId × TermId)) → length ws ≤ j → IsFirst ws i w.class j → old ≡ old ++ next_of w (drop i ws)
next_missing w ws i j old l first =
    sym (append-nil old) ∙ ap (λ ps. old ++ take 1 ps) (sym (pairs_passed w ws i j first ∙ ap (pairs_of w) (drop_all j ws l)))

pub nexts_more : (ws : List Whole) (i : ℕ) (old new all : List (TermId × TermId)) → i < length ws → new ≡ old ++ next_of (get_or ws i no_whole) (drop (i + 1) ws) → old ++ nexts_in (drop i ws) ≡ all → new ++ nexts_in (drop (i + 1) ws) ≡ all
nexts_more ws i old new all l is h =
    ap (λ ps. ps ++ nexts_in (drop (i + 1) ws)) is
    ∙ append_assoc old (next_of (get_or ws i no_whole) (drop (i + 1) ws)) (nexts_in (drop (i + 1) ws))
    ∙ ap (λ us. old ++ nexts_in us) (sym (drop_more ws i no_whole l))
    ∙ h

pub nexts_all : (ws : List Whole) (i : ℕ) (ps all : List (TermId × TermId)) → length ws ≤ i → ps ++ nexts_in (drop i ws) ≡ all → ps ≡ all
nexts_all ws i ps all l h = sym (append-nil ps) ∙ ap (λ us. ps ++ nexts_in us) (sym (drop_all i ws l)) ∙ h

-- ---- the equalities of the model

module _ (b : Forms) (c : Candidate) where
  filtered : (n : ℕ) (ws : List Whole) → AreClassed b c ws → wholes_at b (filter (λ u. n == u.class) ws) ≡ filter (λ t. n == class_at b c t) (wholes_at b ws)
  filtered n [] h = refl
  filtered n (w ∷ ws) h =
      by (n == w.class) (filtered n ws h.1)
      ∙ ap (λ k. cond (n == k) (whole_at b w ∷ filter (λ t. n == class_at b c t) (wholes_at b ws)) (filter (λ t. n == class_at b c t) (wholes_at b ws))) h.0.1
    where
      by : (v : Bool) → wholes_at b (filter (λ u. n == u.class) ws) ≡ filter (λ t. n == class_at b c t) (wholes_at b ws) →
          wholes_at b (cond v (w ∷ filter (λ u. n == u.class) ws) (filter (λ u. n == u.class) ws)) ≡ cond v (whole_at b w ∷ filter (λ t. n == class_at b c t) (wholes_at b ws)) (filter (λ t. n == class_at b c t) (wholes_at b ws))
      by true e = ap (λ ts. whole_at b w ∷ ts) e
      by false e = e

  mapped : (w : Whole) (us : List Whole) → map (equality_at b) (map (λ (u : Whole). (w.term, u.term)) us) ≡ map (equal (whole_at b w)) (wholes_at b us)
  mapped w [] = refl
  mapped w (u ∷ us) = ap (λ fs. equal (whole_at b w) (whole_at b u) ∷ fs) (mapped w us)

  equal_of : (w : Whole) (ws : List Whole) → IsClassed b c w → AreClassed b c ws → equalities_at b (pairs_of w ws) ≡ equalities_of (model_at b c) (whole_at b w) (wholes_at b ws)
  equal_of w ws k h =
      mapped w (filter (λ u. w.class == u.class) ws)
      ∙ ap (map (equal (whole_at b w))) (filtered w.class ws h)
      ∙ ap (λ n. map (equal (whole_at b w)) (filter (λ t. n == class_at b c t) (wholes_at b ws))) k.1

  pub equal_in : (ws : List Whole) → AreClassed b c ws → equalities_at b (pairs_in ws) ≡ equalities (model_at b c) (wholes_at b ws)
  equal_in [] h = refl
  equal_in (w ∷ ws) h =
      map-append (equality_at b) (pairs_of w ws) (pairs_in ws)
      ∙ ap (λ fs. fs ++ equalities_at b (pairs_in ws)) (equal_of w ws h.0 h.1)
      ∙ ap (λ fs. equalities_of (model_at b c) (whole_at b w) (wholes_at b ws) ++ fs) (equal_in ws h.1)

  both_have : (ps qs : List (TermId × TermId)) → HasPairs b ps → HasPairs b qs → HasPairs b (ps ++ qs)
  both_have [] qs h k = k
  both_have (p ∷ ps) qs h k = (h.0, both_have ps qs h.1 k)

  have_of : (w : Whole) (ws : List Whole) → HasTerm b w.term → AreClassed b c ws → HasPairs b (pairs_of w ws)
  have_of w [] k h = tt
  have_of w (u ∷ ws) k h = by (w.class == u.class) (have_of w ws k h.1)
    where
      by : (v : Bool) → HasPairs b (pairs_of w ws) → HasPairs b (map (λ (x : Whole). (w.term, x.term)) (cond v (u ∷ filter (λ x. w.class == x.class) ws) (filter (λ x. w.class == x.class) ws)))
      by true more = ((k, h.0.0), more)
      by false more = more

  pub have_in : (ws : List Whole) → AreClassed b c ws → HasPairs b (pairs_in ws)
  have_in [] h = tt
  have_in (w ∷ ws) h = both_have (pairs_of w ws) (pairs_in ws) (have_of w ws h.0.0 h.1) (have_in ws h.1)

  have_first : (ps : List (TermId × TermId)) → HasPairs b ps → HasPairs b (take 1 ps)
  have_first [] h = tt
  have_first (p ∷ ps) h = (h.0, tt)

  pub have_nexts : (ws : List Whole) → AreClassed b c ws → HasPairs b (nexts_in ws)
  have_nexts [] h = tt
  have_nexts (w ∷ ws) h = both_have (next_of w ws) (nexts_in ws) (have_first (pairs_of w ws) (have_of w ws h.0.0 h.1)) (have_nexts ws h.1)
