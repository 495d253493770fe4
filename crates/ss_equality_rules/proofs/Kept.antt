-- The states before each merge, kept in one log.
use Rattle.std.proofs.Common.{◌≡◌, ℕ, zero, suc, ◌<◌, ◌≤◌, List, [], ◌∷◌, ◌++◌, length, map, take, Option, Some, None, refl, sym, ◌∙◌, ap, subst, ⊎_elim, arith, get_or, length-append}
use Rattle.std.proofs.lemmas.List.{length-map, take_all, take-take, take-map, length_push, map_push, get_or_past, take-append-le, length-take-le}
use Rattle.std.proofs.lemmas.Bool.{cases_lt}
use Rattle.ss_terms.specs.Forms.{TermShape}
use Rattle.ss_equality_rules.specs.declared.Merge.{Merge}
use Rattle.ss_equality_rules.specs.declared.Stand.{Stand}
use Rattle.ss_equality_rules.specs.declared.Join.{Join}
use Rattle.ss_equality_rules.specs.Whole.{Signature, IsWhole, Begins, merges_of, joins_at, signatures_at, IsKept}
use Rattle.ss_equality_rules.proofs.Lists.{front_pushed}

-- ---- a list with its lengths at some earlier times

-- the k-th length, and after the last that of now
abbrev at : {A : Type 0} → List ℕ → List A → ℕ → ℕ
at cs xs k = get_or cs k (length xs)

count_pushed : (cs : List ℕ) (n n' k : ℕ) → k ≤ length cs → get_or (cs ++ n ∷ []) k n' ≡ get_or cs k n
count_pushed [] n n' zero h = refl
count_pushed [] n n' (suc k) h = absurd (omega arith)
count_pushed (c ∷ cs) n n' zero h = refl
count_pushed (c ∷ cs) n n' (suc k) h = count_pushed cs n n' k (omega arith)

count_front : (cs : List ℕ) (n to k : ℕ) → k ≤ to → to ≤ length cs → get_or (take to cs) k (get_or cs to n) ≡ get_or cs k n
count_front cs n zero zero l h = refl
count_front cs n zero (suc k) l h = absurd (omega arith)
count_front [] n (suc to) k l h = absurd (omega arith)
count_front (c ∷ cs) n (suc to) zero l h = refl
count_front (c ∷ cs) n (suc to) (suc k) l h = count_front cs n to k (omega arith) (omega arith)

abbrev Rise : {A : Type 0} → List ℕ → List A → Type 0
Rise cs xs = (j k : ℕ) → j ≤ k → k ≤ length cs → at cs xs j ≤ at cs xs k

at_past : {A : Type 0} (cs : List ℕ) (xs : List A) (k : ℕ) → length cs ≤ k → at cs xs k ≡ length xs
at_past cs xs k h = get_or_past cs k (length xs) h

at_within : {A : Type 0} (cs : List ℕ) (xs : List A) (k : ℕ) → Rise cs xs → k ≤ length cs → at cs xs k ≤ length xs
at_within cs xs k rise h = omega (arith, rise k (length cs) h (omega arith), at_past cs xs (length cs) (omega arith))

module _ {A : Type 0} (cs : List ℕ) (xs xs' : List A) (rise : Rise cs xs) (b : Begins xs xs') where
  longer : length xs ≤ length xs'
  longer = omega (arith, ap length b.is, length-append xs b.rest)

  pushed_old : (k : ℕ) → k ≤ length cs → at (cs ++ length xs ∷ []) xs' k ≡ at cs xs k
  pushed_old k h = count_pushed cs (length xs) (length xs') k h

  pushed_new : (k : ℕ) → length cs < k → at (cs ++ length xs ∷ []) xs' k ≡ length xs'
  pushed_new k h = at_past (cs ++ length xs ∷ []) xs' k (omega (arith, length_push cs (length xs)))

  pushed_rise : Rise (cs ++ length xs ∷ []) xs'
  pushed_rise j k l h = ⊎_elim
      (λ new. ⊎_elim
      (λ j_new. omega (arith, pushed_new j j_new, pushed_new k new))
      (λ j_old. omega (arith, pushed_old j j_old, pushed_new k new, at_within cs xs j rise j_old, longer))
      (cases_lt (length cs) j))
      (λ old. omega (arith, pushed_old j (omega arith), pushed_old k old, rise j k l old))
      (cases_lt (length cs) k)

  pushed_front : (k : ℕ) → k ≤ length cs → take (at (cs ++ length xs ∷ []) xs' k) xs' ≡ take (at cs xs k) xs
  pushed_front k h =
      ap (λ i. take i xs') (pushed_old k h)
      ∙ ap (take (at cs xs k)) b.is
      ∙ take-append-le (at cs xs k) xs b.rest (at_within cs xs k rise h)

  pushed_all : (k : ℕ) → length cs < k → take (at (cs ++ length xs ∷ []) xs' k) xs' ≡ xs'
  pushed_all k h = ap (λ i. take i xs') (pushed_new k h) ∙ take_all (length xs') xs' (omega arith)

module _ {A : Type 0} (cs : List ℕ) (xs : List A) (rise : Rise cs xs) (to : ℕ) (inside : to ≤ length cs) where
  undone_at : (k : ℕ) → k ≤ to → at (take to cs) (take (at cs xs to) xs) k ≡ at cs xs k
  undone_at k h =
      ap (λ n. get_or (take to cs) k n) (length-take-le (at cs xs to) xs (at_within cs xs to rise inside))
      ∙ count_front cs (length xs) to k h inside

  undone_rise : Rise (take to cs) (take (at cs xs to) xs)
  undone_rise j k l h =
      let len : length (take to cs) ≡ to = length-take-le to cs inside in
      omega (arith, undone_at j (omega arith), undone_at k (omega arith), rise j k l (omega arith))

  undone_front : (k : ℕ) → k ≤ to → take (at (take to cs) (take (at cs xs to) xs) k) (take (at cs xs to) xs) ≡ take (at cs xs k) xs
  undone_front k h =
      ap (λ i. take i (take (at cs xs to) xs)) (undone_at k h)
      ∙ take-take (at cs xs k) (at cs xs to) xs (rise k to h inside)

-- ---- what is kept

take_none : {A : Type 0} (k : ℕ) → take {A = A} k [] ≡ []
take_none zero = refl
take_none (suc k) = refl

abbrev joins : List Stand → List ℕ
joins ss = map (λ s. s.joins) ss

abbrev counts : List Stand → List ℕ
counts ss = map (λ s. s.signatures) ss

moved : (fs : List TermShape) (ms ms' : List Merge) (es es' : List Join) (sigs sigs' : List Signature) → ms ≡ ms' → es ≡ es' → sigs ≡ sigs' → IsWhole fs ms' es' sigs' → IsWhole fs ms es sigs
moved fs ms ms' es es' sigs sigs' a b c w =
    subst (λ x. IsWhole fs x es sigs) (sym a) (subst (λ y. IsWhole fs ms' y sigs) (sym b) (subst (λ z. IsWhole fs ms' es' z) (sym c) w))

pub begun_kept : (fs : List TermShape) (es : List Join) (sigs : List Signature) → IsWhole fs [] es sigs → IsKept fs [] es sigs
begun_kept fs es sigs w = record {
  empty = λ e. refl;
  joins_rise = λ j k l h. omega arith;
  signatures_rise = λ j k l h. omega arith;
  whole = λ k h. moved fs (take k []) [] (take (length es) es) es (take (length sigs) sigs) sigs (take_none k) (take_all (length es) es (omega arith)) (take_all (length sigs) sigs (omega arith)) w;
}

pub none_whole : IsWhole [] [] [] []
none_whole = record {
  caused = record { cause = λ j e h. absurd (let no : None ≡ Some e = h in cc) };
  signatures = record { term = λ i f ks v h. absurd (let no : ◌≡◌ {A = Option Signature} None (Some (_, v)) = h in cc) };
  signed = λ w f xs h. absurd (let no : ◌≡◌ {A = Option TermShape} None (Some _) = h in cc);
  merged = λ k m h. absurd (let no : None ≡ Some m = h in cc);
}

module _ (fs : List TermShape) (ss : List Stand) (es : List Join) (sigs : List Signature) (kept : IsKept fs ss es sigs) where
  length_joins : length (joins ss) ≡ length ss
  length_joins = length-map ss (λ s. s.joins)

  length_counts : length (counts ss) ≡ length ss
  length_counts = length-map ss (λ s. s.signatures)

  length_merges : length (merges_of ss) ≡ length ss
  length_merges = length-map ss (λ s. s.merge)

  joins_rise : Rise (joins ss) es
  joins_rise j k l h = kept.joins_rise j k l (omega (arith, length_joins))

  counts_rise : Rise (counts ss) sigs
  counts_rise j k l h = kept.signatures_rise j k l (omega (arith, length_counts))

  pub whole_now : IsWhole fs (merges_of ss) es sigs
  whole_now = moved fs _ _ _ _ _ _
      (sym (take_all (length ss) (merges_of ss) (omega (arith, length_merges))))
      (sym (ap (λ i. take i es) (at_past (joins ss) es (length ss) (omega (arith, length_joins))) ∙ take_all (length es) es (omega arith)))
      (sym (ap (λ i. take i sigs) (at_past (counts ss) sigs (length ss) (omega (arith, length_counts))) ∙ take_all (length sigs) sigs (omega arith)))
      (kept.whole (length ss) (omega arith))

  pub more_kept : (s : Stand) (es' : List Join) (sigs' : List Signature) → (fs ≡ [] → ⊥) → s.joins ≡ length es → s.signatures ≡ length sigs → Begins es es' → Begins sigs sigs' →
      IsWhole fs (merges_of ss ++ s.merge ∷ []) es' sigs' → IsKept fs (ss ++ s ∷ []) es' sigs'
  more_kept s es' sigs' not_empty j_is s_is b d w = record {
    empty = λ e. absurd (not_empty e);
    joins_rise = λ j k l h. subst (λ cs. at cs es' j ≤ at cs es' k) (sym all_joins) (pushed_rise (joins ss) es es' joins_rise b j k l (omega (arith, length_push (joins ss) (length es), length_joins, length_push ss s)));
    signatures_rise = λ j k l h. subst (λ cs. at cs sigs' j ≤ at cs sigs' k) (sym all_counts) (pushed_rise (counts ss) sigs sigs' counts_rise d j k l (omega (arith, length_push (counts ss) (length sigs), length_counts, length_push ss s)));
    whole = λ k h. ⊎_elim
        (λ new. moved fs _ (merges_of ss ++ s.merge ∷ []) _ es' _ sigs'
        (ap (take k) all_merges ∙ take_all k (merges_of ss ++ s.merge ∷ []) (omega (arith, length_push (merges_of ss) s.merge, length_merges)))
        (ap (λ cs. take (at cs es' k) es') all_joins ∙ pushed_all (joins ss) es es' joins_rise b k (omega (arith, length_joins)))
        (ap (λ cs. take (at cs sigs' k) sigs') all_counts ∙ pushed_all (counts ss) sigs sigs' counts_rise d k (omega (arith, length_counts)))
        w)
        (λ old. moved fs _ (take k (merges_of ss)) _ (take (at (joins ss) es k) es) _ (take (at (counts ss) sigs k) sigs)
        (ap (take k) all_merges ∙ front_pushed (merges_of ss) s.merge k (omega (arith, length_merges)))
        (ap (λ cs. take (at cs es' k) es') all_joins ∙ pushed_front (joins ss) es es' joins_rise b k (omega (arith, length_joins)))
        (ap (λ cs. take (at cs sigs' k) sigs') all_counts ∙ pushed_front (counts ss) sigs sigs' counts_rise d k (omega (arith, length_counts)))
        (kept.whole k old))
        (cases_lt (length ss) k);
  }
    where
      all_joins : joins (ss ++ s ∷ []) ≡ joins ss ++ length es ∷ []
      all_joins = map_push (λ t. t.joins) ss s ∙ ap (λ n. joins ss ++ n ∷ []) j_is

      all_counts : counts (ss ++ s ∷ []) ≡ counts ss ++ length sigs ∷ []
      all_counts = map_push (λ t. t.signatures) ss s ∙ ap (λ n. counts ss ++ n ∷ []) s_is

      all_merges : merges_of (ss ++ s ∷ []) ≡ merges_of ss ++ s.merge ∷ []
      all_merges = map_push (λ t. t.merge) ss s

  pub undone_kept : (to : ℕ) → to ≤ length ss → IsKept fs (take to ss) (take (joins_at ss es to) es) (take (signatures_at ss sigs to) sigs)
  undone_kept to inside = record {
    empty = λ e. ap (take to) (kept.empty e) ∙ take_none to;
    joins_rise = λ j k l h. subst (λ cs. at cs (take (at (joins ss) es to) es) j ≤ at cs (take (at (joins ss) es to) es) k) front_joins
        (undone_rise (joins ss) es joins_rise to (omega (arith, length_joins)) j k l (omega (arith, len, length-take-le to (joins ss) (omega (arith, length_joins)))));
    signatures_rise = λ j k l h. subst (λ cs. at cs (take (at (counts ss) sigs to) sigs) j ≤ at cs (take (at (counts ss) sigs to) sigs) k) front_counts
        (undone_rise (counts ss) sigs counts_rise to (omega (arith, length_counts)) j k l (omega (arith, len, length-take-le to (counts ss) (omega (arith, length_counts)))));
    whole = λ k h. moved fs _ (take k (merges_of ss)) _ (take (at (joins ss) es k) es) _ (take (at (counts ss) sigs k) sigs)
        (ap (take k) (sym (take-map (λ s. s.merge) to ss)) ∙ take-take k to (merges_of ss) (omega (arith, len)))
        (ap (λ cs. take (at cs (take (at (joins ss) es to) es) k) (take (at (joins ss) es to) es)) (sym front_joins) ∙ undone_front (joins ss) es joins_rise to (omega (arith, length_joins)) k (omega (arith, len)))
        (ap (λ cs. take (at cs (take (at (counts ss) sigs to) sigs) k) (take (at (counts ss) sigs to) sigs)) (sym front_counts) ∙ undone_front (counts ss) sigs counts_rise to (omega (arith, length_counts)) k (omega (arith, len)))
        (kept.whole k (omega (arith, len)));
  }
    where
      len : length (take to ss) ≡ to
      len = length-take-le to ss inside

      front_joins : take to (joins ss) ≡ joins (take to ss)
      front_joins = take-map (λ s. s.joins) to ss

      front_counts : take to (counts ss) ≡ counts (take to ss)
      front_counts = take-map (λ s. s.signatures) to ss
