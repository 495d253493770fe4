-- Merges with one more known formula, and with one less.
use Rattle.std.proofs.Common.{◌≡◌, ℕ, zero, suc, ◌+◌, ◌<◌, ◌≤◌, List, [], ◌∷◌, ◌++◌, length, take, true, Some, refl, sym, ◌∙◌, ap, subst, ⊎_elim, arith}
use Rattle.std.specs.Prelude.{slice_get, slice_index_or}
use Rattle.std.specs.List.{Contains}
use Rattle.std.proofs.lemmas.Bool.{cases_lt}
use Rattle.std.proofs.lemmas.List.{take-take, take_at, take_all, take-append-le, length-take, length-take-le, length_push}
use Rattle.std.proofs.lemmas.List.Elements.{Contains-append_cases}
use Rattle.ss_logic.specs.Terms.{Term, term_then, no_terms}
use Rattle.ss_logic.specs.Formulas.{Literal, Equal}
use Rattle.ss_terms.specs.declared.forms.TermId.{TermId}
use Rattle.ss_terms.specs.declared.forms.FormulaId.{FormulaId}
use Rattle.ss_terms.specs.Forms.{Forms, TermShape, term_at, formula_at, HasTerm}
use Rattle.ss_equality_rules.specs.declared.Merge.{Merge}
use Rattle.ss_equality_rules.specs.Equal.{IsEqual, merged, itself, back, through, applied, Equations, AreFormsOf}
use Rattle.ss_search_clashes.specs.Numbered.{AreMerged}
use Rattle.ss_logic.proofs.Lists.{contains_none, contains_split}
use Rattle.ss_search_reached.specs.Known.{AreOneName, merges_at, AreKept}

-- ---- more merges make no fewer terms equal

slice_of_take : {A : Type 0} (n k : ℕ) (xs : List A) (x : A) → slice_get (take n xs) k ≡ Some x → slice_get xs k ≡ Some x
slice_of_take zero k xs x e = cc
slice_of_take (suc n) k [] x e = e
slice_of_take (suc n) zero (y ∷ xs) x e = e
slice_of_take (suc n) (suc k) (y ∷ xs) x e = slice_of_take n k xs x e

module _ (ts : List TermShape) (ms ns : List Merge) (more : (k : ℕ) (m : Merge) → slice_get ms k ≡ Some m → slice_get ns k ≡ Some m) where
  pub more_equal : {x y : ℕ} → IsEqual ts ms x y → IsEqual ts ns x y
  more_equal (merged k m at) = merged k m (more k m at)
  more_equal (itself x) = itself x
  more_equal (back h) = back (more_equal h)
  more_equal (through h g) = through (more_equal h) (more_equal g)
  more_equal (applied f xs ys at_x at_y l h) = applied f xs ys at_x at_y l (λ i a b p q. more_equal (h i a b p q))

pub taken_equal : (ts : List TermShape) (n : ℕ) (ms : List Merge) {x y : ℕ} → IsEqual ts (take n ms) x y → IsEqual ts ms x y
taken_equal ts n ms h = more_equal ts (take n ms) ms (λ k m e. slice_of_take n k ms m e) h

pub begun_equal : (ts : List TermShape) (ms ns : List Merge) → take (length ms) ns ≡ ms → {x y : ℕ} → IsEqual ts ms x y → IsEqual ts ns x y
begun_equal ts ms ns e {x} {y} h = taken_equal ts (length ms) ns (subst (λ ks. IsEqual ts ks x y) (sym e) h)

-- ---- merged sides

pub last_merged : (ts : List TermShape) (ms ns : List Merge) (m : Merge) → ns ≡ ms ++ m ∷ [] → IsEqual ts ns m.left.0 m.right.0
last_merged ts ms ns m e = merged (length ms) m (ap (λ ks. slice_get ks (length ms)) e ∙ at_end ms)
  where
    at_end : (ks : List Merge) → slice_get (ks ++ m ∷ []) (length ks) ≡ Some m
    at_end [] = refl
    at_end (k ∷ ks) = at_end ks

pub push_begins : (ms ns : List Merge) (m : Merge) → ns ≡ ms ++ m ∷ [] → take (length ms) ns ≡ ms
push_begins ms ns m e = ap (take (length ms)) e ∙ take_at ms (m ∷ []) (length ms) refl

single : {A : Type 0} (x y : A) → Contains (x ∷ []) y → x ≡ y
single x y h = ⊎_elim (λ e. e) (λ k. absurd (contains_none y k)) (contains_split x [] y h)

module _ (b : Forms) (ts : List TermShape) (ms : List Merge) where
  pub merged_none : AreMerged b ts ms []
  merged_none f c x y e = absurd (contains_none f c)

  pub merged_sides : (f : FormulaId) (s t : TermId) → HasTerm b s → HasTerm b t → formula_at b f ≡ Literal true Equal (term_then (term_at b s) (term_then (term_at b t) no_terms)) → IsEqual ts ms s.0 t.0 → AreMerged b ts ms (f ∷ [])
  merged_sides f s t hs ht is equal g c x y e =
      let both : Literal true Equal (term_then (term_at b s) (term_then (term_at b t) no_terms)) ≡ Literal true Equal (term_then x (term_then y no_terms)) = sym is ∙ ap (formula_at b) (single f g c) ∙ e in
      let left : term_at b s ≡ x = cc in
      let right : term_at b t ≡ y = cc in
      (s, t, hs, ht, left, right, equal)

  pub merged_other : (f : FormulaId) → ((x y : Term) → formula_at b f ≡ Literal true Equal (term_then x (term_then y no_terms)) → ⊥) → AreMerged b ts ms (f ∷ [])
  merged_other f none g c x y e = absurd (none x y (ap (formula_at b) (single f g c) ∙ e))

  pub merged_append : (fs gs : List FormulaId) → AreMerged b ts ms fs → AreMerged b ts ms gs → AreMerged b ts ms (fs ++ gs)
  merged_append fs gs h k f c x y e = ⊎_elim (λ a. h f a x y e) (λ a. k f a x y e) (Contains-append_cases fs gs f c)

  pub merged_cons : (f : FormulaId) (fs : List FormulaId) → AreMerged b ts ms (f ∷ []) → AreMerged b ts ms fs → AreMerged b ts ms (f ∷ fs)
  merged_cons f fs h k = merged_append (f ∷ []) fs h k

pub more_merged : (b : Forms) (ts : List TermShape) (ms ns : List Merge) (fs : List FormulaId) → take (length ms) ns ≡ ms → AreMerged b ts ms fs → AreMerged b ts ns fs
more_merged b ts ms ns fs e h f c x y is = let r = h f c x y is in (r.0, r.1, r.2, r.3, r.4, r.5, begun_equal ts ms ns e r.6)

-- ---- counts of merges

pub at_push : (counts : List ℕ) (n d k : ℕ) → k ≤ length counts → slice_index_or (counts ++ n ∷ []) k d ≡ slice_index_or counts k n
at_push [] n d zero h = refl
at_push [] n d (suc k) h = absurd (omega (arith, h))
at_push (c ∷ cs) n d zero h = refl
at_push (c ∷ cs) n d (suc k) h = at_push cs n d k (omega (arith, h))

past_push : (counts : List ℕ) (n d k : ℕ) → length counts < k → slice_index_or (counts ++ n ∷ []) k d ≡ d
past_push [] n d zero h = absurd (omega (arith, h))
past_push [] n d (suc k) h = refl
past_push (c ∷ cs) n d zero h = absurd (omega (arith, h))
past_push (c ∷ cs) n d (suc k) h = past_push cs n d k (omega (arith, h))

pub at_length : (counts : List ℕ) (d : ℕ) → slice_index_or counts (length counts) d ≡ d
at_length [] d = refl
at_length (c ∷ cs) d = at_length cs d

begins_long : (ms ns : List Merge) → take (length ms) ns ≡ ms → length ms ≤ length ns
begins_long ms ns e = let l = sym (length-take (length ms) ns) ∙ ap length e in omega (arith, l)

module _ (b : Forms) (known : List FormulaId) (counts : List ℕ) (s : Equations) (kept : AreKept b known counts s) where
  abbrev pub at : ℕ → ℕ
  at k = merges_at counts s.merges k

  pub at_now : at (length known) ≡ length s.merges
  at_now = ap at (sym kept.long) ∙ at_length counts (length s.merges)

  at_most : (k : ℕ) → k ≤ length known → at k ≤ length s.merges
  at_most k h = let r = kept.rise k (length known) h (omega arith) in omega (arith, r, at_now)

  -- all known equalities are merged
  pub all_merged : AreMerged b s.terms s.merges known
  all_merged = subst (λ fs. AreMerged b s.terms s.merges fs) (take_all (length known) known (omega arith))
      (subst (λ ms. AreMerged b s.terms ms (take (length known) known)) (ap (λ n. take n s.merges) at_now ∙ take_all (length s.merges) s.merges (omega arith)) (kept.merged (length known) (omega arith)))

  pub all_names : AreOneName b s.terms s.merges
  all_names x y hx hy nx ny = taken_equal s.terms (at 0) s.merges (kept.names x y hx hy nx ny)

  -- one more is known
  module _ (f : FormulaId) (s' : Equations) (terms : s'.terms ≡ s.terms) (begins : take (length s.merges) s'.merges ≡ s.merges) (last : AreMerged b s'.terms s'.merges (f ∷ [])) where
    abbrev at' : ℕ → ℕ
    at' k = merges_at (counts ++ length s.merges ∷ []) s'.merges k

    at_before : (k : ℕ) → k ≤ length known → at' k ≡ at k
    at_before k h = at_push counts (length s.merges) (length s'.merges) k (let l = kept.long in omega (arith, h, l))

    at_last : (k : ℕ) → length known < k → at' k ≡ length s'.merges
    at_last k h = past_push counts (length s.merges) (length s'.merges) k (let l = kept.long in omega (arith, h, l))

    taken : (k : ℕ) → k ≤ length known → take (at' k) s'.merges ≡ take (at k) s.merges
    taken k h = ap (λ n. take n s'.merges) (at_before k h) ∙ sym (take-take (at k) (length s.merges) s'.merges (at_most k h)) ∙ ap (take (at k)) begins

    rises : (j k : ℕ) → j ≤ k → k ≤ length (known ++ f ∷ []) → at' j ≤ at' k
    rises j k h l = ⊎_elim
        (λ past. ⊎_elim
        (λ also. let p = at_last j also in let q = at_last k past in omega (arith, p, q))
        (λ before. let p = at_before j before in let q = at_last k past in let m = at_most j before in let n = begins_long s.merges s'.merges begins in omega (arith, p, q, m, n))
        (cases_lt (length known) j))
        (λ within. let p = at_before j (omega (arith, h, within)) in let q = at_before k within in let r = kept.rise j k h within in omega (arith, p, q, r))
        (cases_lt (length known) k)

    all_of_more : AreMerged b s'.terms s'.merges (known ++ f ∷ [])
    all_of_more = merged_append b s'.terms s'.merges known (f ∷ [])
        (subst (λ ts. AreMerged b ts s'.merges known) (sym terms) (more_merged b s.terms s.merges s'.merges known begins all_merged))
        last

    merged_more : (k : ℕ) → k ≤ length (known ++ f ∷ []) → AreMerged b s'.terms (take (at' k) s'.merges) (take k (known ++ f ∷ []))
    merged_more k l = ⊎_elim
        (λ past.
        let long = length_push known f in
        subst (λ ms. AreMerged b s'.terms ms (take k (known ++ f ∷ []))) (sym (ap (λ n. take n s'.merges) (at_last k past) ∙ take_all (length s'.merges) s'.merges (omega arith)))
        (subst (AreMerged b s'.terms s'.merges) (sym (take_all k (known ++ f ∷ []) (omega (arith, long, past)))) all_of_more))
        (λ within.
        subst (λ ms. AreMerged b s'.terms ms (take k (known ++ f ∷ []))) (sym (taken k within))
        (subst (λ fs. AreMerged b s'.terms (take (at k) s.merges) fs) (sym (take-append-le k known (f ∷ []) within))
        (subst (λ ts. AreMerged b ts (take (at k) s.merges) (take k known)) (sym terms) (kept.merged k within))))
        (cases_lt (length known) k)

    pub kept_more : AreKept b (known ++ f ∷ []) (counts ++ length s.merges ∷ []) s'
    kept_more = record {
      forms = subst (AreFormsOf b) (sym terms) kept.forms;
      long = let l = kept.long in omega (arith, l, length_push known f, length_push counts (length s.merges));
      rise = rises;
      merged = merged_more;
      names = subst (λ ms. AreOneName b s'.terms ms) (sym (taken 0 (omega arith))) (subst (λ ts. AreOneName b ts (take (at 0) s.merges)) (sym terms) kept.names);
    }

-- one less is known
module _ (b : Forms) (known : List FormulaId) (f : FormulaId) (counts : List ℕ) (n : ℕ) (s : Equations) (kept : AreKept b (known ++ f ∷ []) (counts ++ n ∷ []) s) where
  abbrev pub was : ℕ → ℕ
  was k = merges_at (counts ++ n ∷ []) s.merges k

  pub as_long : length counts ≡ length known
  as_long = let l = kept.long in omega (arith, l, length_push known f, length_push counts n)

  pub was_last : was (length known) ≡ n
  was_last = ap was (sym as_long) ∙ at_push counts n (length s.merges) (length counts) (omega arith) ∙ at_length counts n

  before_last : (k : ℕ) → k ≤ length known → was k ≤ n
  before_last k h = let r = kept.rise k (length known) h (omega (arith, length_push known f)) in omega (arith, r, was_last)

  pub few_merges : n ≤ length s.merges
  few_merges =
      let r = kept.rise (length known) (suc (length known)) (omega arith) (omega (arith, length_push known f)) in
      let p = past_push counts n (length s.merges) (suc (length known)) (omega (arith, as_long)) in
      omega (arith, r, p, was_last)

  module _ (s' : Equations) (terms : s'.terms ≡ s.terms) (merges : s'.merges ≡ take n s.merges) where
    as_many : length s'.merges ≡ n
    as_many = ap length merges ∙ length-take-le n s.merges few_merges

    at_same : (k : ℕ) → k ≤ length known → merges_at counts s'.merges k ≡ was k
    at_same k h = ap (λ d. slice_index_or counts k d) as_many ∙ sym (at_push counts n (length s.merges) k (omega (arith, h, as_long)))

    taken_same : (k : ℕ) → k ≤ length known → take (merges_at counts s'.merges k) s'.merges ≡ take (was k) s.merges
    taken_same k h = ap (λ j. take j s'.merges) (at_same k h) ∙ ap (take (was k)) merges ∙ take-take (was k) n s.merges (before_last k h)

    pub kept_less : AreKept b known counts s'
    kept_less = record {
      forms = subst (AreFormsOf b) (sym terms) kept.forms;
      long = as_long;
      rise = λ j k h l.
          let r = kept.rise j k h (omega (arith, l, length_push known f)) in
          let p = at_same j (omega (arith, h, l)) in
          let q = at_same k l in
          omega (arith, r, p, q);
      merged = λ k l.
          subst (λ ms. AreMerged b s'.terms ms (take k known)) (sym (taken_same k l))
          (subst (λ fs. AreMerged b s'.terms (take (was k) s.merges) fs) (take-append-le k known (f ∷ []) l)
          (subst (λ ts. AreMerged b ts (take (was k) s.merges) (take k (known ++ f ∷ []))) (sym terms) (kept.merged k (omega (arith, l, length_push known f)))));
      names = subst (λ ms. AreOneName b s'.terms ms) (sym (taken_same 0 (omega arith))) (subst (λ ts. AreOneName b ts (take (was 0) s.merges)) (sym terms) kept.names);
    }
