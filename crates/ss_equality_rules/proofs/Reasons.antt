-- What is told of why two terms are equal suffices.
use Rattle.std.proofs.Common.{◌≡◌, ◌≢◌, ℕ, zero, suc, ◌<◌, ◌≤◌, List, [], ◌∷◌, ◌++◌, length, take, Bool, true, false, ◌||◌, cond, eqb, Option, Some, None, refl, sym, ◌∙◌, ap, subst, inl, inr, ◌⊎◌, ⊎_elim, arith, set}
use Rattle.std.specs.Prelude.{slice_get}
use Rattle.std.specs.List.{list_any}
use Rattle.std.proofs.lemmas.Bool.{cases_lt, eq-eqb}
use Rattle.ss_terms.specs.declared.forms.TermId.{TermId}
use Rattle.ss_terms.specs.Forms.{TermShape}
use Rattle.ss_equality_rules.specs.declared.Merge.{Merge}
use Rattle.ss_equality_rules.specs.declared.Join.{Join}
use Rattle.ss_equality_rules.specs.declared.Pair.{Pair}
use Rattle.ss_equality_rules.specs.Equal.{IsEqual, merged, itself, back, through, applied, with_reasons}
use Rattle.ss_equality_rules.specs.Names.{Has, name, named, IsLog}
use Rattle.ss_equality_rules.specs.Whole.{AreCongruent, IsMergeOf, IsCause, AreCaused}
use Rattle.ss_equality_rules.specs.Reasons.{Holds, Follow, Rests, Tells, TellsBeside, IsWhyTold}
use Rattle.ss_equality_rules.proofs.Lists.{has_left, has_last, has_first, has_more, has_cases, has_none, maps_length, maps_at}
use Rattle.ss_equality_rules.proofs.Names.{stays_equal_to, whole_log}
use Rattle.ss_equality_rules.proofs.Equal.{names_of}

-- ---- fewer open pairs

-- each pair of the one list is in the other
abbrev AreAmong : List Pair → List Pair → Type 0
AreAmong ps qs = (p : Pair) → Has ps p → Has qs p

module _ (fs : List TermShape) (ms : List Merge) (es : List Join) (told : List Bool) (reasons : List ℕ) where
  pub tells_among : (ps qs : List Pair) → AreAmong ps qs → Tells fs ms es ps qs told told reasons reasons
  tells_among ps qs among = record {
    tells = λ x y r. record {
      joins = λ ms' h m f. r.joins ms' h m (record { follow = λ p k. f.follow p (among p k) });
      sides = λ ms' h m f. r.sides ms' h m (record { follow = λ p k. f.follow p (among p k) });
    };
  }

  -- a pair of one term needs no reason
  pub tells_itself : (ps : List Pair) (p : Pair) → p.left ≡ p.right → Tells fs ms es (p ∷ ps) ps told told reasons reasons
  tells_itself ps p same = record {
    tells = λ x y r. record {
      joins = λ ms' h m f. r.joins ms' h m (all ms' m f);
      sides = λ ms' h m f. r.sides ms' h m (all ms' m f);
    };
  }
    where
      all : (ms' : List Merge) (m : ℕ) → Follow fs ms' es ps m → Follow fs ms' es (p ∷ ps) m
      all ms' m f = record {
        follow = λ q k e. ⊎_elim
            (λ a. f.follow q a e)
            (λ is. subst (λ z. IsEqual fs ms' z.left z.right) is (subst (λ b. IsEqual fs ms' p.left b) same (itself p.left)))
            (has_cases p ps q k);
      }

  -- a pair follows from the join at which its classes became one, and from two pairs that were equal before
  module _ (n : ℕ) (log : IsLog n es) (ps : List Pair) (p near far : Pair) (j : ℕ) (e : Join) (at : slice_get es j ≡ Some e) (is_told : slice_get told j ≡ Some true)
      (apart : name (take j es) p.left ≢ name (take j es) p.right)
      (near_same : name (take j es) near.left ≡ name (take j es) near.right)
      (far_same : name (take j es) far.left ≡ name (take j es) far.right)
      (ends : (near.left ≡ p.left) × (far.right ≡ p.right) × (((near.right ≡ e.left) × (far.left ≡ e.right)) ⊎ ((near.right ≡ e.right) × (far.left ≡ e.left)))) where
    pub tells_parts : Tells fs ms es (p ∷ ps) ((ps ++ near ∷ []) ++ far ∷ []) told told reasons reasons
    tells_parts = record {
      tells = λ x y r. record {
        joins = λ ms' h m f. r.joins ms' h m (all x y r ms' h m f);
        sides = λ ms' h m f. r.sides ms' h m (all x y r ms' h m f);
      };
    }
      where
        has_near : Has ((ps ++ near ∷ []) ++ far ∷ []) near
        has_near = has_left (ps ++ near ∷ []) (far ∷ []) near (has_last ps near)

        has_far : Has ((ps ++ near ∷ []) ++ far ∷ []) far
        has_far = has_last (ps ++ near ∷ []) far

        has_old : (q : Pair) → Has ps q → Has ((ps ++ near ∷ []) ++ far ∷ []) q
        has_old q k = has_left (ps ++ near ∷ []) (far ∷ []) q (has_left ps (near ∷ []) q k)

        -- before the join the pair isn't equal, so the older pairs alone say why the join's terms are
        earlier_follow : (ms' : List Merge) (m : ℕ) → j ≤ m → Follow fs ms' es ((ps ++ near ∷ []) ++ far ∷ []) m → Follow fs ms' es (p ∷ ps) j
        earlier_follow ms' m l f = record {
          follow = λ q k e. ⊎_elim
              (λ a. f.follow q (has_old q a) (stays_equal_to es j m q.left q.right l e))
              (λ is. absurd (apart (ap (λ z. name (take j es) z.left) is ∙ e ∙ ap (λ z. name (take j es) z.right) (sym is))))
              (has_cases p ps q k);
        }

        join_equal : (x y : ℕ) → Rests fs ms es x y (p ∷ ps) told reasons → (ms' : List Merge) → Holds fs reasons ms ms' → (m : ℕ) → j ≤ m → Follow fs ms' es ((ps ++ near ∷ []) ++ far ∷ []) m → IsEqual fs ms' e.left e.right
        join_equal x y r ms' h m l f = r.joins ms' h j (earlier_follow ms' m l f) j e at is_told (omega arith)

        pair_equal : (ms' : List Merge) → IsEqual fs ms' near.left near.right → IsEqual fs ms' far.left far.right → IsEqual fs ms' e.left e.right → IsEqual fs ms' p.left p.right
        pair_equal ms' a b c =
            subst (λ z. IsEqual fs ms' z p.right) ends.0 (subst (λ z. IsEqual fs ms' near.left z) ends.1 (through a (through (⊎_elim
            (λ s. subst (λ z. IsEqual fs ms' z far.left) (sym s.0) (subst (λ z. IsEqual fs ms' e.left z) (sym s.1) c))
            (λ s. subst (λ z. IsEqual fs ms' z far.left) (sym s.0) (subst (λ z. IsEqual fs ms' e.right z) (sym s.1) (back c)))
            ends.2) b)))

        all : (x y : ℕ) → Rests fs ms es x y (p ∷ ps) told reasons → (ms' : List Merge) → Holds fs reasons ms ms' → (m : ℕ) → Follow fs ms' es ((ps ++ near ∷ []) ++ far ∷ []) m → Follow fs ms' es (p ∷ ps) m
        all x y r ms' h m f = record {
          follow = λ q k e. ⊎_elim
              (λ a. f.follow q (has_old q a) e)
              (λ is. subst (λ z. IsEqual fs ms' z.left z.right) is (⊎_elim
              (λ late. pair_equal ms'
              (f.follow near has_near (stays_equal_to es j m near.left near.right (omega (arith, late)) near_same))
              (f.follow far has_far (stays_equal_to es j m far.left far.right (omega (arith, late)) far_same))
              (join_equal x y r ms' h m (omega (arith, late)) f))
              (λ early. absurd (apart (stays_equal_to es m j p.left p.right early (ap (λ z. name (take m es) z.left) is ∙ e ∙ ap (λ z. name (take m es) z.right) (sym is)))))
              (cases_lt j m)))
              (has_cases p ps q k);
        }

-- ---- one more join is told of

told_cases : (told : List Bool) (j i : ℕ) → slice_get (set told j true) i ≡ Some true → (i ≡ j) ⊎ (slice_get told i ≡ Some true)
told_cases [] j i h = inr h
told_cases (b ∷ told) zero zero h = inl refl
told_cases (b ∷ told) zero (suc i) h = inr h
told_cases (b ∷ told) (suc j) zero h = inr h
told_cases (b ∷ told) (suc j) (suc i) h = ⊎_elim (λ a. inl (ap suc a)) (λ a. inr a) (told_cases told j i h)

pub now_told : (told : List Bool) (j : ℕ) → j < length told → slice_get (set told j true) j ≡ Some true
now_told [] j h = absurd (omega arith)
now_told (b ∷ told) zero h = refl
now_told (b ∷ told) (suc j) h = now_told told j (omega arith)

module _ (fs : List TermShape) (ms : List Merge) (es : List Join) (told : List Bool) (j : ℕ) (e : Join) (at : slice_get es j ≡ Some e) where
  -- the terms of a join follow where these pairs do
  one_more : (ps qs : List Pair) (reasons reasons' : List ℕ) → AreAmong ps qs → ((b : ℕ) → Has reasons b → Has reasons' b) →
      ((ms' : List Merge) → Holds fs reasons' ms ms' → (m : ℕ) → j ≤ m → Follow fs ms' es qs m → IsEqual fs ms' e.left e.right) →
      Tells fs ms es ps qs told (set told j true) reasons reasons'
  one_more ps qs reasons reasons' among more follows = record {
    tells = λ x y r. record {
      joins = λ ms' h m f i d at_d is_told l. ⊎_elim
          (λ here. subst (λ z. IsEqual fs ms' z.left z.right) (one i d here at_d) (follows ms' h m (omega (arith, here, l)) f))
          (λ old. r.joins ms' (fewer ms' h) m (record { follow = λ p k. f.follow p (among p k) }) i d at_d old l)
          (told_cases told j i is_told);
      sides = λ ms' h m f. r.sides ms' (fewer ms' h) m (record { follow = λ p k. f.follow p (among p k) });
    };
  }
    where
      fewer : (ms' : List Merge) → Holds fs reasons' ms ms' → Holds fs reasons ms ms'
      fewer ms' h = record { holds = λ k m a b. h.holds k m a (more m.because b) }

      one : (i : ℕ) (d : Join) → i ≡ j → slice_get es i ≡ Some d → e ≡ d
      one i d here at_d = let both : Some e ≡ Some d = sym at ∙ ap (slice_get es) (sym here) ∙ at_d in cc

  -- by a merge, whose reason is told
  pub told_merge : (ps : List Pair) (reasons : List ℕ) (k : ℕ) (m : Merge) → e.why ≡ Some k → slice_get ms k ≡ Some m → IsCause fs ms (take j es) e.left e.right e.why →
      Tells fs ms es ps ps told (set told j true) reasons (reasons ++ m.because ∷ [])
  told_merge ps reasons k m why at_m cause = one_more ps ps reasons (reasons ++ m.because ∷ []) (λ p h. h) (λ b h. has_left reasons (m.because ∷ []) b h)
      (λ ms' h so_many l f. by ms' (h.holds k m at_m (has_last reasons m.because)) (subst (IsCause fs ms (take j es) e.left e.right) why cause))
    where
      by : (ms' : List Merge) → IsEqual fs ms' m.left.0 m.right.0 → IsMergeOf ms e.left e.right k → IsEqual fs ms' e.left e.right
      by ms' q c =
          let same : c.merge ≡ m = let both : Some c.merge ≡ Some m = sym c.at ∙ at_m in cc in
          ⊎_elim
          (λ s. subst (λ a. IsEqual fs ms' a e.right) (ap (λ z. z.left.0) (sym same) ∙ s.0) (subst (λ b. IsEqual fs ms' m.left.0 b) (ap (λ z. z.right.0) (sym same) ∙ s.1) q))
          (λ s. back (subst (λ a. IsEqual fs ms' a e.left) (ap (λ z. z.left.0) (sym same) ∙ s.0) (subst (λ b. IsEqual fs ms' m.left.0 b) (ap (λ z. z.right.0) (sym same) ∙ s.1) q)))
          c.sides

  -- by congruence, where the pairs of arguments are open
  pub told_arguments : (ps qs : List Pair) (reasons : List ℕ) → e.why ≡ None → IsCause fs ms (take j es) e.left e.right e.why → AreAmong ps qs →
      ((c : AreCongruent fs (take j es) e.left e.right) (i : ℕ) (a b : TermId) → slice_get c.lefts i ≡ Some a → slice_get c.rights i ≡ Some b → (p : Pair) × (Has qs p) × (p.left ≡ a.0) × (p.right ≡ b.0)) →
      Tells fs ms es ps qs told (set told j true) reasons reasons
  told_arguments ps qs reasons why cause among pairs = one_more ps qs reasons reasons among (λ b h. h)
      (λ ms' h so_many l f. by ms' so_many l f (subst (IsCause fs ms (take j es) e.left e.right) why cause))
    where
      by : (ms' : List Merge) (m : ℕ) → j ≤ m → Follow fs ms' es qs m → AreCongruent fs (take j es) e.left e.right → IsEqual fs ms' e.left e.right
      by ms' m l f c = applied c.function c.lefts c.rights c.left c.right (maps_length (named (take j es)) c.lefts c.rights c.same) (λ i a b p q.
          let o = pairs c i a b p q in
          let same : name (take j es) a.0 ≡ name (take j es) b.0 = names_of (take j es) a b (maps_at (named (take j es)) c.lefts c.rights c.same i a b p q) in
          let equal : IsEqual fs ms' o.0.left o.0.right = f.follow o.0 o.1 (ap (name (take m es)) o.2 ∙ stays_equal_to es j m a.0 b.0 l same ∙ ap (name (take m es)) (sym o.3)) in
          subst (λ z. IsEqual fs ms' z b.0) o.2 (subst (λ z. IsEqual fs ms' o.0.left z) o.3 equal))

-- in either way
pub told_why : (fs : List TermShape) (ms : List Merge) (es : List Join) (told : List Bool) (j : ℕ) (e : Join) (ps qs : List Pair) (reasons reasons' : List ℕ) →
    slice_get es j ≡ Some e → AreCaused fs ms es → IsWhyTold fs ms e ps qs reasons reasons' → TellsBeside fs ms es ps qs told (set told j true) reasons reasons'
told_why fs ms es told j e ps qs reasons reasons' at caused w = record { tells = λ p. by p e.why refl }
  where
    cause : IsCause fs ms (take j es) e.left e.right e.why
    cause = caused.cause j e at

    beside : (p : Pair) → AreAmong (p ∷ ps) (p ∷ qs)
    beside p q h = ⊎_elim (λ a. has_more p qs q (w.among q a)) (λ is. subst (λ z. Has (p ∷ qs) z) is (has_first p qs)) (has_cases p ps q h)

    by : (p : Pair) (why : Option ℕ) → e.why ≡ why → Tells fs ms es (p ∷ ps) (p ∷ qs) told (set told j true) reasons reasons'
    by p (Some k) is =
        let c : IsMergeOf ms e.left e.right k = subst (IsCause fs ms (take j es) e.left e.right) is cause in
        let both = w.by_merge k c.merge is c.at in
        subst (λ xs. Tells fs ms es (p ∷ ps) (p ∷ xs) told (set told j true) reasons reasons') (sym both.0)
        (subst (λ rs. Tells fs ms es (p ∷ ps) (p ∷ ps) told (set told j true) reasons rs) (sym both.1)
        (told_merge fs ms es told j e at (p ∷ ps) reasons k c.merge is c.at cause))
    by p None is =
        subst (λ rs. Tells fs ms es (p ∷ ps) (p ∷ qs) told (set told j true) reasons rs) (sym (w.by_arguments is))
        (told_arguments fs ms es told j e at (p ∷ ps) (p ∷ qs) reasons is cause (beside p)
        (λ c i a b x y.
        let o = (w.arguments c.function c.function c.lefts c.rights is c.left c.right).pair i a b x y in
        (o.0, has_more p qs o.0 o.1, o.2, o.3)))

-- ---- the first and the last state

pub nothing_told : (fs : List TermShape) (ms : List Merge) (es : List Join) (x y : ℕ) (p : Pair) (told : List Bool) → p.left ≡ x → p.right ≡ y →
    ((j : ℕ) → slice_get told j ≡ Some true → ⊥) → Rests fs ms es x y (p ∷ []) told []
nothing_told fs ms es x y p told left right none = record {
  joins = λ ms' h m f j e at is_told l. absurd (none j is_told);
  sides = λ ms' h m f same.
      subst (λ a. IsEqual fs ms' a y) left (subst (λ b. IsEqual fs ms' p.left b) right
      (f.follow p (has_first p []) (ap (name (take m es)) left ∙ same ∙ ap (name (take m es)) (sym right))));
}

or_true : (a c : Bool) → c ≡ true → (a || c) ≡ true
or_true true c h = refl
or_true false c h = h

any_has : (reasons : List ℕ) (b : ℕ) → Has reasons b → list_any (λ r. eqb r b) reasons ≡ true
any_has reasons b h = by reasons h.at h.is
  where
    by : (rs : List ℕ) (k : ℕ) → slice_get rs k ≡ Some b → list_any (λ r. eqb r b) rs ≡ true
    by [] k e = cc
    by (r ∷ rs) zero e = let same : r ≡ b = cc in ap (λ t. t || list_any (λ z. eqb z b) rs) (eq-eqb r b same)
    by (r ∷ rs) (suc k) e = or_true (eqb r b) (list_any (λ z. eqb z b) rs) (by rs k e)

with_reasons_has : (reasons : List ℕ) (ms : List Merge) (k : ℕ) (m : Merge) → slice_get ms k ≡ Some m → Has reasons m.because → Has (with_reasons reasons ms) m
with_reasons_has reasons [] k m at h = cc
with_reasons_has reasons (d ∷ ms) zero m at h =
    let same : d ≡ m = cc in
    let is : list_any (λ r. eqb r d.because) reasons ≡ true = any_has reasons d.because (subst (λ z. Has reasons z.because) (sym same) h) in
    subst (λ b. Has (cond b (d ∷ with_reasons reasons ms) (with_reasons reasons ms)) m) (sym is) (subst (λ z. Has (d ∷ with_reasons reasons ms) z) same (has_first d (with_reasons reasons ms)))
with_reasons_has reasons (d ∷ ms) (suc k) m at h = by (list_any (λ r. eqb r d.because) reasons) (with_reasons_has reasons ms k m at h)
  where
    by : (b : Bool) → Has (with_reasons reasons ms) m → Has (cond b (d ∷ with_reasons reasons ms) (with_reasons reasons ms)) m
    by true g = has_more d (with_reasons reasons ms) m g
    by false g = g

pub all_told : (fs : List TermShape) (ms : List Merge) (es : List Join) (x y : ℕ) (told : List Bool) (reasons : List ℕ) → Rests fs ms es x y [] told reasons → name es x ≡ name es y → IsEqual fs (with_reasons reasons ms) x y
all_told fs ms es x y told reasons r same = r.sides (with_reasons reasons ms)
    (record { holds = λ k m at h. let c = with_reasons_has reasons ms k m at h in merged c.at m c.is })
    (length es)
    (record { follow = λ p k. absurd (has_none p k) })
    (whole_log es x ∙ same ∙ sym (whole_log es y))
