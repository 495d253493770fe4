-- Origins of a list with one formula more.
use Rattle.std.proofs.Common.{◌≡◌, ℕ, ◌+◌, ◌≤◌, List, [], ◌∷◌, ◌++◌, length, take, Bool, true, false, Some, refl, sym, ◌∙◌, ap, subst, inl, inr, ◌⊎◌, ⊎_elim, arith, length-append}
use Rattle.std.specs.Prelude.{slice_get, if◌then◌else◌}
use Rattle.std.specs.List.{Contains, list_any}
use Rattle.std.proofs.lemmas.List.{take-append-le, take_all}
use Rattle.std.proofs.lemmas.Option.{slice_get_within}
use Rattle.ss_core.specs.Tree.{ClassTree}
use Rattle.ss_logic.specs.Terms.{Term}
use Rattle.ss_logic.specs.Formulas.{Formula, Forall}
use Rattle.ss_logic.specs.Equal.{same_formula}
use Rattle.ss_logic_means.proofs.Standing.{get_either}
use Rattle.ss_logic.specs.Occurring.{with_formula, with_formulas, quantified_in}
use Rattle.ss_logic.specs.Includes.{Includes}
use Rattle.ss_logic.proofs.Occurring.{to_formulas, collected_of_more}
use Rattle.ss_logic_means.specs.Origins.{Choice, Origin, IsInstance, IsOrigin, AreOrigins}
use Rattle.ss_logic_means.proofs.Formed.{each_formed, all_formed}

-- ---- one more

module _ (cs : List ClassTree) (premises : List Formula) (goal : Formula) (choices : List Choice) where
  pub no_origins : AreOrigins cs premises goal choices [] []
  no_origins = record { count = refl; each = λ k f o e g. absurd (let no : ⊥ = cc in no) }

  pub one_origin_more : (fs : List Formula) (os : List Origin) (f : Formula) (o : Origin) → AreOrigins cs premises goal choices fs os → IsOrigin cs premises goal choices fs o f → AreOrigins cs premises goal choices (fs ++ f ∷ []) (os ++ o ∷ [])
  one_origin_more fs os f o h is = record {
    count = let n = h.count in omega (arith, n, length-append fs (f ∷ []), length-append os (o ∷ []));
    each = λ k g p e i. ⊎_elim
        (λ old. old_one k g p old (get_either os o k p i))
        (λ last. new_one k g p last.0 last.1 (get_either os o k p i))
        (get_either fs f k g e);
  }
    where
      old_one : (k : ℕ) (g : Formula) (p : Origin) → slice_get fs k ≡ Some g → (slice_get os k ≡ Some p) ⊎ ((k ≡ length os) × (o ≡ p)) → IsOrigin cs premises goal choices (take k (fs ++ f ∷ [])) p g
      old_one k g p e (inl i) =
          let l = slice_get_within fs k g e in
          subst (λ (xs : List Formula). IsOrigin cs premises goal choices xs p g) (sym (take-append-le k fs (f ∷ []) (omega (arith, l)))) (h.each k g p e i)
      old_one k g p e (inr i) = let l = slice_get_within fs k g e in let n = h.count in let at = i.0 in absurd (omega (arith, l, n, at))

      new_one : (k : ℕ) (g : Formula) (p : Origin) → k ≡ length fs → f ≡ g → (slice_get os k ≡ Some p) ⊎ ((k ≡ length os) × (o ≡ p)) → IsOrigin cs premises goal choices (take k (fs ++ f ∷ [])) p g
      new_one k g p at e (inl i) = let l = slice_get_within os k p i in let n = h.count in absurd (omega (arith, l, n, at))
      new_one k g p at e (inr i) =
          let l : k ≤ length fs = omega (arith, at) in
          let whole : take k (fs ++ f ∷ []) ≡ fs = take-append-le k fs (f ∷ []) l ∙ take_all k fs (omega (arith, at)) in
          subst (λ (xs : List Formula). IsOrigin cs premises goal choices xs p g) (sym whole)
          (subst (λ (x : Formula). IsOrigin cs premises goal choices fs p x) e (subst (λ (q : Origin). IsOrigin cs premises goal choices fs q f) i.1 is))

-- ---- a list that grows

pub not_new : (fs gs : List Formula) (f : Formula) → gs ≡ with_formula fs f → length gs ≡ length fs → gs ≡ fs
not_new fs gs f e n = by (list_any (same_formula f) fs) e
  where
    by : (b : Bool) → gs ≡ (if b then fs else fs ++ f ∷ []) → gs ≡ fs
    by true e = e
    by false e = absurd (let m = ap length e in omega (arith, n, m, length-append fs (f ∷ [])))

pub is_new : (fs gs : List Formula) (f : Formula) → gs ≡ with_formula fs f → (length gs ≡ length fs → ⊥) → gs ≡ fs ++ f ∷ []
is_new fs gs f e n = by (list_any (same_formula f) fs) e
  where
    by : (b : Bool) → gs ≡ (if b then fs else fs ++ f ∷ []) → gs ≡ fs ++ f ∷ []
    by true e = absurd (n (ap length e))
    by false e = e

pub with_includes : (fs xs : List Formula) → Includes (with_formulas fs xs) fs
with_includes fs xs f c = to_formulas xs fs f (inl c)

pub instance_in_more : (cs : List ClassTree) (fs gs : List Formula) (w : Formula) (ts : List Term) (f : Formula) → Includes gs fs → IsInstance cs fs w ts f → IsInstance cs gs w ts f
instance_in_more cs fs gs (Forall ss g) ts f i h = (collected_of_more quantified_in fs gs i (Forall ss g) h.0, h.1, λ k. h.2 (all_formed cs [] fs (λ x c. each_formed cs [] gs k x (i x c))))
instance_in_more cs fs gs w ts f i h = absurd h
