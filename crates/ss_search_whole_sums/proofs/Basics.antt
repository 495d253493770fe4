-- Literals and quantified formulas among formulas, and their places.
use Rattle.std.proofs.Common.{◌≡◌, ℕ, zero, suc, ◌+◌, ◌<◌, ◌≤◌, List, [], ◌∷◌, ◌++◌, length, get_or, take, Bool, true, false, cond, Some, refl, sym, ◌∙◌, ap, arith}
use Rattle.std.specs.Prelude.{slice_get, if◌then◌else◌}
use Rattle.std.proofs.lemmas.Option.{slice_get_within, slice_get-get_or}
use Rattle.std.proofs.lemmas.List.{take_all}
use Rattle.std.proofs.lemmas.List.Elements.{filter_more}
use Rattle.ss_core.specs.Tree.{ClassTree}
use Rattle.ss_logic.specs.Formulas.{Formula, is_well_formed}
use Rattle.ss_logic_means.specs.Sorts.{AreWellFormed}
use Rattle.ss_terms.specs.declared.forms.FormulaId.{FormulaId}
use Rattle.ss_terms.specs.Forms.{Forms, formula_at, formulas_at, HasFormula, HasFormulas}
use Rattle.ss_search_procedure_rules.specs.Closed.{is_basic, basics}
use Rattle.ss_search_whole_sums.specs.Contradicting.{AreAtPlaces}
use Rattle.ss_search_whole_sums.proofs.Written.{stand_all}
use Rattle.ss_search_clashes.specs.Cases.{AreAt}
use Rattle.ss_search_whole_sums.specs.WholeSums.{basic_ones, basic_places}

module _ (b : Forms) where
  abbrev is_one : FormulaId → Bool
  is_one f = is_basic (formula_at b f)

  -- ---- what they are

  one_first : (f : FormulaId) (fs : List FormulaId) (v : Bool) → formulas_at b (basic_ones b fs) ≡ basics (formulas_at b fs) →
      formulas_at b (cond v (f ∷ basic_ones b fs) (basic_ones b fs)) ≡ cond v (formula_at b f ∷ basics (formulas_at b fs)) (basics (formulas_at b fs))
  one_first f fs true h = ap (λ (gs : List Formula). formula_at b f ∷ gs) h
  one_first f fs false h = h

  pub ones_are : (fs : List FormulaId) → formulas_at b (basic_ones b fs) ≡ basics (formulas_at b fs)
  ones_are [] = refl
  ones_are (f ∷ fs) = one_first f fs (is_one f) (ones_are fs)

  first_there : (f : FormulaId) (fs : List FormulaId) (v : Bool) → HasFormula b f → HasFormulas b (basic_ones b fs) → HasFormulas b (cond v (f ∷ basic_ones b fs) (basic_ones b fs))
  first_there f fs true one h = (one, h)
  first_there f fs false one h = h

  pub ones_there : (fs : List FormulaId) → HasFormulas b fs → HasFormulas b (basic_ones b fs)
  ones_there [] h = tt
  ones_there (f ∷ fs) h = first_there f fs (is_one f) h.0 (ones_there fs h.1)

  -- ---- as many places

  first_long : (f : FormulaId) (xs : List FormulaId) (p : ℕ) (qs : List ℕ) (v : Bool) → length qs ≡ length xs → length (if v then p ∷ qs else qs) ≡ length (cond v (f ∷ xs) xs)
  first_long f xs p qs true h = ap suc h
  first_long f xs p qs false h = h

  pub places_long : (fs : List FormulaId) (ps : List ℕ) → length ps ≡ length fs → length (basic_places b fs ps) ≡ length (basic_ones b fs)
  places_long [] ps l = refl
  places_long (f ∷ fs) [] l = absurd (omega (arith, l))
  places_long (f ∷ fs) (p ∷ ps) l = first_long f (basic_ones b fs) p (basic_places b fs ps) (is_one f) (places_long fs ps (omega (arith, l)))

  -- ---- one more

  pub ones_more : (fs : List FormulaId) (i : ℕ) (d : FormulaId) (old new : List FormulaId) → i < length fs → old ≡ basic_ones b (take i fs) → new ≡ old ++ (if is_one (get_or fs i d) then get_or fs i d ∷ [] else []) → new ≡ basic_ones b (take (i + 1) fs)
  ones_more fs i d old new l h is = is ∙ ap (λ (xs : List FormulaId). xs ++ (if is_one (get_or fs i d) then get_or fs i d ∷ [] else [])) h ∙ sym (filter_more is_one fs i d l)

  first_after : (p : ℕ) (qs rs more : List ℕ) (v : Bool) → qs ≡ rs ++ more → (if v then p ∷ qs else qs) ≡ (if v then p ∷ rs else rs) ++ more
  first_after p qs rs more true h = ap (λ (xs : List ℕ). p ∷ xs) h
  first_after p qs rs more false h = h

  places_next : (i : ℕ) (fs : List FormulaId) (ps : List ℕ) (f : FormulaId) (p : ℕ) → slice_get fs i ≡ Some f → slice_get ps i ≡ Some p →
      basic_places b (take (suc i) fs) (take (suc i) ps) ≡ basic_places b (take i fs) (take i ps) ++ (if is_one f then p ∷ [] else [])
  places_next i [] ps f p x y = cc
  places_next i (a ∷ fs) [] f p x y = cc
  places_next zero (a ∷ fs) (c ∷ ps) f p x y =
      let one : a ≡ f = cc in
      let two : c ≡ p = cc in
      ap (λ (z : FormulaId). if is_one z then c ∷ [] else []) one ∙ ap (λ (z : ℕ). if is_one f then z ∷ [] else []) two
  places_next (suc i) (a ∷ fs) (c ∷ ps) f p x y =
      first_after c (basic_places b (take (suc i) fs) (take (suc i) ps)) (basic_places b (take i fs) (take i ps)) (if is_one f then p ∷ [] else []) (is_one a) (places_next i fs ps f p x y)

  pub places_more : (fs : List FormulaId) (ps : List ℕ) (i : ℕ) (d : FormulaId) (e : ℕ) (old new : List ℕ) → i < length fs → length ps ≡ length fs → old ≡ basic_places b (take i fs) (take i ps) →
      new ≡ old ++ (if is_one (get_or fs i d) then get_or ps i e ∷ [] else []) → new ≡ basic_places b (take (i + 1) fs) (take (i + 1) ps)
  places_more fs ps i d e old new l long h is =
      let next : suc i ≡ i + 1 = omega arith in
      is ∙ ap (λ (xs : List ℕ). xs ++ (if is_one (get_or fs i d) then get_or ps i e ∷ [] else [])) h
      ∙ sym (places_next i fs ps (get_or fs i d) (get_or ps i e) (slice_get-get_or fs i d l) (slice_get-get_or ps i e (omega (arith, l, long))))
      ∙ ap (λ (n : ℕ). basic_places b (take n fs) (take n ps)) next

  pub ones_all : (fs : List FormulaId) (n : ℕ) (xs : List FormulaId) → length fs ≤ n → xs ≡ basic_ones b (take n fs) → xs ≡ basic_ones b fs
  ones_all fs n xs l h = h ∙ ap (basic_ones b) (take_all n fs l)

  pub places_all : (fs : List FormulaId) (ps : List ℕ) (n : ℕ) (xs : List ℕ) → length fs ≤ n → length ps ≡ length fs → xs ≡ basic_places b (take n fs) (take n ps) → xs ≡ basic_places b fs ps
  places_all fs ps n xs l long h =
      h ∙ ap (λ (gs : List FormulaId). basic_places b gs (take n ps)) (take_all n fs l)
      ∙ ap (basic_places b fs) (take_all n ps (omega (arith, l, long)))

  -- ---- where they are

  -- the formula and its place stand at one number of the lists, and it is a literal or quantified
  record IsFrom (fs : List FormulaId) (ps : List ℕ) (f : FormulaId) (p : ℕ) : Type 0 where
    pub at : ℕ
    pub formula : slice_get fs at ≡ Some f
    pub place : slice_get ps at ≡ Some p
    pub basic : is_one f ≡ true

  from_more : (g : FormulaId) (q : ℕ) (fs : List FormulaId) (ps : List ℕ) (f : FormulaId) (p : ℕ) → IsFrom fs ps f p → IsFrom (g ∷ fs) (q ∷ ps) f p
  from_more g q fs ps f p h = record { at = suc h.at; formula = h.formula; place = h.place; basic = h.basic }

  from_first : (g : FormulaId) (q : ℕ) (fs : List FormulaId) (ps : List ℕ) (v : Bool) → is_one g ≡ v → ((i : ℕ) (f : FormulaId) (p : ℕ) → slice_get (basic_ones b fs) i ≡ Some f → slice_get (basic_places b fs ps) i ≡ Some p → IsFrom fs ps f p) →
      (i : ℕ) (f : FormulaId) (p : ℕ) → slice_get (cond v (g ∷ basic_ones b fs) (basic_ones b fs)) i ≡ Some f → slice_get (if v then q ∷ basic_places b fs ps else basic_places b fs ps) i ≡ Some p → IsFrom (g ∷ fs) (q ∷ ps) f p
  from_first g q fs ps true is h zero f p x y = let both : Some g ≡ Some f = x in let same : g ≡ f = cc in record { at = 0; formula = x; place = y; basic = ap is_one (sym same) ∙ is }
  from_first g q fs ps true is h (suc i) f p x y = from_more g q fs ps f p (h i f p x y)
  from_first g q fs ps false is h i f p x y = from_more g q fs ps f p (h i f p x y)

  ones_from : (fs : List FormulaId) (ps : List ℕ) (i : ℕ) (f : FormulaId) (p : ℕ) → slice_get (basic_ones b fs) i ≡ Some f → slice_get (basic_places b fs ps) i ≡ Some p → IsFrom fs ps f p
  ones_from [] ps i f p x y = let within = slice_get_within [] i f x in absurd (omega (arith, within))
  ones_from (g ∷ fs) [] i f p x y = let within = slice_get_within [] i p y in absurd (omega (arith, within))
  ones_from (g ∷ fs) (q ∷ ps) i f p x y = from_first g q fs ps (is_one g) refl (ones_from fs ps) i f p x y

  module _ (cs : List ClassTree) where
    pub ones_at : (known : List Formula) (fs : List FormulaId) (ps : List ℕ) → length ps ≡ length fs → AreAt cs b known fs ps → AreAtPlaces b known (basic_ones b fs) (basic_places b fs ps)
    ones_at known fs ps l h =
        stand_all b known (basic_ones b fs) (basic_places b fs ps) (places_long fs ps l)
        (λ i place f x y. let r = ones_from fs ps i f place x y in (h.each r.at place f r.formula r.place r.basic).at)

    -- each of these that is a literal or quantified is well formed
    abbrev AllFormed : List FormulaId → List ℕ → Type 0
    AllFormed fs ps = (i place : ℕ) (f : FormulaId) → slice_get fs i ≡ Some f → slice_get ps i ≡ Some place → is_one f ≡ true → is_well_formed cs [] (formula_at b f) ≡ true

    first_formed : (f : FormulaId) (fs : List FormulaId) (v : Bool) → is_one f ≡ v → (is_one f ≡ true → is_well_formed cs [] (formula_at b f) ≡ true) → AreWellFormed cs [] (formulas_at b (basic_ones b fs)) →
        AreWellFormed cs [] (formulas_at b (cond v (f ∷ basic_ones b fs) (basic_ones b fs)))
    first_formed f fs true is one h = (one is, h)
    first_formed f fs false is one h = h

    each_formed : (fs : List FormulaId) (ps : List ℕ) → length ps ≡ length fs → AllFormed fs ps → AreWellFormed cs [] (formulas_at b (basic_ones b fs))
    each_formed [] ps l h = tt
    each_formed (f ∷ fs) [] l h = absurd (omega (arith, l))
    each_formed (f ∷ fs) (p ∷ ps) l h = first_formed f fs (is_one f) refl (λ t. h 0 p f refl refl t) (each_formed fs ps (omega (arith, l)) (λ i place g x y t. h (suc i) place g x y t))

    pub ones_formed : (known : List Formula) (fs : List FormulaId) (ps : List ℕ) → length ps ≡ length fs → AreAt cs b known fs ps → AreWellFormed cs [] (formulas_at b (basic_ones b fs))
    ones_formed known fs ps l h = each_formed fs ps l (λ i place f x y t. (h.each i place f x y t).formed)
