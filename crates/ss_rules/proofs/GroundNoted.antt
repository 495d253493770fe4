-- Where the formulas of a list come from, step by step.
use Rattle.std.proofs.Common.{◌≡◌, ℕ, zero, suc, ◌+◌, ◌==◌, ◌<◌, ◌≢◌, List, [], ◌∷◌, ◌++◌, length, map, get_or, Bool, true, false, not, refl, sym, ◌∙◌, ap, subst, arith, length-append, Some, None, if◌then◌else◌, Result, Ok, Err}
use Rattle.std.specs.Prelude.{nat_le, OnOk, slice_get, option_map}
use Rattle.std.specs.List.{Contains}
use Rattle.std.proofs.lemmas.Bool.{eqb-true, eqb-false}
use Rattle.std.proofs.lemmas.List.{length-map}
use Rattle.std.proofs.lemmas.Option.{slice_get-map, slice_get-get_or}
use Rattle.std.proofs.lemmas.List.Elements.{Contains-get_or}
use Rattle.ss_core.specs.Tree.{ClassTree}
use Rattle.ss_logic.specs.Formulas.{Formula, neg}
use Rattle.ss_logic.specs.Ground.{due, closed, closed_from}
use Rattle.ss_logic.specs.Occurring.{with_formulas, quantified_in, quantified}
use Rattle.ss_logic_means.specs.Origins.{Choice, Premise, Denied, IsOrigin, AreAccepted, opened_by}
use Rattle.ss_logic.specs.Includes.{Includes}
use Rattle.ss_logic.proofs.Occurring.{collected_of_more}
use Rattle.ss_logic.proofs.Lists.{map_to}
use Rattle.ss_logic_means.proofs.ListedOrigins.{with_includes}
use Rattle.ss_terms.specs.declared.forms.FormulaId.{FormulaId}
use Rattle.ss_terms.specs.Forms.{Forms, formula_at, formulas_at, HasFormulas, IsGrown}
use Rattle.ss_terms.proofs.Tested.{AreBelow-get}
use Rattle.ss_rules_occurring.specs.declared.found.FormulaList.{FormulaList}
use Rattle.ss_rules_occurring.specs.Found.{formulas_of, Holds}
use Rattle.ss_rules_opened.specs.declared.origins.Source.TheVariants as source
use Rattle.ss_rules_opened.specs.declared.origins.Origin.{Origin}
use Rattle.ss_rules_opened.specs.Views.{origin_with, HasSource, ComeFrom, StillCome}
use Rattle.ss_rules_opened.specs.declared.opening.Choice as form
use Rattle.ss_rules_opened.specs.Choices.{choices_at}
use Rattle.ss_rules_opened.proofs.Choosing.{HasChoices-grown, choices_at-grown}
use Rattle.ss_rules.specs.Comes.{Comes}
use Rattle.ss_rules.specs.Grounds.{start_source, IsGrounded}
use Rattle.ss_rules.proofs.Coming.{it_is}

-- ---- what was in a list stays in it

nothing_is : (gs : List Formula) → None ≡ Some gs → ⊥
nothing_is gs e = cc

some_is : (hs gs : List Formula) → Some hs ≡ Some gs → hs ≡ gs
some_is hs gs e = cc

closes_including : (cs : List ClassTree) (limit n : ℕ) (fs gs : List Formula) → closed_from cs limit n fs ≡ Some gs → Includes gs fs
closes_including cs limit zero fs gs e = absurd (nothing_is gs e)
closes_including cs limit (suc n) fs gs e =
    by (with_formulas fs (due cs fs)) (with_includes fs (due cs fs)) (nat_le (length (with_formulas fs (due cs fs))) limit) (length (with_formulas fs (due cs fs)) == length fs) e (λ hs. closes_including cs limit n hs gs)
  where
    by : (hs : List Formula) → Includes hs fs → (few done : Bool) → (if not few then None else if done then Some hs else closed_from cs limit n hs) ≡ Some gs → ((xs : List Formula) → closed_from cs limit n xs ≡ Some gs → Includes gs xs) → Includes gs fs
    by hs i false d e later = absurd (nothing_is gs e)
    by hs i true true e later = subst (λ xs. Includes xs fs) (some_is hs gs e) i
    by hs i true false e later = λ x c. later hs e x (i x c)

pub comes_including : (cs : List ClassTree) (limit : ℕ) (b : Forms) (s : FormulaList) (few : Bool) (fs xs : List Formula) → Comes b few s (closed cs limit (with_formulas fs xs)) → few ≡ true → Includes (formulas_of b s) fs
comes_including cs limit b s few fs xs h e = λ x c. closes_including cs limit limit (with_formulas fs xs) (formulas_of b s) (it_is b s few (closed cs limit (with_formulas fs xs)) h e) x (with_includes fs xs x c)

-- ---- quantified formulas of it

pub quantified_occur : (b : Forms) (found : FormulaList) (fs : List Formula) → Holds b found (quantified fs) → Includes (quantified fs) (formulas_at b found.list.items)
quantified_occur b found fs h g c = subst (λ xs. Contains xs g) h.are c

pub all_occur_later : (fs gs xs ys : List Formula) → Includes gs fs → ys ≡ xs → Includes (quantified fs) xs → Includes (quantified gs) ys
all_occur_later fs gs xs ys i e all g c = collected_of_more quantified_in fs gs i g (all g (subst (λ zs. Contains zs g) e c))

pub one_occurs : (a b : Forms) (fs : List FormulaId) (i : ℕ) (d : FormulaId) (start now : List Formula) → IsGrown a b → HasFormulas a fs → i < length fs → Includes now start → Includes (quantified start) (formulas_at a fs) → Contains (quantified now) (formula_at b (get_or fs i d))
one_occurs a b fs i d start now g has within includes all =
    let at : formula_at b (get_or fs i d) ≡ formula_at a (get_or fs i d) = g.same_formulas (get_or fs i d) (AreBelow-get _ fs i d has within) in
    subst (Contains (quantified now)) (sym at) (collected_of_more quantified_in start now includes (formula_at a (get_or fs i d)) (all (formula_at a (get_or fs i d)) (map_to (formula_at a) fs (get_or fs i d) (Contains-get_or fs i d within))))

-- ---- one step after the other

pub ok_after : {A E Q : Type 0} (r : Result A E) (cs : List ClassTree) (a b d : Forms) (fs gs hs : List Formula) (os ps qs : List Origin) → (Q → StillCome cs a fs os b gs ps) → OnOk r (StillCome cs b gs ps d hs qs) → OnOk r (Q → StillCome cs a fs os d hs qs)
ok_after (Ok x) cs a b d fs gs hs os ps qs first next = λ q premises goal choices h. next premises goal choices (first q premises goal choices h)
ok_after (Err z) cs a b d fs gs hs os ps qs first next = tt

pub ok_after_given : {A E P Q : Type 0} (r : Result A E) (cs : List ClassTree) (a b d : Forms) (fs gs hs : List Formula) (os ps qs : List Origin) → (Q → P) → StillCome cs a fs os b gs ps → OnOk r (P → StillCome cs b gs ps d hs qs) → OnOk r (Q → StillCome cs a fs os d hs qs)
ok_after_given (Ok x) cs a b d fs gs hs os ps qs k first next = λ q premises goal choices h. next (k q) premises goal choices (first premises goal choices h)
ok_after_given (Err z) cs a b d fs gs hs os ps qs k first next = tt

pub ok_follows : {A E : Type 0} (r : Result A E) (cs : List ClassTree) (a b d : Forms) (fs gs hs : List Formula) (os ps qs : List Origin) → StillCome cs a fs os b gs ps → OnOk r (StillCome cs b gs ps d hs qs) → OnOk r (StillCome cs a fs os d hs qs)
ok_follows (Ok x) cs a b d fs gs hs os ps qs first next = λ premises goal choices h. next premises goal choices (first premises goal choices h)
ok_follows (Err z) cs a b d fs gs hs os ps qs first next = tt

pub ok_known : {A E P : Type 0} (r : Result A E) (cs : List ClassTree) (a b : Forms) (fs gs : List Formula) (os ps : List Origin) → P → OnOk r (P → StillCome cs a fs os b gs ps) → OnOk r (StillCome cs a fs os b gs ps)
ok_known (Ok x) cs a b fs gs os ps p h = h p
ok_known (Err z) cs a b fs gs os ps p h = tt

-- ---- the start

pub source_in_bank : (b : Forms) (place count : ℕ) → HasSource b (start_source place count)
source_in_bank b place count = by (place + 1 == count)
  where
    by : (r : Bool) → HasSource b (if r then source.Denied else source.Premise place)
    by true = tt
    by false = tt

front : (xs : List Formula) (y : Formula) (k : ℕ) → k < length xs → slice_get (xs ++ y ∷ []) k ≡ slice_get xs k
front [] y k l = absurd (omega (arith, l))
front (x ∷ xs) y zero l = refl
front (x ∷ xs) y (suc k) l = front xs y k (omega (arith, l))

back : (xs : List Formula) (y : Formula) (k : ℕ) → k ≡ length xs → slice_get (xs ++ y ∷ []) k ≡ Some y
back xs y k e = ap (slice_get (xs ++ y ∷ [])) e ∙ last xs
  where
    last : (zs : List Formula) → slice_get (zs ++ y ∷ []) (length zs) ≡ Some y
    last [] = refl
    last (z ∷ zs) = last zs

-- the formula at a place comes from the premise there, the last from the denied goal
pub start_comes : (cs : List ClassTree) (premises : List Formula) (goal : Formula) (choices : List Choice) (b : Forms) (fs : List FormulaId) (place count : ℕ) (d : FormulaId) (before : List Formula) → count ≡ length fs → place < count →
    formulas_at b fs ≡ map (opened_by choices) (premises ++ neg goal ∷ []) → IsOrigin cs premises goal choices before (origin_with b (start_source place count) []) (formula_at b (get_or fs place d))
start_comes cs premises goal choices b fs place count d before e within are = by (place + 1 == count) refl
  where
    opened : option_map (opened_by choices) (slice_get (premises ++ neg goal ∷ []) place) ≡ Some (formula_at b (get_or fs place d))
    opened =
        sym (slice_get-map (opened_by choices) (premises ++ neg goal ∷ []) place)
        ∙ ap (λ xs. slice_get xs place) (sym are)
        ∙ slice_get-map (formula_at b) fs place
        ∙ ap (option_map (formula_at b)) (slice_get-get_or fs place d (omega (arith, e, within)))

    many : count ≡ suc (length premises)
    many =
        let n : length (formulas_at b fs) ≡ length (map (opened_by choices) (premises ++ neg goal ∷ [])) = ap length are in
        let m : length (formulas_at b fs) ≡ length fs = length-map fs (formula_at b) in
        omega (arith, e, n, m, length-map (premises ++ neg goal ∷ []) (opened_by choices), length-append premises (neg goal ∷ []))

    same : (x y : Formula) → Some x ≡ Some y → x ≡ y
    same x y e = cc

    by : (r : Bool) → (place + 1 == count) ≡ r → IsOrigin cs premises goal choices before (origin_with b (if r then source.Denied else source.Premise place) []) (formula_at b (get_or fs place d))
    by true t =
        let l = eqb-true (place + 1) count t in
        let m = many in
        let at : place ≡ length premises = omega (arith, l, m) in
        same (opened_by choices (neg goal)) (formula_at b (get_or fs place d)) (sym (ap (option_map (opened_by choices)) (back premises (neg goal) place at)) ∙ opened)
    by false t =
        let n : place + 1 ≢ count = eqb-false (place + 1) count t in
        let m = many in
        let at : place < length premises = omega (arith, n, m, within) in
        sym (ap (option_map (opened_by choices)) (front premises (neg goal) place at)) ∙ opened

pub grounded_later : (cs : List ClassTree) (premises : List Formula) (goal : Formula) (b d : Forms) (fs gs : List Formula) (os ps : List Origin) (choices more : List form.Choice) → IsGrown b d → more ≡ choices → IsGrounded cs premises goal b fs os choices → StillCome cs b fs os d gs ps →
    IsGrounded cs premises goal d gs ps more
grounded_later cs premises goal b d fs gs os ps choices more g e h still =
    let same = choices_at-grown b d g choices h.has_choices in
    subst (IsGrounded cs premises goal d gs ps) (sym e)
    (record {
      has_choices = HasChoices-grown b d g choices h.has_choices;
      come = subst (λ xs. ComeFrom cs premises goal xs d gs ps) (sym same) (still premises goal (choices_at b choices) h.come);
      accepted = λ formed. subst (AreAccepted cs premises goal) (sym same) (h.accepted formed);
    })
