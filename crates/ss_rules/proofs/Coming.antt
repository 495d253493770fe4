-- What becomes of a list, step by step.
use Rattle.std.proofs.Common.{◌≡◌, ℕ, suc, ◌+◌, ◌-◌, ◌<◌, ◌≤◌, ◌≢◌, List, [], ◌∷◌, length, take, get_or, reverse, Bool, true, false, refl, sym, ◌∙◌, ap, arith, Option, Some, None, if◌then◌else◌, Result, Ok, Err, Vec, Global}
use Rattle.std.specs.Prelude.{option_and_then, IfOk, OnOk}
use Rattle.std.proofs.lemmas.List.{map_push, take_more, reverse-append}
use Rattle.ss_core.specs.Tree.{ClassTree}
use Rattle.ss_logic.specs.Formulas.{Formula}
use Rattle.ss_logic.specs.Asked as spec
use Rattle.ss_logic.specs.Ground.{due, closed, closed_from, foralls_step, round, rounds_of, ground_form}
use Rattle.ss_logic.specs.Matching.{forall_instances}
use Rattle.ss_logic.specs.Occurring.{with_formula, with_formulas}
use Rattle.ss_logic.specs.Opened.{start}
use Rattle.ss_terms.specs.declared.forms.FormulaId.{FormulaId}
use Rattle.ss_terms.specs.Forms.{Forms, formula_at, formulas_at, HasFormulas, IsGrown}
use Rattle.ss_terms.proofs.Grown.{formulas_at-grown}
use Rattle.ss_terms.proofs.Tested.{AreBelow-get}
use Rattle.ss_rules_asked.specs.declared.asked.Asked.{Asked}
use Rattle.ss_rules_asked.specs.Numbers.{Asks}
use Rattle.ss_rules_occurring.specs.declared.found.FormulaList.{FormulaList}
use Rattle.ss_rules_occurring.specs.Found.{formulas_of, Holds, HasFound}
use Rattle.ss_rules_occurring.proofs.Sought.{holds_itself, with_formulas-append}
use Rattle.ss_rules.specs.Comes.{Comes, IsClosed}
use Rattle.ss_rules.proofs.Closing.{closes_many, closes_done, closes_more, none_added, closed_is_closed}

-- ---- one or the other

pub it_is : (b : Forms) (s : FormulaList) (few : Bool) (wanted : Option (List Formula)) → Comes b few s wanted → few ≡ true → wanted ≡ Some (formulas_of b s)
it_is b s few wanted h e = h.is ∙ ap (λ v. if v then Some (formulas_of b s) else None) e

pub it_is_none : (b : Forms) (s : FormulaList) (few : Bool) (wanted : Option (List Formula)) → Comes b few s wanted → few ≡ false → wanted ≡ None
it_is_none b s few wanted h e = h.is ∙ ap (λ v. if v then Some (formulas_of b s) else None) e

pub comes_none : (b : Forms) (s : FormulaList) (wanted : Option (List Formula)) → HasFound b s → wanted ≡ None → Comes b false s wanted
comes_none b s wanted h e = record { has = h; is = e }

pub comes_some : (b : Forms) (s : FormulaList) (wanted : Option (List Formula)) → HasFound b s → wanted ≡ Some (formulas_of b s) → Comes b true s wanted
comes_some b s wanted h e = record { has = h; is = e }

pub comes_same : (b : Forms) (few : Bool) (s : FormulaList) (x y : Option (List Formula)) → x ≡ y → Comes b few s x → Comes b few s y
comes_same b few s x y e h = record { has = h.has; is = sym e ∙ h.is }

pub ok_comes : {E : Type 0} (r : Result Bool E) (b : Forms) (s : FormulaList) (x y : Option (List Formula)) → x ≡ y → IfOk r (λ few. Comes b few s x) → IfOk r (λ few. Comes b few s y)
ok_comes (Ok few) b s x y e h = comes_same b few s x y e h
ok_comes (Err z) b s x y e h = tt

-- ---- and then

pub stops : (b : Forms) (s : FormulaList) (few : Bool) (first : Option (List Formula)) (next : List Formula → Option (List Formula)) → Comes b few s first → few ≡ false → Comes b false s (option_and_then next first)
stops b s few first next h e = record { has = h.has; is = ap (option_and_then next) (it_is_none b s few first h e) }

pub goes_on : (b : Forms) (s : FormulaList) (few : Bool) (first : Option (List Formula)) (next : List Formula → Option (List Formula)) → Comes b few s first → few ≡ true → next (formulas_of b s) ≡ option_and_then next first
goes_on b s few first next h e = sym (ap (option_and_then next) (it_is b s few first h e))

-- ---- closing

count : (b : Forms) (fs : List FormulaId) → length (formulas_at b fs) ≡ length fs
count b [] = refl
count b (f ∷ fs) = ap suc (count b fs)

module _ (cs : List ClassTree) (limit step : ℕ) (b c : Forms) (s after : FormulaList) (wanted : Option (List Formula)) (within : step < limit)
    (left : closed_from cs limit (limit - step) (formulas_of b s) ≡ wanted) (added : Holds c after (with_formulas (formulas_of b s) (due cs (formulas_of b s)))) where
  one_left : limit - step ≡ suc (limit - (step + 1))
  one_left = omega arith

  here : closed_from cs limit (suc (limit - (step + 1))) (formulas_of b s) ≡ wanted
  here = sym (ap (λ n. closed_from cs limit n (formulas_of b s)) one_left) ∙ left

  old_count : length (formulas_of b s) ≡ length s.list.items
  old_count = count b s.list.items

  new_count : length (formulas_of c after) ≡ length after.list.items
  new_count = count c after.list.items

  pub many_come : limit < length after.list.items → Comes c false after wanted
  many_come h = record {
    has = holds_itself c after _ added;
    is = sym here ∙ closes_many cs limit (limit - (step + 1)) (formulas_of b s) (formulas_of c after) added.are (omega (arith, h, new_count));
  }

  pub done_come : length after.list.items ≤ limit → length after.list.items ≡ length s.list.items → Comes c true after wanted
  done_come h e = record {
    has = holds_itself c after _ added;
    is = sym here ∙ closes_done cs limit (limit - (step + 1)) (formulas_of b s) (formulas_of c after) added.are (omega (arith, h, new_count)) (new_count ∙ e ∙ sym old_count);
  }

  pub more_come : length after.list.items ≤ limit → length after.list.items ≢ length s.list.items → closed_from cs limit (limit - (step + 1)) (formulas_of c after) ≡ wanted
  more_come h e =
      sym (closes_more cs limit (limit - (step + 1)) (formulas_of b s) (formulas_of c after) added.are (omega (arith, h, new_count)) (λ d. e (sym new_count ∙ d ∙ old_count)))
      ∙ here

pub never_closed : (cs : List ClassTree) (limit step : ℕ) (b : Forms) (s : FormulaList) (wanted : Option (List Formula)) → HasFound b s → limit ≤ step → closed_from cs limit (limit - step) (formulas_of b s) ≡ wanted → Comes b false s wanted
never_closed cs limit step b s wanted h past left = record {
  has = h;
  is = let none_left : limit - step ≡ 0 = omega arith in sym left ∙ ap (λ n. closed_from cs limit n (formulas_of b s)) none_left;
}

-- ---- each `forall`

-- nothing new was added to a closed list
pub still_closed : (cs : List ClassTree) (limit : ℕ) (b c : Forms) (s after : FormulaList) (xs : List Formula) → IsClosed cs limit (formulas_of b s) → Holds c after (with_formulas (formulas_of b s) xs) → length after.list.items ≡ length s.list.items →
    Comes c true after (closed cs limit (with_formulas (formulas_of b s) xs))
still_closed cs limit b c s after xs h added e =
    let same = none_added (formulas_of b s) xs (formulas_of c after) added.are (count c after.list.items ∙ e ∙ sym (count b s.list.items)) in
    record {
      has = holds_itself c after _ added;
      is = ap (closed cs limit) (sym added.are ∙ same) ∙ h ∙ ap Some (sym same);
    }

pub closed_now : (cs : List ClassTree) (limit : ℕ) (b : Forms) (s : FormulaList) (few : Bool) (fs : List Formula) → Comes b few s (closed cs limit fs) → few ≡ true → IsClosed cs limit (formulas_of b s)
closed_now cs limit b s few fs h e = closed_is_closed cs limit fs (formulas_of b s) (it_is b s few (closed cs limit fs) h e)

-- what is left to be done with those before the place i
abbrev pub foralls_left : List ClassTree → ℕ → Forms → List FormulaId → ℕ → List Formula → Option (List Formula)
foralls_left cs limit a fs i now = foralls_step cs limit (reverse (formulas_at a (take i fs))) now

last_first : (a : Forms) (fs : List FormulaId) (i : ℕ) (d : FormulaId) → i < length fs → reverse (formulas_at a (take (i + 1) fs)) ≡ formula_at a (get_or fs i d) ∷ reverse (formulas_at a (take i fs))
last_first a fs i d within =
    ap reverse (ap (formulas_at a) (take_more fs i d within) ∙ map_push (formula_at a) (take i fs) (get_or fs i d))
    ∙ reverse-append (formulas_at a (take i fs)) (formula_at a (get_or fs i d) ∷ [])

module _ (cs : List ClassTree) (limit : ℕ) (a b c : Forms) (fs : List FormulaId) (i j : ℕ) (next : j ≡ i + 1) (d : FormulaId) (s after : FormulaList) (wanted : Option (List Formula)) (within : i < length fs) (has : HasFormulas a fs) (g : IsGrown a b) (few : Bool)
    (left : foralls_left cs limit a fs j (formulas_of b s) ≡ wanted)
    (done : Comes c few after (closed cs limit (with_formulas (formulas_of b s) (forall_instances (formulas_of b s) (formula_at b (get_or fs i d)))))) where
  unfolded : option_and_then (foralls_step cs limit (reverse (formulas_at a (take i fs)))) (closed cs limit (with_formulas (formulas_of b s) (forall_instances (formulas_of b s) (formula_at b (get_or fs i d))))) ≡ wanted
  unfolded =
      ap (λ f. option_and_then (foralls_step cs limit (reverse (formulas_at a (take i fs)))) (closed cs limit (with_formulas (formulas_of b s) (forall_instances (formulas_of b s) f)))) (g.same_formulas (get_or fs i d) (AreBelow-get _ fs i d has within))
      ∙ sym (ap (λ gs. foralls_step cs limit gs (formulas_of b s)) (last_first a fs i d within))
      ∙ sym (ap (λ k. foralls_left cs limit a fs k (formulas_of b s)) next)
      ∙ left

  pub forall_stops : few ≡ false → Comes c false after wanted
  forall_stops e = comes_same c false after _ _ unfolded (stops c after few _ (foralls_step cs limit (reverse (formulas_at a (take i fs)))) done e)

  pub forall_goes_on : few ≡ true → foralls_left cs limit a fs i (formulas_of c after) ≡ wanted
  forall_goes_on e = goes_on c after few _ (foralls_step cs limit (reverse (formulas_at a (take i fs)))) done e ∙ unfolded

-- ---- rounds

module _ (cs : List ClassTree) (limit count number : ℕ) (b c : Forms) (s after : FormulaList) (wanted : Option (List Formula)) (within : number < count) (few : Bool)
    (left : rounds_of cs limit (count - number) (formulas_of b s) ≡ wanted) (done : Comes c few after (round cs limit (formulas_of b s))) where
  one_round : option_and_then (rounds_of cs limit (count - (number + 1))) (round cs limit (formulas_of b s)) ≡ wanted
  one_round =
      let next : count - number ≡ suc (count - (number + 1)) = omega arith in
      sym (ap (λ n. rounds_of cs limit n (formulas_of b s)) next) ∙ left

  pub round_stops : few ≡ false → Comes c false after wanted
  round_stops e = comes_same c false after _ _ one_round (stops c after few _ (rounds_of cs limit (count - (number + 1))) done e)

  pub round_goes_on : few ≡ true → rounds_of cs limit (count - (number + 1)) (formulas_of c after) ≡ wanted
  round_goes_on e = goes_on c after few _ (rounds_of cs limit (count - (number + 1))) done e ∙ one_round

pub rounds_done : (cs : List ClassTree) (limit count number : ℕ) (b : Forms) (s : FormulaList) (wanted : Option (List Formula)) → HasFound b s → count ≤ number → rounds_of cs limit (count - number) (formulas_of b s) ≡ wanted → Comes b true s wanted
rounds_done cs limit count number b s wanted h past left = record {
  has = h;
  is = let none_left : count - number ≡ 0 = omega arith in sym left ∙ ap (λ n. rounds_of cs limit n (formulas_of b s)) none_left;
}

-- ---- the list at first

pub listed_next : (b : Forms) (s after : FormulaList) (fs : List FormulaId) (i : ℕ) (d : FormulaId) → i < length fs → Holds b s (with_formulas [] (formulas_at b (take i fs))) → Holds b after (with_formula (formulas_of b s) (formula_at b (get_or fs i d))) →
    Holds b after (with_formulas [] (formulas_at b (take (i + 1) fs)))
listed_next b s after fs i d within before next = record {
  marked = next.marked;
  has = next.has;
  are =
      next.are
      ∙ ap (λ gs. with_formula gs (formula_at b (get_or fs i d))) before.are
      ∙ sym (with_formulas-append [] (formulas_at b (take i fs)) (formula_at b (get_or fs i d) ∷ []))
      ∙ ap (with_formulas []) (sym (map_push (formula_at b) (take i fs) (get_or fs i d)))
      ∙ ap (λ gs. with_formulas [] (formulas_at b gs)) (sym (take_more fs i d within));
}

module _ (cs : List ClassTree) (limit rounds : ℕ) (premises : List Formula) (goal : Formula) (b c : Forms) (s after : FormulaList) (few : Bool) (at_first : Holds b s (with_formulas [] (start premises goal)))
    (done : Comes c few after (option_and_then (rounds_of cs limit rounds) (closed cs limit (formulas_of b s)))) where
  form_is : option_and_then (rounds_of cs limit rounds) (closed cs limit (formulas_of b s)) ≡ ground_form cs premises goal rounds limit
  form_is = ap (λ fs. option_and_then (rounds_of cs limit rounds) (closed cs limit fs)) at_first.are

  pub too_many : few ≡ false → None ≡ ground_form cs premises goal rounds limit
  too_many e = sym (it_is_none c after few _ done e) ∙ form_is

  pub form_done : few ≡ true → Some (formulas_of c after) ≡ ground_form cs premises goal rounds limit
  form_done e = sym (it_is c after few _ done e) ∙ form_is

pub ok_asked : {E : Type 0} (r : Result (Vec Asked Global) E) (b : Forms) (these those : List spec.Asked) → these ≡ those → IfOk r (λ v. Asks b v.items these) → IfOk r (λ v. Asks b v.items those)
ok_asked (Ok v) b these those e h = record { has = h.has; are = h.are ∙ e }
ok_asked (Err z) b these those e h = tt

pub ok_added : {A E : Type 0} (r : Result A E) (b : Forms) (s : FormulaList) (fs gs : List Formula) → fs ≡ gs → OnOk r (Holds b s fs) → OnOk r (Holds b s gs)
ok_added (Ok x) b s fs gs e h = record { marked = h.marked; has = h.has; are = h.are ∙ e }
ok_added (Err z) b s fs gs e h = tt

pub foralls_done : (cs : List ClassTree) (limit : ℕ) (a b : Forms) (fs : List FormulaId) (i : ℕ) (s : FormulaList) (wanted : Option (List Formula)) → HasFound b s → i ≡ 0 → foralls_left cs limit a fs i (formulas_of b s) ≡ wanted → Comes b true s wanted
foralls_done cs limit a b fs i s wanted h e left = record { has = h; is = sym left ∙ ap (λ k. foralls_left cs limit a fs k (formulas_of b s)) e }

pub same_foralls : (cs : List ClassTree) (limit : ℕ) (a b : Forms) (fs : List FormulaId) (s : FormulaList) (few : Bool) (first : Option (List Formula)) → IsGrown a b → HasFormulas a fs → Comes b few s first → few ≡ true →
    foralls_step cs limit (reverse (formulas_at b fs)) (formulas_of b s) ≡ option_and_then (foralls_step cs limit (reverse (formulas_at a fs))) first
same_foralls cs limit a b fs s few first g h k e =
    ap (λ gs. foralls_step cs limit (reverse gs) (formulas_of b s)) (formulas_at-grown a b g fs h) ∙ goes_on b s few first (foralls_step cs limit (reverse (formulas_at a fs))) k e
