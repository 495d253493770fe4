-- Finding an `exists`, and opening one after the other.
use Rattle.std.proofs.Common.{◌≡◌, ℕ, zero, suc, ◌+◌, ◌<◌, ◌≤◌, List, [], ◌∷◌, ◌++◌, length, map, take, get_or, Bool, true, false, refl, sym, ◌∙◌, ap, subst, arith, Option, Some, None, cond}
use Rattle.std.specs.Prelude.{find, sum_by}
use Rattle.std.proofs.lemmas.List.{map_push, take_more}
use Rattle.ss_logic.specs.declared.Sort.{Sort}
use Rattle.ss_logic.specs.Terms.{Term}
use Rattle.ss_logic.specs.Formulas.{Formula, Exists, put}
use Rattle.ss_logic.specs.Occurring.{quantified}
use Rattle.ss_logic.specs.Opened.{is_exists, exists_count, fresh_constants, replaced}
use Rattle.ss_terms.specs.declared.forms.FormulaId.{FormulaId}
use Rattle.ss_terms.specs.Forms.{Forms, terms_at, formula_at, formulas_at, HasFormula, HasFormulas, IsFormulaNumber}
use Rattle.ss_rules_opened.specs.declared.opening.Opening.{Opening}
use Rattle.ss_rules_opened.specs.Opening.{used_after, list_after, IsOpening, HasOpening}
use Rattle.ss_rules_opened.proofs.Counting.{all_opened, opened_fewer, opened_one, opened_none}

-- ---- the first that is found

both_none : (r : Bool) (x : Formula) (o : Option Formula) → cond r (Some x) o ≡ None → (r ≡ false) × (o ≡ None)
both_none true x o e = absurd (some e)
  where
    some : Some x ≡ None → ⊥
    some e = cc
both_none false x o e = (refl, e)

none_then : (p : Formula → Bool) (xs : List Formula) (y : Formula) → find p xs ≡ None → p y ≡ false → find p (xs ++ y ∷ []) ≡ None
none_then p [] y e fails = rw fails refl
none_then p (x ∷ xs) y e fails = let k = both_none (p x) x (find p xs) e in rw k.0 (none_then p xs y k.1 fails)

pub none_next : (b : Forms) (p : Formula → Bool) (fs : List FormulaId) (i : ℕ) (d : FormulaId) → i < length fs → find p (formulas_at b (take i fs)) ≡ None → p (formula_at b (get_or fs i d)) ≡ false → find p (formulas_at b (take (i + 1) fs)) ≡ None
none_next b p fs i d within e fails =
    ap (λ gs. find p (formulas_at b gs)) (take_more fs i d within)
    ∙ ap (find p) (map_push (formula_at b) (take i fs) (get_or fs i d))
    ∙ none_then p (formulas_at b (take i fs)) (formula_at b (get_or fs i d)) e fails

found_at : (b : Forms) (p : Formula → Bool) (fs : List FormulaId) (i : ℕ) (d : FormulaId) → i < length fs → find p (formulas_at b (take i fs)) ≡ None → p (formula_at b (get_or fs i d)) ≡ true → find p (formulas_at b fs) ≡ Some (formula_at b (get_or fs i d))
found_at b p [] i d within e holds = absurd (omega arith)
found_at b p (f ∷ fs) zero d within e holds = rw holds refl
found_at b p (f ∷ fs) (suc i) d within e holds = let k = both_none (p (formula_at b f)) (formula_at b f) (find p (formulas_at b (take i fs))) e in rw k.0 (found_at b p fs i d (omega arith) k.1 holds)

pub number_here : (b : Forms) (p : Formula → Bool) (fs : List FormulaId) (i : ℕ) (d : FormulaId) → i < length fs → HasFormula b (get_or fs i d) → find p (formulas_at b (take i fs)) ≡ None → p (formula_at b (get_or fs i d)) ≡ true →
    IsFormulaNumber b (find p (formulas_at b fs)) (Some (get_or fs i d))
number_here b p fs i d within has e holds = subst (λ o. IsFormulaNumber b o (Some (get_or fs i d))) (sym (found_at b p fs i d within e holds)) (get_or fs i d, refl, has, refl)

pub number_nowhere : (b : Forms) (o : Option Formula) → o ≡ None → IsFormulaNumber b o None
number_nowhere b o e = subst (λ x. IsFormulaNumber b x None) (sym e) refl

pub number_same : (b : Forms) (o p : Option Formula) (r : Option FormulaId) → o ≡ p → IsFormulaNumber b o r → IsFormulaNumber b p r
number_same b o p r e h = subst (λ x. IsFormulaNumber b x r) e h

pub number_some : (b : Forms) (o : Option Formula) (f : FormulaId) → IsFormulaNumber b o (Some f) → o ≡ Some (formula_at b f)
number_some b None f h = absurd (some h)
  where
    some : Some f ≡ None → ⊥
    some e = cc
number_some b (Some x) f (g, e, has, is) = let same : f ≡ g = cc in ap Some (sym is ∙ ap (formula_at b) (sym same))

pub number_has : (b : Forms) (o : Option Formula) (f : FormulaId) → IsFormulaNumber b o (Some f) → HasFormula b f
number_has b None f h = absurd (some h)
  where
    some : Some f ≡ None → ⊥
    some e = cc
number_has b (Some x) f (g, e, has, is) = let same : g ≡ f = cc in subst (HasFormula b) same has

pub number_none : (b : Forms) (o : Option Formula) → IsFormulaNumber b o None → o ≡ None
number_none b None h = refl
number_none b (Some x) (g, e, has, is) = absurd (some e)
  where
    some : None ≡ Some g → ⊥
    some e = cc

-- ---- one after the other

pub opening_itself : (b : Forms) (r : Opening) (used : List Term) (fs : List Formula) → IsOpening b r used fs → HasOpening b r
opening_itself b r used fs h = record { has_used = h.has_used; used = refl; has_list = h.has_list; list = refl }

pub opening_same : (b : Forms) (r : Opening) (used more : List Term) (fs gs : List Formula) → used ≡ more → fs ≡ gs → IsOpening b r used fs → IsOpening b r more gs
opening_same b r used more fs gs e f h = record { has_used = h.has_used; used = h.used ∙ e; has_list = h.has_list; list = h.list ∙ f }

module _ (b c : Forms) (s after : Opening) (f : FormulaId) (found : IsFormulaNumber b (find is_exists (quantified (formulas_at b s.list.items))) (Some f))
    (done : IsOpening c after (used_after (formula_at b f) (terms_at b s.used.items)) (list_after (formula_at b f) (terms_at b s.used.items) (formulas_at b s.list.items))) where
  it_is : find is_exists (quantified (formulas_at b s.list.items)) ≡ Some (formula_at b f)
  it_is = number_some b (find is_exists (quantified (formulas_at b s.list.items))) f found

  pub opened_next : (all : List Formula) → all_opened (terms_at b s.used.items) (formulas_at b s.list.items) ≡ all → all_opened (terms_at c after.used.items) (formulas_at c after.list.items) ≡ all
  opened_next all left =
      ap (λ us. all_opened us (formulas_at c after.list.items)) done.used
      ∙ ap (all_opened (used_after (formula_at b f) (terms_at b s.used.items))) done.list
      ∙ opened_one (terms_at b s.used.items) (formulas_at b s.list.items) (formula_at b f) it_is
      ∙ left

  pub fewer_left : sum_by exists_count (formulas_at c after.list.items) < sum_by exists_count (formulas_at b s.list.items)
  fewer_left = let less = opened_fewer (terms_at b s.used.items) (formulas_at b s.list.items) (formula_at b f) it_is in let same = ap (sum_by exists_count) done.list in omega (arith, less, same)

pub all_are_opened : (b : Forms) (s : Opening) (all : List Formula) → IsFormulaNumber b (find is_exists (quantified (formulas_at b s.list.items))) None → all_opened (terms_at b s.used.items) (formulas_at b s.list.items) ≡ all → formulas_at b s.list.items ≡ all
all_are_opened b s all found left = opened_none (terms_at b s.used.items) (formulas_at b s.list.items) (number_none b (find is_exists (quantified (formulas_at b s.list.items))) found) ∙ left

-- ---- an `exists` of the bank

pub used_there : (x : Formula) (ss : List Sort) (h : Formula) (used : List Term) → x ≡ Exists ss h → fresh_constants ss used ++ used ≡ used_after x used
used_there x ss h used e = sym (ap (λ y. used_after y used) e)

pub list_there : (x : Formula) (ss : List Sort) (h : Formula) (used : List Term) (fs : List Formula) → x ≡ Exists ss h → map (replaced x (put (fresh_constants ss used) h)) fs ≡ list_after x used fs
list_there x ss h used fs e = ap (λ y. map (replaced y (put (fresh_constants ss used) h)) fs) e ∙ sym (ap (λ y. list_after y used fs) e)
