-- Lists of formulas of a bank.
use Rattle.std.proofs.Common.{◌≡◌, ℕ, zero, suc, ◌+◌, ◌*◌, ◌<◌, ◌≤◌, List, [], ◌∷◌, ◌++◌, length, take, get_or, Some, refl, sym, ap, subst, ◌⊎◌, ⊎_elim, arith}
use Rattle.std.specs.Prelude.{slice_get}
use Rattle.std.specs.List.{Contains}
use Rattle.std.proofs.lemmas.List.{take_more, take_all}
use Rattle.std.proofs.lemmas.List.Elements.{Contains-append_left, Contains-append_right, Contains-append_cases}
use Rattle.ss_logic.specs.Formulas.{Formula, Formulas, no_formulas, formula_then, formula_list, formulas_from}
use Rattle.ss_logic_countermodels.specs.Refuting.{told_in, all_told_in}
use Rattle.ss_terms.specs.declared.forms.TermId.{TermId}
use Rattle.ss_terms.specs.declared.forms.FormulaId.{FormulaId}
use Rattle.ss_terms.specs.Forms.{Forms, formula_at, formulas_at, HasTerm, HasTerms, HasFormula, HasFormulas, AreBelow}
use Rattle.ss_logic.specs.Includes.{Includes}
use Rattle.ss_logic.proofs.Lists.{contains_head, contains_cons, contains_none, contains_split, map_to}
use Rattle.ss_search_reached.specs.Following.{Occur}

pub single : {A : Type 0} (x y : A) → Contains (x ∷ []) y → x ≡ y
single x y h = ⊎_elim (λ e. e) (λ k. absurd (contains_none y k)) (contains_split x [] y h)

-- what holds of the first elements and of the next holds of one more
pub one_more : {A : Type 0} (P : A → Type 0) (xs : List A) (i : ℕ) (d : A) → i < length xs → ((x : A) → Contains (take i xs) x → P x) → P (get_or xs i d) → (x : A) → Contains (take (i + 1) xs) x → P x
one_more P xs i d h before here x c = ⊎_elim
    (λ k. before x k)
    (λ k. subst P (single (get_or xs i d) x k) here)
    (Contains-append_cases (take i xs) (get_or xs i d ∷ []) x (subst (λ ys. Contains ys x) (take_more xs i d h) c))

pub all_of_them : {A : Type 0} (P : A → Type 0) (xs : List A) (i : ℕ) → length xs ≤ i → ((x : A) → Contains (take i xs) x → P x) → (x : A) → Contains xs x → P x
all_of_them P xs i h all x c = all x (subst (λ ys. Contains ys x) (sym (take_all i xs h)) c)

pub contains_at : {A : Type 0} (xs : List A) (i : ℕ) (x : A) → slice_get xs i ≡ Some x → Contains xs x
contains_at [] i x e = cc
contains_at (y ∷ xs) zero x e = let same : y ≡ x = cc in subst (Contains (y ∷ xs)) same (contains_head y xs)
contains_at (y ∷ xs) (suc i) x e = contains_cons y xs x (contains_at xs i x e)

pub contains_get : {A : Type 0} (xs : List A) (i : ℕ) (d : A) → i < length xs → Contains xs (get_or xs i d)
contains_get [] i d h = absurd (omega (arith, h))
contains_get (y ∷ xs) zero d h = contains_head y xs
contains_get (y ∷ xs) (suc i) d h = contains_cons y xs (get_or xs i d) (contains_get xs i d (omega (arith, h)))

-- ---- formulas of a bank

pub HasFormulas-front : (b : Forms) (fs : List FormulaId) (f : FormulaId) → HasFormulas b (fs ++ f ∷ []) → HasFormulas b fs
HasFormulas-front b [] f h = tt
HasFormulas-front b (g ∷ fs) f h = (h.0, HasFormulas-front b fs f h.1)

pub has_formula : (b : Forms) (fs : List FormulaId) (f : FormulaId) → HasFormulas b fs → Contains fs f → HasFormula b f
has_formula b [] f h c = absurd (contains_none f c)
has_formula b (g ∷ fs) f h c = ⊎_elim (λ e. subst (HasFormula b) e h.0) (λ k. has_formula b fs f h.1 k) (contains_split g fs f c)

pub has_term : (b : Forms) (ts : List TermId) (t : TermId) → HasTerms b ts → Contains ts t → HasTerm b t
has_term b [] t h c = absurd (contains_none t c)
has_term b (u ∷ ts) t h c = ⊎_elim (λ e. subst (HasTerm b) e h.0) (λ k. has_term b ts t h.1 k) (contains_split u ts t c)

pub below_more : (n m : ℕ) (fs : List FormulaId) → n ≤ m → AreBelow n fs → AreBelow m fs
below_more n m [] l h = tt
below_more n m (f ∷ fs) l h = (omega (arith, l, h.0), below_more n m fs l h.1)

-- the parts of a formula of the bank
pub below_parts : (b : Forms) (f : FormulaId) (fs : List FormulaId) → HasFormula b f → AreBelow f.0 fs → HasFormulas b fs
below_parts b f fs h below = below_more f.0 (length b.formulas * 2) fs (omega (arith, h)) below

pub list_back : (fs : List Formula) → formula_list (formulas_from fs) ≡ fs
list_back [] = refl
list_back (f ∷ fs) = ap (λ gs. f ∷ gs) (list_back fs)

pub part_there : (b : Forms) (fs : List FormulaId) (f : FormulaId) → Contains fs f → Contains (formula_list (formulas_from (formulas_at b fs))) (formula_at b f)
part_there b fs f c = subst (λ gs. Contains gs (formula_at b f)) (sym (list_back (formulas_at b fs))) (map_to (formula_at b) fs f c)

-- ---- what occurs

pub told_of_part : (fs : Formulas) (f p : Formula) → Contains (formula_list fs) f → Contains (told_in f) p → Contains (all_told_in fs) p
told_of_part no_formulas f p c t = absurd (contains_none f c)
told_of_part (formula_then g fs) f p c t = ⊎_elim
    (λ e. Contains-append_left (told_in g) (all_told_in fs) p (subst (λ x. Contains (told_in x) p) (sym e) t))
    (λ k. Contains-append_right (told_in g) (all_told_in fs) p (told_of_part fs f p k t))
    (contains_split g (formula_list fs) f c)

pub occur_itself : (fs : List Formula) → Occur fs fs
occur_itself fs p o = o

pub occur_trans : (fs gs hs : List Formula) → Occur fs gs → Occur gs hs → Occur fs hs
occur_trans fs gs hs f g p o = f p (g p o)

pub occur_of_fewer : (fs gs : List Formula) → Includes fs gs → Occur fs gs
occur_of_fewer fs gs i p o = (o.0, i o.0 o.1, o.2)

pub occur_append : (known fs gs : List Formula) → Occur known fs → Occur known gs → Occur known (fs ++ gs)
occur_append known fs gs f g p o = ⊎_elim (λ k. f p (o.0, k, o.2)) (λ k. g p (o.0, k, o.2)) (Contains-append_cases fs gs o.0 o.1)

-- the parts of a known formula
pub occur_parts : (known : List Formula) (f : Formula) (fs : Formulas) → Contains known f → ((p : Formula) → Contains (all_told_in fs) p → Contains (told_in f) p) → Occur known (formula_list fs)
occur_parts known f fs c t p o = (f, c, t p (told_of_part fs o.0 p o.1 o.2))
