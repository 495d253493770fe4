-- Models of ground forms: a class for each term, and a truth value for each atom and each quantified formula. A model refutes an
-- obligation where every formula of the ground form comes out true at it.
use Rattle.std.specs.Prelude.{◌≡◌, ℕ, suc, List, [], ◌∷◌, ◌++◌, length, map, filter, flat_map, Bool, true, false, not, ◌&&◌, ◌||◌, ◌==◌, if◌then◌else◌, Some}
use Rattle.std.specs.List.{slice_index_or, list_all}
use Rattle.std.specs.Bool.{beq}
use Rattle.ss_logic.specs.declared.Sort.TheVariants as sort
use Rattle.ss_logic.specs.Terms.{Term, App, Terms, no_terms, term_then, term_list, same_sort, sort_of}
use Rattle.ss_logic.specs.Formulas.{Equal, Formula, Formulas, Literal, And, Or, Forall, Exists, no_formulas, formula_then, neg}
use Rattle.ss_logic.specs.Equal.{same_term, same_symbol, same_predicate, same_formula}
use Rattle.ss_logic.specs.Shapes.{equal}
use Rattle.ss_logic_means.specs.Steps.{is_value}
use Rattle.ss_linear_rules.specs.Two.{Two}
use Rattle.ss_logic.specs.Occurring.{terms, with_formulas}
use Rattle.ss_logic.specs.Ground.{ground_form}
use Rattle.ss_logic_countermodels.specs.declared.Countermodel.{Countermodel}
use Rattle.ss_core.specs.Tree.{ClassTree}

pub record Model : Type 0 where
  pub class : Term → ℕ
  pub truth : Formula → Bool

-- ---- what a formula comes out as

abbrev mutual
  pub comes_out : Model → Formula → Bool
  comes_out m (Literal sign p ts) = beq (m.truth (Literal true p ts)) sign
  comes_out m (And fs) = all_come_true m fs
  comes_out m (Or fs) = some_comes_true m fs
  comes_out m (Forall ss f) = m.truth (Forall ss f)
  comes_out m (Exists ss f) = not (m.truth (Forall ss (neg f)))

  pub all_come_true : Model → Formulas → Bool
  all_come_true m no_formulas = true
  all_come_true m (formula_then f fs) = comes_out m f && all_come_true m fs

  pub some_comes_true : Model → Formulas → Bool
  some_comes_true m no_formulas = false
  some_comes_true m (formula_then f fs) = comes_out m f || some_comes_true m fs

-- ---- what has a truth value

-- atoms and `forall`s outside quantified formulas, in the order of the text
abbrev mutual
  pub told_in : Formula → List Formula
  told_in (Literal sign p ts) = Literal true p ts ∷ []
  told_in (And fs) = all_told_in fs
  told_in (Or fs) = all_told_in fs
  told_in (Forall ss f) = Forall ss f ∷ []
  told_in (Exists ss f) = Forall ss (neg f) ∷ []

  pub all_told_in : Formulas → List Formula
  all_told_in no_formulas = []
  all_told_in (formula_then f fs) = told_in f ++ all_told_in fs

-- each once, at its first place
abbrev pub told : List Formula → List Formula
told fs = with_formulas [] (flat_map told_in fs)

-- ---- equality

abbrev pub classes_of : Model → Terms → List ℕ
classes_of m ts = map m.class (term_list ts)

abbrev pub same_classes : List ℕ → List ℕ → Bool
same_classes [] [] = true
same_classes [] (n ∷ ns) = false
same_classes (k ∷ ks) [] = false
same_classes (k ∷ ks) (n ∷ ns) = k == n && same_classes ks ns

-- one function at arguments of equal classes
abbrev pub are_congruent : Model → Term → Term → Bool
are_congruent m (App f ts) (App g us) = same_symbol f g && same_classes (classes_of m ts) (classes_of m us)
are_congruent m s t = false

-- atoms of one name at arguments of equal classes
abbrev pub are_alike : Model → Formula → Formula → Bool
are_alike m (Literal r p ts) (Literal s q us) = same_predicate p q && same_classes (classes_of m ts) (classes_of m us)
are_alike m f g = false

-- an equality is true exactly inside a class
abbrev pub is_equal_inside : Model → Formula → Bool
is_equal_inside m (Literal sign Equal (term_then x (term_then y no_terms))) = beq (m.truth (Literal true Equal (term_then x (term_then y no_terms)))) (m.class x == m.class y)
is_equal_inside m f = true

-- two different values have different classes
abbrev pub are_apart : Model → Term → Term → Bool
are_apart m s t = not (is_value s && is_value t && not (same_term s t) && m.class s == m.class t)

abbrev pub implies : Bool → Bool → Bool
implies a b = not a || b

-- The model makes each formula true; equal terms have equal functions of them; equality is that of the classes, and values differ.
pub record Agrees (m : Model) (fs : List Formula) : Type 0 where
  pub true_ones : list_all (comes_out m) fs ≡ true
  pub congruent : list_all (λ s. list_all (λ t. implies (are_congruent m s t) (m.class s == m.class t)) (terms fs)) (terms fs) ≡ true
  pub alike : list_all (λ f. list_all (λ g. implies (are_alike m f g) (beq (m.truth f) (m.truth g))) (told fs)) (told fs) ≡ true
  pub inside : list_all (is_equal_inside m) (told fs) ≡ true
  pub apart : list_all (λ s. list_all (are_apart m s) (terms fs)) (terms fs) ≡ true

-- ---- numbers

-- what has a truth value, where that is true, and else its negation
abbrev pub as_told : Model → Formula → Formula
as_told m f = if m.truth f then f else neg f

abbrev pub is_whole : List ClassTree → Term → Bool
is_whole cs t = same_sort (sort_of cs [] t) sort.Whole

-- the equalities of a term with those of the list that are in its class
abbrev pub equalities_of : Model → Term → List Term → List Formula
equalities_of m s ts = map (equal s) (filter (λ t. m.class s == m.class t) ts)

-- of each two terms of one class
abbrev pub equalities : Model → List Term → List Formula
equalities m [] = []
equalities m (t ∷ ts) = equalities_of m t ts ++ equalities m ts

-- what the model makes true, and the equalities of whole numbers of one class
abbrev pub facts_of : List ClassTree → Model → List Formula → List Formula
facts_of cs m fs = map (as_told m) (told fs) ++ equalities m (filter (is_whole cs) (terms fs))

-- It agrees with the formulas, and no sum of one or two of its facts, or of differences among them, is a contradiction. More isn't asked of numbers.
pub record Refutes (cs : List ClassTree) (m : Model) (fs : List Formula) : Type 0 where
  pub agrees : Agrees m fs
  pub numbers : Two cs (facts_of cs m fs) → ⊥

-- ---- as lists

-- the place at which it stands first; the length of the list where it doesn't
abbrev pub place_among : {X : Type 0} → (X → Bool) → List X → ℕ
place_among is [] = 0
place_among is (x ∷ xs) = if is x then 0 else suc (place_among is xs)

-- The model with these classes of the terms of a list and these truth values of what is told in it. Both are by first occurrence.
abbrev pub model_of : List Formula → List ℕ → List Bool → Model
model_of fs classes truths = record {
  class = λ t. slice_index_or classes (place_among (same_term t) (terms fs)) 0;
  truth = λ f. slice_index_or truths (place_among (same_formula f) (told fs)) false;
}

-- The lists have a class for each term of the formulas and a truth value for each formula that is told in them, no more. As a model they
-- refute the formulas.
pub record IsCountermodel (cs : List ClassTree) (fs : List Formula) (c : Countermodel) : Type 0 where
  pub classes : length c.classes.items ≡ length (terms fs)
  pub truth : length c.truth.items ≡ length (told fs)
  pub refutes : Refutes cs (model_of fs c.classes.items c.truth.items) fs

-- The model refutes the obligation: it refutes its ground form after this many rounds, which has no more than `limit` formulas.
pub record RefutesGround (cs : List ClassTree) (premises : List Formula) (goal : Formula) (rounds limit : ℕ) (c : Countermodel) : Type 0 where
  pub formulas : List Formula
  pub ground : ground_form cs premises goal rounds limit ≡ Some formulas
  pub refutes : IsCountermodel cs formulas c
