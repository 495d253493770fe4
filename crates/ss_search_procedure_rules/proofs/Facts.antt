-- The facts of the model that fitting classes are.
use Rattle.std.proofs.Common.{◌≡◌, List, [], ◌∷◌, ◌++◌, map, filter, Bool, true, false, not, refl, sym, ◌∙◌, ap, subst, ◌⊎◌, ⊎_elim}
use Rattle.std.specs.Prelude.{◌==◌, if◌then◌else◌}
use Rattle.std.specs.Bool.{beq}
use Rattle.std.specs.List.{Contains, list_any}
use Rattle.std.proofs.lemmas.Bool.{false≢true, eqb-true}
use Rattle.std.proofs.lemmas.List.Elements.{Contains-append_cases, Contains-push_cases}
use Rattle.ss_core.specs.Tree.{ClassTree}
use Rattle.ss_logic.specs.Terms.{Term, Bound, App, Terms, no_terms, term_then}
use Rattle.ss_logic.specs.Formulas.{Formula, Literal, And, Or, Forall, Exists, neg}
use Rattle.ss_logic.specs.Equal.{same_term, same_term_equal}
use Rattle.ss_logic.proofs.Truth.{neg_neg}
use Rattle.ss_logic.specs.Shapes.{equal}
use Rattle.ss_linear_rules.specs.Two.{Two}
use Rattle.ss_logic.specs.Occurring.{with_term, with_arguments, with_terms_of, with_terms_of_all, atoms, terms}
use Rattle.ss_logic_countermodels.specs.Refuting.{Model, Refutes, told_in, told, as_told, is_whole, equalities_of, equalities, facts_of}
use Rattle.ss_logic.specs.Includes.{Includes}
use Rattle.ss_search_procedure_rules.specs.Clashes.{Classing, model_by, FitsClasses}
use Rattle.ss_logic.proofs.Lists.{contains_head, contains_cons, contains_split, contains_none, map_from, from_filter, any_from}
use Rattle.ss_search_procedure_rules.proofs.Occurring.{from_collected}
use Rattle.ss_search_procedure_rules.proofs.Sums.{two_of_more}
use Rattle.ss_search_procedure_rules.proofs.Fitting.{known_true, fitting_agrees}

-- ---- terms stand once

abbrev pub AreDistinct : List Term → Type 0
AreDistinct [] = Unit {0}
AreDistinct (t ∷ ts) = (Contains ts t → ⊥) × AreDistinct ts

distinct_push : (ts : List Term) (t : Term) → AreDistinct ts → (Contains ts t → ⊥) → AreDistinct (ts ++ t ∷ [])
distinct_push [] t d n = (λ h. contains_none t h, tt)
distinct_push (u ∷ ts) t d n = (
  λ h. ⊎_elim (λ k. d.0 k) (λ e. n (subst (Contains (u ∷ ts)) (sym e) (contains_head u ts))) (Contains-push_cases ts t u h),
  distinct_push ts t d.1 (λ h. n (contains_cons u ts t h)),
)

absent : (found : List Term) (t : Term) → list_any (same_term t) found ≡ false → Contains found t → ⊥
absent found t e h = false≢true (sym e ∙ any_from (same_term t) found t h (same_term_equal t t refl))

new_distinct : (t : Term) (ts : Terms) (found : List Term) (b : Bool) → list_any (same_term t) found ≡ b → AreDistinct found → (AreDistinct (found ++ t ∷ []) → AreDistinct (with_arguments (found ++ t ∷ []) ts)) →
    AreDistinct (if b then found else with_arguments (found ++ t ∷ []) ts)
new_distinct t ts found true e d rest = d
new_distinct t ts found false e d rest = rest (distinct_push found t d (absent found t e))

mutual
  term_distinct : (t : Term) (found : List Term) → AreDistinct found → AreDistinct (with_term found t)
  term_distinct (Bound k) found d = d
  term_distinct (App f ts) found d = new_distinct (App f ts) ts found (list_any (same_term (App f ts)) found) refl d (arguments_distinct ts (found ++ App f ts ∷ []))

  arguments_distinct : (ts : Terms) (found : List Term) → AreDistinct found → AreDistinct (with_arguments found ts)
  arguments_distinct no_terms found d = d
  arguments_distinct (term_then t ts) found d = arguments_distinct ts (with_term found t) (term_distinct t found d)

one_distinct : (f : Formula) (found : List Term) → AreDistinct found → AreDistinct (with_terms_of found f)
one_distinct (Literal sign p ts) found d = arguments_distinct ts found d
one_distinct (And fs) found d = d
one_distinct (Or fs) found d = d
one_distinct (Forall ss f) found d = d
one_distinct (Exists ss f) found d = d

all_distinct : (fs : List Formula) (found : List Term) → AreDistinct found → AreDistinct (with_terms_of_all found fs)
all_distinct [] found d = d
all_distinct (f ∷ fs) found d = all_distinct fs (with_terms_of found f) (one_distinct f found d)

pub terms_distinct : (fs : List Formula) → AreDistinct (terms fs)
terms_distinct fs = all_distinct (atoms fs) [] tt

pub filter_distinct : (p : Term → Bool) (ts : List Term) → AreDistinct ts → AreDistinct (filter p ts)
filter_distinct p [] d = tt
filter_distinct p (t ∷ ts) d = by (filter_distinct p ts d.1) (p t)
  where
    by : AreDistinct (filter p ts) → (b : Bool) → AreDistinct (if b then t ∷ filter p ts else filter p ts)
    by rest true = (λ h. d.0 (from_filter p ts t h).0, rest)
    by rest false = rest

-- ---- equalities

pub record IsEqualityIn (m : Model) (ts : List Term) (f : Formula) : Type 0 where
  pub left : Term
  pub right : Term
  pub left_in : Contains ts left
  pub right_in : Contains ts right
  pub classes : m.class left ≡ m.class right
  pub apart : left ≡ right → ⊥
  pub is : f ≡ equal left right

pub from_equalities : (m : Model) (ts : List Term) → AreDistinct ts → (f : Formula) → Contains (equalities m ts) f → IsEqualityIn m ts f
from_equalities m [] d f h = absurd (contains_none f h)
from_equalities m (t ∷ ts) d f h = ⊎_elim
    (λ k.
    let r = map_from (equal t) (filter (λ u. m.class t == m.class u) ts) f k in
    let s = from_filter (λ u. m.class t == m.class u) ts r.0 r.1 in
    record {
      left = t;
      right = r.0;
      left_in = contains_head t ts;
      right_in = contains_cons t ts r.0 s.0;
      classes = eqb-true (m.class t) (m.class r.0) s.1;
      apart = λ e. d.0 (subst (Contains ts) (sym e) s.0);
      is = sym r.2;
    })
    (λ k.
    let r = from_equalities m ts d.1 f k in
    record {
      left = r.left;
      right = r.right;
      left_in = contains_cons t ts r.left r.left_in;
      right_in = contains_cons t ts r.right r.right_in;
      classes = r.classes;
      apart = r.apart;
      is = r.is;
    })
    (Contains-append_cases (equalities_of m t ts) (equalities m ts) f h)

-- ---- facts

single : {A : Type 0} (x y : A) → Contains (x ∷ []) y → x ≡ y
single x y h = ⊎_elim (λ e. e) (λ k. absurd (contains_none y k)) (contains_split x [] y h)

truth_there : (b : Bool) → beq b true ≡ true → b ≡ true
truth_there true e = refl
truth_there false e = absurd (false≢true e)

truth_missing : (b : Bool) → beq b false ≡ true → b ≡ false
truth_missing true e = absurd (false≢true e)
truth_missing false e = refl

not_true : (b : Bool) → not b ≡ true → b ≡ false
not_true true e = absurd (false≢true e)
not_true false e = refl

module _ (cs : List ClassTree) (class : Classing) (known facts : List Formula) (fits : FitsClasses class known) (more : Includes facts known)
    (equal_ones : (s t : Term) → Contains (terms known) s → Contains (terms known) t → is_whole cs s ≡ true → is_whole cs t ≡ true → class s ≡ class t → (s ≡ t) ⊎ Contains facts (equal s t)) where
  abbrev m : Model
  m = model_by class known

  as_known : (p f : Formula) (holds : Bool) → m.truth p ≡ holds → (if holds then p else neg p) ≡ f → Contains known f → Contains known (as_told m p)
  as_known p f holds t e h = subst (Contains known) (sym (ap (λ b. if b then p else neg p) t ∙ e)) h

  told_known : (f p : Formula) → Contains known f → Contains (told_in f) p → Contains known (as_told m p)
  told_known (Literal true q ts) p h k =
      subst (λ x. Contains known (as_told m x)) (single (Literal true q ts) p k)
      (as_known (Literal true q ts) (Literal true q ts) true (truth_there (m.truth (Literal true q ts)) (known_true class known fits (Literal true q ts) h)) refl h)
  told_known (Literal false q ts) p h k =
      subst (λ x. Contains known (as_told m x)) (single (Literal true q ts) p k)
      (as_known (Literal true q ts) (Literal false q ts) false (truth_missing (m.truth (Literal true q ts)) (known_true class known fits (Literal false q ts) h)) refl h)
  told_known (And fs) p h k = absurd (false≢true (fits.basic (And fs) h))
  told_known (Or fs) p h k = absurd (false≢true (fits.basic (Or fs) h))
  told_known (Forall ss f) p h k =
      subst (λ x. Contains known (as_told m x)) (single (Forall ss f) p k)
      (as_known (Forall ss f) (Forall ss f) true (known_true class known fits (Forall ss f) h) refl h)
  told_known (Exists ss f) p h k =
      subst (λ x. Contains known (as_told m x)) (single (Forall ss (neg f)) p k)
      (as_known (Forall ss (neg f)) (Exists ss f) false (not_true (m.truth (Forall ss (neg f))) (known_true class known fits (Exists ss f) h)) (ap (Exists ss) (neg_neg f)) h)

  facts_there : Includes facts (facts_of cs m known)
  facts_there f h = ⊎_elim
      (λ k.
      let r = map_from (as_told m) (told known) f k in
      let s = from_collected told_in known r.0 r.1 in
      more f (subst (Contains known) r.2 (told_known s.0 r.0 s.1 s.2)))
      (λ k.
      let r = from_equalities m (filter (is_whole cs) (terms known)) (filter_distinct (is_whole cs) (terms known) (all_distinct (atoms known) [] tt)) f k in
      let s = from_filter (is_whole cs) (terms known) r.left r.left_in in
      let t = from_filter (is_whole cs) (terms known) r.right r.right_in in
      ⊎_elim (λ e. absurd (r.apart e)) (λ c. subst (Contains facts) (sym r.is) c) (equal_ones r.left r.right s.0 t.0 s.1 t.1 r.classes))
      (Contains-append_cases (map (as_told m) (told known)) (equalities m (filter (is_whole cs) (terms known))) f h)

  pub refuting : (Two cs facts → ⊥) → Refutes cs m known
  refuting none = record {
    agrees = fitting_agrees class known fits;
    numbers = λ t. none (two_of_more cs (facts_of cs m known) facts facts_there t);
  }
