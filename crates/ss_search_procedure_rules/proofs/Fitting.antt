-- Classes that fit known literals are a model of them.
use Rattle.std.proofs.Common.{◌≡◌, ℕ, List, [], ◌∷◌, Bool, true, false, not, ◌&&◌, eqb, refl, sym, ◌∙◌, ap, subst, ⊎_elim}
use Rattle.std.specs.Prelude.{◌==◌}
use Rattle.std.specs.Bool.{beq}
use Rattle.std.specs.List.{Contains, list_all, list_any}
use Rattle.std.proofs.lemmas.Bool.{true≢false, false≢true, cases_Bool, and_parts, and_from, eqb-true, eq-eqb, ne_eqb}
use Rattle.ss_logic.specs.Terms.{Term, Bound, App, Terms, no_terms, term_then}
use Rattle.ss_logic.specs.Formulas.{Predicate, Predicate-discrete, Equal, Formula, Literal, And, Or, Forall, Exists, neg}
use Rattle.ss_logic.specs.Equal.{same_term, same_term_equal, same_symbol, equal_symbols, same_predicate, equal_predicates, answer_from, same_formula, equal_formulas, same_formula_equal}
use Rattle.ss_logic.proofs.Truth.{neg_neg}
use Rattle.ss_logic_means.specs.Steps.{is_value}
use Rattle.ss_logic.specs.Occurring.{terms}
use Rattle.ss_logic_countermodels.specs.Refuting.{Model, Agrees, comes_out, told, classes_of, same_classes, are_congruent, are_alike, are_apart, is_equal_inside, implies}
use Rattle.ss_search_procedure_rules.specs.Closed.{Fits}
use Rattle.ss_search_procedure_rules.specs.Clashes.{Classing, classes_in, is_said_by, atom_by, model_by, FitsClasses}
use Rattle.ss_logic.proofs.Lists.{all_from, any_at, any_from}

same_classes_equal : (ns ks : List ℕ) → same_classes ns ks ≡ true → ns ≡ ks
same_classes_equal [] [] h = refl
same_classes_equal [] (k ∷ ks) h = absurd (false≢true h)
same_classes_equal (n ∷ ns) [] h = absurd (false≢true h)
same_classes_equal (n ∷ ns) (k ∷ ks) h =
    let p = and_parts (eqb n k) (same_classes ns ks) h in
    ap (λ x. x ∷ ns) (eqb-true n k p.0) ∙ ap (λ xs. k ∷ xs) (same_classes_equal ns ks p.1)

pub classes_themselves : (ns : List ℕ) → same_classes ns ns ≡ true
classes_themselves [] = refl
classes_themselves (n ∷ ns) = and_from (eqb n n) (same_classes ns ns) (eq-eqb n n refl) (classes_themselves ns)

implied : (a b : Bool) → (a ≡ true → b ≡ true) → implies a b ≡ true
implied true b h = h refl
implied false b h = refl

beq_same : (a b : Bool) → a ≡ b → beq a b ≡ true
beq_same true true e = refl
beq_same true false e = absurd (true≢false e)
beq_same false true e = absurd (false≢true e)
beq_same false false e = refl

pub predicate_itself : (p : Predicate) → same_predicate p p ≡ true
unfolding same_predicate
predicate_itself p = answer_from (Predicate-discrete p p) refl

-- ---- two terms, two atoms

module _ (class : Classing) (known : List Formula) (fits : FitsClasses class known) where
  abbrev m : Model
  m = model_by class known

  congruent_terms : (s t : Term) → Contains (terms known) s → Contains (terms known) t → are_congruent m s t ≡ true → class s ≡ class t
  congruent_terms (Bound j) t hs ht e = absurd (false≢true e)
  congruent_terms (App f ts) (Bound k) hs ht e = absurd (false≢true e)
  congruent_terms (App f ts) (App g us) hs ht e =
      let p = and_parts (same_symbol f g) (same_classes (classes_of m ts) (classes_of m us)) e in
      let is : f ≡ g = equal_symbols f g p.0 in
      fits.congruent f ts us hs (subst (λ h. Contains (terms known) (App h us)) (sym is) ht) (same_classes_equal (classes_in class ts) (classes_in class us) p.1)
      ∙ ap (λ h. class (App h us)) is

  apart_terms : (s t : Term) → Contains (terms known) s → Contains (terms known) t → are_apart m s t ≡ true
  apart_terms s t hs ht = by (is_value s) refl (is_value t) refl (same_term s t) refl (class s == class t) refl
    where
      by : (a : Bool) → is_value s ≡ a → (b : Bool) → is_value t ≡ b → (c : Bool) → same_term s t ≡ c → (d : Bool) → (class s == class t) ≡ d → not (a && b && not c && d) ≡ true
      by false ea b eb c ec d ed = refl
      by true ea false eb c ec d ed = refl
      by true ea true eb true ec d ed = refl
      by true ea true eb false ec false ed = refl
      by true ea true eb false ec true ed = absurd (false≢true (sym ec ∙ same_term_equal s t (fits.values s t hs ht ea eb (eqb-true (class s) (class t) ed))))

  alike_atoms : (f g : Formula) → are_alike m f g ≡ true → m.truth f ≡ m.truth g
  alike_atoms (Literal r p ts) (Literal s q us) e =
      let h = and_parts (same_predicate p q) (same_classes (classes_of m ts) (classes_of m us)) e in
      ap (λ k. atom_by class known k (classes_in class ts)) (equal_predicates p q h.0) ∙ ap (atom_by class known q) (same_classes_equal (classes_in class ts) (classes_in class us) h.1)
  alike_atoms f g e = absurd (false≢true e)

  is_inside : (f : Formula) → is_equal_inside m f ≡ true
  is_inside (Literal sign Equal (term_then x (term_then y no_terms))) = beq_same (class x == class y) (class x == class y) refl
  is_inside f = refl

  -- ---- what is known comes out true

  positive : (p : Predicate) (ts : Terms) → Contains known (Literal true p ts) → atom_by class known p (classes_in class ts) ≡ true
  positive Equal (term_then x (term_then y no_terms)) h = eq-eqb (class x) (class y) (fits.equal x y h)
  positive p ts h = any_from (is_said_by p (classes_in class ts) class) known (Literal true p ts) h
      (and_from (same_predicate p p) (same_classes (classes_in class ts) (classes_in class ts)) (predicate_itself p) (classes_themselves (classes_in class ts)))

  said : (p : Predicate) (ns : List ℕ) (g : Formula) → is_said_by p ns class g ≡ true → (us : Terms) × (g ≡ Literal true p us) × (ns ≡ classes_in class us)
  said p ns (Literal true q us) e =
      let h = and_parts (same_predicate p q) (same_classes ns (classes_in class us)) e in
      (us, ap (λ k. Literal true k us) (sym (equal_predicates p q h.0)), same_classes_equal ns (classes_in class us) h.1)
  said p ns g e = absurd (false≢true e)

  unsaid : (p : Predicate) (ts : Terms) → Contains known (Literal false p ts) → list_any (is_said_by p (classes_in class ts) class) known ≡ false
  unsaid p ts h = ⊎_elim
      (λ e.
      let g = any_at (is_said_by p (classes_in class ts) class) known e in
      let s = said p (classes_in class ts) g.0 g.2 in
      absurd (fits.agreeing p s.0 ts (subst (Contains known) s.1 g.1) h (sym s.2)))
      (λ (e : list_any (is_said_by p (classes_in class ts) class) known ≡ false). e)
      (cases_Bool (list_any (is_said_by p (classes_in class ts) class) known))

  negative : (p : Predicate) (ts : Terms) → Contains known (Literal false p ts) → atom_by class known p (classes_in class ts) ≡ false
  negative Equal (term_then x (term_then y no_terms)) h = ne_eqb (class x) (class y) (fits.different x y h)
  negative p ts h = unsaid p ts h

  unknown : (f : Formula) → Contains known (neg f) → list_any (same_formula f) known ≡ false
  unknown f h = ⊎_elim
      (λ e.
      let g = any_at (same_formula f) known e in
      absurd (fits.unopposed f (subst (Contains known) (sym (equal_formulas f g.0 g.2)) g.1) h))
      (λ (e : list_any (same_formula f) known ≡ false). e)
      (cases_Bool (list_any (same_formula f) known))

  pub known_true : (f : Formula) → Contains known f → comes_out m f ≡ true
  known_true (Literal true p ts) h = ap (λ b. beq b true) (positive p ts h)
  known_true (Literal false p ts) h = ap (λ b. beq b false) (negative p ts h)
  known_true (And fs) h = absurd (false≢true (fits.basic (And fs) h))
  known_true (Or fs) h = absurd (false≢true (fits.basic (Or fs) h))
  known_true (Forall ss f) h = any_from (same_formula (Forall ss f)) known (Forall ss f) h (same_formula_equal (Forall ss f) (Forall ss f) refl)
  known_true (Exists ss f) h = ap not (unknown (Forall ss (neg f)) (subst (Contains known) (sym (ap (Exists ss) (neg_neg f))) h))

  pub fitting_agrees : Agrees m known
  fitting_agrees = record {
    true_ones = all_from (comes_out m) known known_true;
    congruent = all_from (λ s. list_all (λ t. implies (are_congruent m s t) (m.class s == m.class t)) (terms known)) (terms known)
        (λ s hs. all_from (λ t. implies (are_congruent m s t) (m.class s == m.class t)) (terms known)
        (λ t ht. implied (are_congruent m s t) (class s == class t) (λ e. eq-eqb (class s) (class t) (congruent_terms s t hs ht e))));
    alike = all_from (λ f. list_all (λ g. implies (are_alike m f g) (beq (m.truth f) (m.truth g))) (told known)) (told known)
        (λ f hf. all_from (λ g. implies (are_alike m f g) (beq (m.truth f) (m.truth g))) (told known)
        (λ g hg. implied (are_alike m f g) (beq (m.truth f) (m.truth g)) (λ e. beq_same (m.truth f) (m.truth g) (alike_atoms f g e))));
    inside = all_from (is_equal_inside m) (told known) (λ f h. is_inside f);
    apart = all_from (λ s. list_all (are_apart m s) (terms known)) (terms known) (λ s hs. all_from (are_apart m s) (terms known) (λ t ht. apart_terms s t hs ht));
  }

  pub fitting : Fits known
  fitting = record { model = m; agrees = fitting_agrees }
