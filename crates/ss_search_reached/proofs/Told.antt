-- The model that is told of what is known.
use Rattle.std.proofs.Common.{◌≡◌, ℕ, suc, ◌+◌, List, [], ◌∷◌, ◌++◌, length, map, Bool, true, false, refl, sym, ◌∙◌, ap, subst, ◌⊎◌, ⊎_elim, arith}
use Rattle.std.specs.Prelude.{◌↔◌, ◌==◌, slice_index_or, if◌then◌else◌}
use Rattle.std.specs.List.{Contains}
use Rattle.std.proofs.lemmas.Bool.{true≢false, false≢true, cases_Bool, eqb-true, eq-eqb}
use Rattle.std.proofs.lemmas.List.{length-map}
use Rattle.std.proofs.lemmas.List.Elements.{Contains-append_left, Contains-append_right, Contains-append_cases}
use Rattle.ss_core.specs.Tree.{ClassTree}
use Rattle.ss_bit_set.specs.Marked.{marked}
use Rattle.ss_logic.specs.Terms.{Symbol, Term, Bound, App, Terms, no_terms, term_then, term_list, terms_from}
use Rattle.ss_logic.specs.Formulas.{Predicate, Formula, Formulas, Literal, And, Or, Forall, Exists, no_formulas, formula_then, formulas_from, neg}
use Rattle.ss_logic.specs.Equal.{same_term, equal_terms, same_term_equal, same_formula, equal_formulas, same_formula_equal}
use Rattle.ss_logic.specs.Occurring.{atoms_in, all_atoms_in, atoms, terms}
use Rattle.ss_logic_countermodels.specs.declared.Countermodel.{Countermodel}
use Rattle.ss_logic_countermodels.specs.Refuting.{Model, Refutes, IsCountermodel, told_in, all_told_in, told, model_of, place_among}
use Rattle.ss_terms.specs.declared.forms.TermId.{TermId}
use Rattle.ss_terms.specs.declared.forms.FormulaId.{FormulaId}
use Rattle.ss_terms.specs.Forms.{Forms, TermShape, BoundShape, AppShape, Shape, LiteralShape, AndShape, OrShape, ForallShape, ExistsShape, ShapeBelow, predicate_of, formula_of, term_at, terms_at, term_of, formula_at, formulas_at, HasTerm, HasTerms, HasFormulas, AreTermsBelow, TermBelow}
use Rattle.ss_terms.specs.Apart.{AreApart}
use Rattle.ss_equality_rules.specs.Equal.{AreFormsOf, class_number}
use Rattle.ss_terms.proofs.Sorted.{list_back}
use Rattle.ss_equality_rules.proofs.Lists.{there}
use Rattle.ss_search_clashes.specs.Numbered.{class_of, IsClassing}
use Rattle.ss_logic.specs.Includes.{Includes}
use Rattle.ss_search_procedure_rules.specs.Closed.{basics, IsTotal}
use Rattle.ss_search_procedure_rules.specs.Clashes.{model_by}
use Rattle.ss_logic.proofs.Lists.{contains_head, contains_cons, contains_none, contains_split, map_from, map_to}
use Rattle.ss_search_procedure_rules.proofs.Occurring.{subterms, all_subterms, terms_in, from_all, all_there, from_collected, to_collected}
use Rattle.ss_search_reached.specs.declared.reached.Reached.{Reached}
use Rattle.ss_search_reached.specs.Known.{known_in, is_name, IsReached}
use Rattle.ss_search_reached.specs.Following.{AreOneClass, IsOpen}
use Rattle.ss_search_reached.specs.Models.{HasNumber, HasArguments, renumbered}
use Rattle.ss_search_reached.proofs.Lists.{single, has_formula, has_term}
use Rattle.ss_search_reached.proofs.Marks.{knows_right}
use Rattle.ss_search_reached.proofs.Saturated.{open_is_saturated, open_model}
use Rattle.ss_search_reached.proofs.Total.{known_truth, told_true, refutes_known}
use Rattle.ss_search_reached.proofs.Alike.{refutes_alike}

-- ---- what is listed by first occurrence

listed_term : (h : Term → ℕ) (xs : List Term) (t : Term) → Contains xs t → slice_index_or (map h xs) (place_among (same_term t) xs) 0 ≡ h t
listed_term h [] t c = absurd (contains_none t c)
listed_term h (x ∷ xs) t c = by (same_term t x) refl (λ k. listed_term h xs t k)
  where
    by : (b : Bool) → same_term t x ≡ b → (Contains xs t → slice_index_or (map h xs) (place_among (same_term t) xs) 0 ≡ h t) → slice_index_or (h x ∷ map h xs) (if b then 0 else suc (place_among (same_term t) xs)) 0 ≡ h t
    by true e rest = ap h (sym (equal_terms t x e))
    by false e rest = rest (⊎_elim (λ s. absurd (false≢true (sym e ∙ same_term_equal t x (sym s)))) (λ k. k) (contains_split x xs t c))

unlisted_term : (h : Term → ℕ) (xs : List Term) (t : Term) → (Contains xs t → ⊥) → slice_index_or (map h xs) (place_among (same_term t) xs) 0 ≡ 0
unlisted_term h [] t n = refl
unlisted_term h (x ∷ xs) t n = by (same_term t x) refl (unlisted_term h xs t (λ c. n (contains_cons x xs t c)))
  where
    by : (b : Bool) → same_term t x ≡ b → slice_index_or (map h xs) (place_among (same_term t) xs) 0 ≡ 0 → slice_index_or (h x ∷ map h xs) (if b then 0 else suc (place_among (same_term t) xs)) 0 ≡ 0
    by true s rest = absurd (n (subst (Contains (x ∷ xs)) (sym (equal_terms t x s)) (contains_head x xs)))
    by false s rest = rest

listed_formula : (h : Formula → Bool) (xs : List Formula) (p : Formula) → Contains xs p → slice_index_or (map h xs) (place_among (same_formula p) xs) false ≡ h p
listed_formula h [] p c = absurd (contains_none p c)
listed_formula h (x ∷ xs) p c = by (same_formula p x) refl (λ k. listed_formula h xs p k)
  where
    by : (b : Bool) → same_formula p x ≡ b → (Contains xs p → slice_index_or (map h xs) (place_among (same_formula p) xs) false ≡ h p) → slice_index_or (h x ∷ map h xs) (if b then 0 else suc (place_among (same_formula p) xs)) false ≡ h p
    by true e rest = ap h (sym (equal_formulas p x e))
    by false e rest = rest (⊎_elim (λ s. absurd (false≢true (sym e ∙ same_formula_equal p x (sym s)))) (λ k. k) (contains_split x xs p c))

-- ---- classes by other numbers

same_bool : (p q : Bool) → (p ≡ true → q ≡ true) → (q ≡ true → p ≡ true) → p ≡ q
same_bool true q f g = sym (f refl)
same_bool false true f g = g refl
same_bool false false f g = refl

renumbered_apart : (names a b : ℕ) → renumbered names a ≡ renumbered names b → a ≡ b
renumbered_apart names a b e = by (a == names) (b == names) refl refl e
  where
    by : (p q : Bool) → (a == names) ≡ p → (b == names) ≡ q → (if p then 0 else a + 1) ≡ (if q then 0 else b + 1) → a ≡ b
    by true true x y z = eqb-true a names x ∙ sym (eqb-true b names y)
    by true false x y z = let w : 0 ≡ b + 1 = z in absurd (omega (arith, w))
    by false true x y z = let w : a + 1 ≡ 0 = z in absurd (omega (arith, w))
    by false false x y z = let w : a + 1 ≡ b + 1 = z in omega (arith, w)

renumbered_once : (names a b : ℕ) → (renumbered names a == renumbered names b) ≡ (a == b)
renumbered_once names a b = same_bool (renumbered names a == renumbered names b) (a == b)
    (λ e. eq-eqb a b (renumbered_apart names a b (eqb-true (renumbered names a) (renumbered names b) e)))
    (λ e. eq-eqb (renumbered names a) (renumbered names b) (ap (renumbered names) (eqb-true a b e)))

renumbered_names : (names k : ℕ) → k ≡ names → renumbered names k ≡ 0
renumbered_names names k e = ap (λ (p : Bool). if p then 0 else k + 1) (eq-eqb k names e)

-- ---- numbers that stand for terms and formulas

terms_mapped : (b : Forms) (h : TermId → ℕ) (g : Term → ℕ) (ts : List TermId) → HasTerms b ts → ((t : TermId) → HasTerm b t → h t ≡ g (term_at b t)) → map h ts ≡ map g (terms_at b ts)
terms_mapped b h g [] has e = refl
terms_mapped b h g (t ∷ ts) has e = ap (λ n. n ∷ map h ts) (e t has.0) ∙ ap (λ ns. g (term_at b t) ∷ ns) (terms_mapped b h g ts has.1 e)

formulas_mapped : (b : Forms) (h : FormulaId → Bool) (g : Formula → Bool) (fs : List FormulaId) → ((f : FormulaId) → Contains fs f → h f ≡ g (formula_at b f)) → map h fs ≡ map g (formulas_at b fs)
formulas_mapped b h g [] e = refl
formulas_mapped b h g (f ∷ fs) e = ap (λ v. v ∷ map h fs) (e f (contains_head f fs)) ∙ ap (λ vs. g (formula_at b f) ∷ vs) (formulas_mapped b h g fs (λ k c. e k (contains_cons f fs k c)))

-- ---- terms and their arguments

mutual
  sub_through : (t : Term) (f : Symbol) (ts : Terms) (y : Term) → Contains (subterms t) (App f ts) → Contains (all_subterms ts) y → Contains (subterms t) y
  sub_through (Bound k) f ts y h c = absurd (contains_none (App f ts) h)
  sub_through (App g us) f ts y h c = ⊎_elim
      (λ e. let same : us ≡ ts = cc in contains_cons (App g us) (all_subterms us) y (subst (λ vs. Contains (all_subterms vs) y) (sym same) c))
      (λ k. contains_cons (App g us) (all_subterms us) y (all_through us f ts y k c))
      (contains_split (App g us) (all_subterms us) (App f ts) h)

  all_through : (us : Terms) (f : Symbol) (ts : Terms) (y : Term) → Contains (all_subterms us) (App f ts) → Contains (all_subterms ts) y → Contains (all_subterms us) y
  all_through no_terms f ts y h c = absurd (contains_none (App f ts) h)
  all_through (term_then u us) f ts y h c = ⊎_elim
      (λ k. Contains-append_left (subterms u) (all_subterms us) y (sub_through u f ts y k c))
      (λ k. Contains-append_right (subterms u) (all_subterms us) y (all_through us f ts y k c))
      (Contains-append_cases (subterms u) (all_subterms us) (App f ts) h)

-- an argument that is no name is a subterm
argument : (ts : Terms) (x : Term) → Contains (term_list ts) x → is_name x ≡ false → Contains (all_subterms ts) x
argument no_terms x c n = absurd (contains_none x c)
argument (term_then t ts) x c n = ⊎_elim
    (λ e. Contains-append_left (subterms t) (all_subterms ts) x (itself t x e n))
    (λ k. Contains-append_right (subterms t) (all_subterms ts) x (argument ts x k n))
    (contains_split t (term_list ts) x c)
  where
    itself : (t x : Term) → t ≡ x → is_name x ≡ false → Contains (subterms t) x
    itself (Bound k) x e n = absurd (true≢false (ap is_name e ∙ n))
    itself (App f us) x e n = subst (Contains (App f us ∷ all_subterms us)) e (contains_head (App f us) (all_subterms us))

mutual
  no_sub_name : (t x : Term) → Contains (subterms t) x → is_name x ≡ false
  no_sub_name (Bound k) x h = absurd (contains_none x h)
  no_sub_name (App f ts) x h = ⊎_elim (λ e. ap is_name (sym e)) (λ k. no_sub_names ts x k) (contains_split (App f ts) (all_subterms ts) x h)

  no_sub_names : (ts : Terms) (x : Term) → Contains (all_subterms ts) x → is_name x ≡ false
  no_sub_names no_terms x h = absurd (contains_none x h)
  no_sub_names (term_then t ts) x h = ⊎_elim (λ k. no_sub_name t x k) (λ k. no_sub_names ts x k) (Contains-append_cases (subterms t) (all_subterms ts) x h)

no_name_in : (f : Formula) (x : Term) → Contains (terms_in f) x → is_name x ≡ false
no_name_in (Literal sign p ts) x h = no_sub_names ts x h
no_name_in f x h = absurd (contains_none x h)

mutual
  atom_told_in : (f : Formula) (sign : Bool) (p : Predicate) (ts : Terms) → Contains (told_in f) (Literal sign p ts) → Contains (atoms_in f) (Literal sign p ts)
  atom_told_in (Literal s q us) sign p ts c = c
  atom_told_in (And gs) sign p ts c = atoms_told_in gs sign p ts c
  atom_told_in (Or gs) sign p ts c = atoms_told_in gs sign p ts c
  atom_told_in (Forall ss f) sign p ts c = let clash : Forall ss f ≡ Literal sign p ts = single (Forall ss f) (Literal sign p ts) c in cc
  atom_told_in (Exists ss f) sign p ts c = let clash : Forall ss (neg f) ≡ Literal sign p ts = single (Forall ss (neg f)) (Literal sign p ts) c in cc

  atoms_told_in : (gs : Formulas) (sign : Bool) (p : Predicate) (ts : Terms) → Contains (all_told_in gs) (Literal sign p ts) → Contains (all_atoms_in gs) (Literal sign p ts)
  atoms_told_in no_formulas sign p ts c = c
  atoms_told_in (formula_then g gs) sign p ts c = ⊎_elim
      (λ k. Contains-append_left (atoms_in g) (all_atoms_in gs) (Literal sign p ts) (atom_told_in g sign p ts k))
      (λ k. Contains-append_right (atoms_in g) (all_atoms_in gs) (Literal sign p ts) (atoms_told_in gs sign p ts k))
      (Contains-append_cases (told_in g) (all_told_in gs) (Literal sign p ts) c)

module _ (fs : List Formula) where
  occurs_at : (x : Term) → Contains (terms fs) x → (f : Formula) × Contains (atoms fs) f × Contains (terms_in f) x
  occurs_at x h = ⊎_elim (λ a. absurd (contains_none x a)) (λ r. r) (from_all (atoms fs) [] x h)

  no_name : (x : Term) → Contains (terms fs) x → is_name x ≡ false
  no_name x h = let r = occurs_at x h in no_name_in r.0 x r.2

  inner_there : (f : Symbol) (ts : Terms) → Contains (terms fs) (App f ts) → (x : Term) → Contains (term_list ts) x → is_name x ≡ false → Contains (terms fs) x
  inner_there f ts h x c n =
      let r = occurs_at (App f ts) h in
      all_there (atoms fs) r.0 r.1 x (deep r.0 r.2)
    where
      deep : (g : Formula) → Contains (terms_in g) (App f ts) → Contains (terms_in g) x
      deep (Literal sign p us) k = all_through us f ts x k (argument ts x c n)
      deep g k = absurd (contains_none (App f ts) k)

  outer_there : (sign : Bool) (p : Predicate) (ts : Terms) → Contains (told fs) (Literal sign p ts) → (x : Term) → Contains (term_list ts) x → is_name x ≡ false → Contains (terms fs) x
  outer_there sign p ts h x c n =
      let r = from_collected told_in fs (Literal sign p ts) h in
      all_there (atoms fs) (Literal sign p ts) (to_collected atoms_in fs r.0 (Literal sign p ts) r.1 (atom_told_in r.0 sign p ts r.2)) x (argument ts x c n)

-- the arguments of a term of a bank
inner_numbers : (b : Forms) (shapes : List TermShape) → AreFormsOf b shapes → (t : TermId) (f : Symbol) (ts : Terms) → HasTerm b t → term_at b t ≡ App f ts → (x : Term) → Contains (term_list ts) x → HasNumber b x
inner_numbers b shapes are t f ts h e x c =
    let r = there shapes t.0 (let a = are.all in omega (arith, h, a)) in
    by r.0 (sym (are.built t.0 r.0 r.1) ∙ e) (are.below t.0 r.0 r.1)
  where
    number_of : (ys : List TermId) → AreTermsBelow t.0 ys → Contains (terms_at b ys) x → HasNumber b x
    number_of [] below k = absurd (contains_none x k)
    number_of (y ∷ ys) below k = ⊎_elim (λ s. record { term = y; has = omega (arith, below.0, h); is = s }) (λ l. number_of ys below.1 l) (contains_split (term_at b y) (terms_at b ys) x k)

    by : (n : TermShape) → term_of (term_at b) n ≡ App f ts → TermBelow t.0 n → HasNumber b x
    by (BoundShape k) is below = cc
    by (AppShape g ys) is below =
        let arguments : terms_from (terms_at b ys) ≡ ts = cc in
        number_of ys below (subst (λ xs. Contains xs x) (ap term_list (sym arguments) ∙ list_back (terms_at b ys)) c)

number_in : (b : Forms) (x : Term) (ys : List TermId) → HasTerms b ys → Contains (terms_at b ys) x → HasNumber b x
number_in b x [] has k = absurd (contains_none x k)
number_in b x (y ∷ ys) has k = ⊎_elim (λ s. record { term = y; has = has.0; is = s }) (λ l. number_in b x ys has.1 l) (contains_split (term_at b y) (terms_at b ys) x k)

-- the arguments of a literal
pub outer_numbers : (b : Forms) (f : FormulaId) (n : Shape) → formula_at b f ≡ formula_of (term_at b) (formula_at b) n → ShapeBelow (length b.terms) f.0 n → HasArguments b (formula_at b f)
outer_numbers b f (LiteralShape h q ys) e below sign p ts is x c =
    let same : Literal h (predicate_of q) (terms_from (terms_at b ys)) ≡ Literal sign p ts = sym e ∙ is in
    let arguments : terms_from (terms_at b ys) ≡ ts = cc in
    number_in b x ys below (subst (λ xs. Contains xs x) (ap term_list (sym arguments) ∙ list_back (terms_at b ys)) c)
outer_numbers b f (AndShape gs) e below sign p ts is x c = let clash : And (formulas_from (formulas_at b gs)) ≡ Literal sign p ts = sym e ∙ is in cc
outer_numbers b f (OrShape gs) e below sign p ts is x c = let clash : Or (formulas_from (formulas_at b gs)) ≡ Literal sign p ts = sym e ∙ is in cc
outer_numbers b f (ForallShape ss g) e below sign p ts is x c = let clash : Forall ss (formula_at b g) ≡ Literal sign p ts = sym e ∙ is in cc
outer_numbers b f (ExistsShape ss g) e below sign p ts is x c = let clash : Exists ss (formula_at b g) ≡ Literal sign p ts = sym e ∙ is in cc

-- ---- the model

module _ (cs : List ClassTree) (b : Forms) (apart : AreApart b) (r : Reached) (reached : IsReached b r) (whole : IsOpen cs b r) (classing : IsClassing b r.classes.items (class_of b r.classes.items))
    (fs : List Formula) (choices : List FormulaId) (has : HasFormulas b choices) (told_is : formulas_at b choices ≡ told fs) (total : IsTotal (known_in b r)) (i : Includes (known_in b r) fs)
    (ts : List TermId) (has_terms : HasTerms b ts) (these : terms_at b ts ≡ terms fs)
    (last : ℕ) (names : AreOneClass b r.classes.items → (t : TermId) → HasTerm b t → is_name (term_at b t) ≡ true → class_number r.classes.items t ≡ last)
    (arguments : (f : FormulaId) → Contains choices f → HasArguments b (formula_at b f)) where
  abbrev class : Term → ℕ
  class = class_of b r.classes.items

  abbrev m : Model
  m = (open_is_saturated cs b r whole).model

  is : m ≡ model_by class (basics (known_in b r))
  is = open_model cs b r whole

  class_is : (x : Term) → m.class x ≡ class x
  class_is x = ap (λ (z : Model). z.class x) is

  abbrev moved : ℕ → ℕ
  moved = renumbered last

  abbrev numbers : List ℕ
  numbers = map (λ t. moved (class_number r.classes.items t)) ts

  abbrev values : List Bool
  values = map (λ f. marked r.numbers f.0) choices

  abbrev n : Model
  n = model_of fs numbers values

  numbers_are : numbers ≡ map (λ x. moved (class x)) (terms fs)
  numbers_are = terms_mapped b (λ t. moved (class_number r.classes.items t)) (λ x. moved (class x)) ts has_terms (λ t h. ap moved (sym (classing.at t h))) ∙ ap (map (λ x. moved (class x))) these

  is_choice : (f : FormulaId) → Contains choices f → Contains (told fs) (formula_at b f)
  is_choice f c = subst (λ gs. Contains gs (formula_at b f)) told_is (map_to (formula_at b) choices f c)

  marks : (f : FormulaId) → Contains choices f → (marked r.numbers f.0 ≡ true) ↔ Contains (known_in b r) (formula_at b f)
  marks f c = knows_right b apart r.numbers r.known.items f (marked r.numbers f.0) reached.has (has_formula b choices f has c) reached.marked refl

  truth_of : (f : FormulaId) → Contains choices f → marked r.numbers f.0 ≡ m.truth (formula_at b f)
  truth_of f c = ⊎_elim
      (λ k. (marks f c).1 k.0 ∙ sym k.1)
      (λ k. ⊎_elim
      (λ t. absurd (true≢false (sym (told_true cs (known_in b r) fs class (open_is_saturated cs b r whole) is whole.sums total i (formula_at b f) (is_choice f c) ((marks f c).0 t)) ∙ k.1)))
      (λ e. e ∙ sym k.1)
      (cases_Bool (marked r.numbers f.0)))
      (known_truth cs (known_in b r) fs class (open_is_saturated cs b r whole) is whole.sums total i (formula_at b f) (is_choice f c))

  values_are : values ≡ map m.truth (told fs)
  values_are = formulas_mapped b (λ f. marked r.numbers f.0) m.truth choices truth_of ∙ ap (map m.truth) told_is

  truths : (p : Formula) → Contains (told fs) p → n.truth p ≡ m.truth p
  truths p c = ap (λ vs. slice_index_or vs (place_among (same_formula p) (told fs)) false) values_are ∙ listed_formula m.truth (told fs) p c

  listed : (x : Term) → Contains (terms fs) x → n.class x ≡ moved (m.class x)
  listed x c = ap (λ ns. slice_index_or ns (place_among (same_term x) (terms fs)) 0) numbers_are ∙ listed_term (λ y. moved (class y)) (terms fs) x c ∙ ap moved (sym (class_is x))

  unlisted : (x : Term) → HasNumber b x → is_name x ≡ true → n.class x ≡ moved (m.class x)
  unlisted x h name =
      ap (λ ns. slice_index_or ns (place_among (same_term x) (terms fs)) 0) numbers_are
      ∙ unlisted_term (λ y. moved (class y)) (terms fs) x (λ c. true≢false (sym name ∙ no_name fs x c))
      ∙ sym (renumbered_names last (m.class x) (class_is x ∙ ap class (sym h.is) ∙ classing.at h.term h.has ∙ names whole.names h.term h.has (ap is_name h.is ∙ name)))

  either : (x : Term) → HasNumber b x → (is_name x ≡ false → Contains (terms fs) x) → n.class x ≡ moved (m.class x)
  either x h there = ⊎_elim (λ e. unlisted x h e) (λ e. listed x (there e)) (cases_Bool (is_name x))

  inner : (f : Symbol) (us : Terms) → Contains (terms fs) (App f us) → (x : Term) → Contains (term_list us) x → n.class x ≡ moved (m.class x)
  inner f us c x d =
      let t = map_from (term_at b) ts (App f us) (subst (λ xs. Contains xs (App f us)) (sym these) c) in
      either x (inner_numbers b r.congruence.terms reached.kept.forms t.0 f us (has_term b ts t.0 has_terms t.1) t.2 x d) (inner_there fs f us c x d)

  outer : (sign : Bool) (p : Predicate) (us : Terms) → Contains (told fs) (Literal sign p us) → (x : Term) → Contains (term_list us) x → n.class x ≡ moved (m.class x)
  outer sign p us c x d =
      let f = map_from (formula_at b) choices (Literal sign p us) (subst (λ gs. Contains gs (Literal sign p us)) (sym told_is) c) in
      either x (arguments f.0 f.1 sign p us f.2 x d) (outer_there fs sign p us c x d)

  -- the model that the lists are
  told_model : Refutes cs n fs
  told_model = refutes_alike m n moved (renumbered_once last) fs truths listed inner outer cs (refutes_known cs (known_in b r) fs class (open_is_saturated cs b r whole) is whole.sums total i)

  pub told_countermodel : (c : Countermodel) → c.classes.items ≡ numbers → c.truth.items ≡ values → IsCountermodel cs fs c
  told_countermodel c ns vs = record {
    classes = ap length ns ∙ length-map ts (λ t. moved (class_number r.classes.items t)) ∙ sym (length-map ts (term_at b)) ∙ ap length these;
    truth = ap length vs ∙ length-map choices (λ f. marked r.numbers f.0) ∙ sym (length-map choices (formula_at b)) ∙ ap length told_is;
    refutes = subst (λ (ks : List ℕ). Refutes cs (model_of fs ks c.truth.items) fs) (sym ns) (subst (λ (ws : List Bool). Refutes cs (model_of fs numbers ws) fs) (sym vs) told_model);
  }
