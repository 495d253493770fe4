-- The arguments of a term are those that its form names.
use Rattle.std.proofs.Common.{◌≡◌, ℕ, ◌<◌, List, [], ◌∷◌, length, map, Some, refl, sym, ◌∙◌, ap, arith}
use Rattle.std.specs.Prelude.{slice_get}
use Rattle.std.proofs.lemmas.Bool.{eqb-true}
use Rattle.std.proofs.lemmas.Option.{slice_get_within}
use Rattle.ss_logic.specs.Terms.{Bound, App, terms_from, term_list}
use Rattle.ss_logic.specs.Equal.{same_term_equal}
use Rattle.ss_terms.specs.declared.forms.TermId.{TermId}
use Rattle.ss_terms.specs.declared.forms.Symbol.{Symbol}
use Rattle.ss_terms.specs.Forms.{Forms, TermShape, BoundShape, AppShape, term_of, term_at, symbol_of, HasTerm, HasTerms}
use Rattle.ss_terms.specs.Bank.{number}
use Rattle.ss_terms.specs.Apart.{AreApart}
use Rattle.ss_terms.proofs.Same.{term_id}
use Rattle.ss_terms.proofs.Sorted.{list_back}
use Rattle.ss_terms.proofs.Trees.{AreTermsBelow-more}
use Rattle.ss_equality_rules.specs.Equal.{AreFormsOf}

module _ (b : Forms) (fs : List TermShape) (forms : AreFormsOf b fs) where
  pub inside : (t : ℕ) (n : TermShape) → slice_get fs t ≡ Some n → t < length b.terms
  inside t n at = let h = slice_get_within fs t n at in omega (arith, h, forms.all)

  pub have_terms : (t : ℕ) (f : Symbol) (xs : List TermId) → slice_get fs t ≡ Some (AppShape f xs) → HasTerms b xs
  have_terms t f xs at = let h = inside t (AppShape f xs) at in AreTermsBelow-more t (length b.terms) (omega (arith, h)) xs (forms.below t (AppShape f xs) at)

module _ (b : Forms) (apart : AreApart b) where
  pub one_number : (x y : TermId) → HasTerm b x → HasTerm b y → term_at b x ≡ term_at b y → x ≡ y
  one_number x y h g e = term_id x y (eqb-true x.0 y.0 (apart.terms x y h g ∙ same_term_equal (term_at b x) (term_at b y) e))

  pub one_list : (xs ys : List TermId) → HasTerms b xs → HasTerms b ys → map (term_at b) xs ≡ map (term_at b) ys → xs ≡ ys
  one_list [] [] h g e = refl
  one_list [] (y ∷ ys) h g e = cc
  one_list (x ∷ xs) [] h g e = cc
  one_list (x ∷ xs) (y ∷ ys) h g e =
      let first : term_at b x ≡ term_at b y = cc in
      let rest : map (term_at b) xs ≡ map (term_at b) ys = cc in
      ap (λ z. z ∷ xs) (one_number x y h.0 g.0 first) ∙ ap (λ zs. y ∷ zs) (one_list xs ys h.1 g.1 rest)

  module _ (fs : List TermShape) (forms : AreFormsOf b fs) where
    pub arguments_are : (t : ℕ) (f g : Symbol) (xs ys : List TermId) → slice_get fs t ≡ Some (AppShape f xs) → HasTerms b ys → term_at b (number t) ≡ term_of (term_at b) (AppShape g ys) → ys ≡ xs
    arguments_are t f g xs ys at has built =
        let both : App (symbol_of g) (terms_from (map (term_at b) ys)) ≡ App (symbol_of f) (terms_from (map (term_at b) xs)) = sym built ∙ forms.built t (AppShape f xs) at in
        let lists : terms_from (map (term_at b) ys) ≡ terms_from (map (term_at b) xs) = cc in
        one_list ys xs has (have_terms b fs forms t f xs at) (sym (list_back (map (term_at b) ys)) ∙ ap term_list lists ∙ list_back (map (term_at b) xs))

    pub not_bound : (t : ℕ) (f : Symbol) (xs : List TermId) (k : ℕ) → slice_get fs t ≡ Some (AppShape f xs) → term_at b (number t) ≡ term_of (term_at b) (BoundShape k) → ⊥
    not_bound t f xs k at built =
        let both : Bound k ≡ App (symbol_of f) (terms_from (map (term_at b) xs)) = sym built ∙ forms.built t (AppShape f xs) at in cc
