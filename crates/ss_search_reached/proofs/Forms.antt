-- The terms of a bank have one list of forms.
use Rattle.std.proofs.Common.{◌≡◌, ℕ, suc, ◌<◌, ◌≤◌, List, [], ◌∷◌, length, Some, refl, sym, ◌∙◌, ap, arith}
use Rattle.std.specs.Prelude.{slice_get}
use Rattle.std.proofs.lemmas.Bool.{eqb-true}
use Rattle.std.proofs.lemmas.Option.{slice_get_within}
use Rattle.ss_logic.specs.Terms.{terms_from}
use Rattle.ss_logic.specs.Equal.{same_term_equal}
use Rattle.ss_terms.specs.declared.forms.TermId.{TermId}
use Rattle.ss_terms.specs.Forms.{Forms, TermShape, BoundShape, AppShape, term_at, terms_at, term_of, symbol_of, HasTerm, AreTermsBelow, TermBelow}
use Rattle.ss_terms.specs.Bank.{number}
use Rattle.ss_terms.specs.Apart.{AreApart}
use Rattle.ss_terms.proofs.Symbols.{symbols_differ}
use Rattle.ss_equality_rules.specs.Equal.{AreFormsOf}

module _ (b : Forms) (apart : AreApart b) where
  one_number : (x y : TermId) → HasTerm b x → HasTerm b y → term_at b x ≡ term_at b y → x ≡ y
  one_number x y hx hy e = ap number (eqb-true x.0 y.0 (apart.terms x y hx hy ∙ same_term_equal (term_at b x) (term_at b y) e))

  one_list : (n m : ℕ) (xs ys : List TermId) → AreTermsBelow n xs → AreTermsBelow m ys → n ≤ length b.terms → m ≤ length b.terms → terms_from (terms_at b xs) ≡ terms_from (terms_at b ys) → xs ≡ ys
  one_list n m [] [] hx hy n_in m_in e = refl
  one_list n m [] (y ∷ ys) hx hy n_in m_in e = cc
  one_list n m (x ∷ xs) [] hx hy n_in m_in e = cc
  one_list n m (x ∷ xs) (y ∷ ys) hx hy n_in m_in e =
      let first : term_at b x ≡ term_at b y = cc in
      let rest : terms_from (terms_at b xs) ≡ terms_from (terms_at b ys) = cc in
      ap (λ z. z ∷ xs) (one_number x y (omega (arith, hx.0, n_in)) (omega (arith, hy.0, m_in)) first) ∙ ap (λ zs. y ∷ zs) (one_list n m xs ys hx.1 hy.1 n_in m_in rest)

  one_shape : (k : ℕ) (n m : TermShape) → k < length b.terms → TermBelow k n → TermBelow k m → term_of (term_at b) n ≡ term_of (term_at b) m → n ≡ m
  one_shape k (BoundShape i) (BoundShape j) h hn hm e = let same : i ≡ j = cc in ap BoundShape same
  one_shape k (BoundShape i) (AppShape g ys) h hn hm e = cc
  one_shape k (AppShape f xs) (BoundShape j) h hn hm e = cc
  one_shape k (AppShape f xs) (AppShape g ys) h hn hm e =
      let function : symbol_of f ≡ symbol_of g = cc in
      let arguments : terms_from (terms_at b xs) ≡ terms_from (terms_at b ys) = cc in
      ap (λ s. AppShape s xs) (symbols_differ f g function) ∙ ap (AppShape g) (one_list k k xs ys hn hm (omega (arith, h)) (omega (arith, h)) arguments)

  some_same : {A : Type 0} (xs ys : List A) → length xs ≡ length ys → ((k : ℕ) (x y : A) → slice_get xs k ≡ Some x → slice_get ys k ≡ Some y → x ≡ y) → xs ≡ ys
  some_same [] [] l h = refl
  some_same [] (y ∷ ys) l h = absurd (omega arith)
  some_same (x ∷ xs) [] l h = absurd (omega arith)
  some_same (x ∷ xs) (y ∷ ys) l h = ap (λ z. z ∷ xs) (h 0 x y refl refl) ∙ ap (λ zs. y ∷ zs) (some_same xs ys (omega (arith, l)) (λ k z w p q. h (suc k) z w p q))

  pub forms_once : (ts us : List TermShape) → AreFormsOf b ts → AreFormsOf b us → ts ≡ us
  forms_once ts us f g = some_same ts us (f.all ∙ sym g.all)
      (λ k n m p q. one_shape k n m (let l = slice_get_within ts k n p in let a = f.all in omega (arith, l, a)) (f.below k n p) (g.below k m q) (sym (f.built k n p) ∙ g.built k m q))
