-- Forms are told apart by what they stand for, and stand for the same where their parts do.
use Rattle.std.proofs.Common.{◌≡◌, ℕ, ◌*◌, ◌/◌, ◌%◌, ◌<◌, ◌≤◌, List, [], ◌∷◌, map, true, refl, ap, arith}
use Rattle.ss_logic.specs.Terms as tree
use Rattle.ss_logic.specs.Terms.{terms_from}
use Rattle.ss_logic.specs.Formulas as logic
use Rattle.ss_logic.specs.Formulas.{formulas_from}
use Rattle.ss_terms_interned.proofs.Halves.{half_below}
use Rattle.ss_terms.specs.declared.forms.TermId.{TermId}
use Rattle.ss_terms.specs.declared.forms.FormulaId.{FormulaId}
use Rattle.ss_terms.specs.Forms.{TermShape, BoundShape, AppShape, Shape, LiteralShape, AndShape, OrShape, ForallShape, ExistsShape, symbol_of, predicate_of, build_term, with_sign, signed, build_formula, AreTermsBelow, AreBelow, TermBelow, ShapeBelow, NamesBelow, is_plain}
use Rattle.ss_terms.specs.Bank.{IsPlain, PairBelow}
use Rattle.ss_terms.proofs.Symbols.{symbols_differ, predicates_differ}
use Rattle.ss_terms.proofs.Same.{term_id}
use Rattle.ss_terms.proofs.Signs.{signed_apart}

-- ---- terms

pub arguments_same : (look look' : TermId → tree.Term) (b : ℕ) → ((t : TermId) → t.0 < b → look t ≡ look' t) → (ts : List TermId) → AreTermsBelow b ts →
    terms_from (map look ts) ≡ terms_from (map look' ts)
arguments_same look look' b h [] p = refl
arguments_same look look' b h (t ∷ ts) p = let e = h t p.0 in let es = arguments_same look look' b h ts p.1 in cc

pub term_same : (look look' : ℕ → tree.Term) (b : ℕ) → ((t : ℕ) → t < b → look t ≡ look' t) → (n : TermShape) → TermBelow b n → build_term look n ≡ build_term look' n
term_same look look' b h (BoundShape k) p = refl
term_same look look' b h (AppShape f ts) p = ap (tree.App (symbol_of f)) (arguments_same (λ t. look t.0) (λ t. look' t.0) b (λ t q. h t.0 q) ts p)

pub AreTermsBelow-more : (i j : ℕ) → i ≤ j → (ts : List TermId) → AreTermsBelow i ts → AreTermsBelow j ts
AreTermsBelow-more i j h [] p = tt
AreTermsBelow-more i j h (t ∷ ts) p = (omega (arith, p.0), AreTermsBelow-more i j h ts p.1)

pub term_upward : (i j : ℕ) → i ≤ j → (n : TermShape) → TermBelow i n → TermBelow j n
term_upward i j h (BoundShape k) p = tt
term_upward i j h (AppShape f ts) p = AreTermsBelow-more i j h ts p

pub arguments_equal : (look : TermId → tree.Term) (b : ℕ) → ((x y : TermId) → x.0 < b → y.0 < b → look x ≡ look y → x ≡ y) → (ts us : List TermId) →
    AreTermsBelow b ts → AreTermsBelow b us → terms_from (map look ts) ≡ terms_from (map look us) → ts ≡ us
arguments_equal look b apart [] [] p q e = refl
arguments_equal look b apart [] (u ∷ us) p q e = cc
arguments_equal look b apart (t ∷ ts) [] p q e = cc
arguments_equal look b apart (t ∷ ts) (u ∷ us) p q e =
    let first : look t ≡ look u = cc in
    let others : terms_from (map look ts) ≡ terms_from (map look us) = cc in
    let same = apart t u p.0 q.0 first in
    let sames = arguments_equal look b apart ts us p.1 q.1 others in cc

pub term_equal : (look : ℕ → tree.Term) (b : ℕ) → ((i j : ℕ) → i < b → j < b → look i ≡ look j → i ≡ j) → (n m : TermShape) → TermBelow b n → TermBelow b m →
    build_term look n ≡ build_term look m → n ≡ m
term_equal look b apart (BoundShape k) (BoundShape j) p q e = let same : k ≡ j = cc in cc
term_equal look b apart (BoundShape k) (AppShape g us) p q e = cc
term_equal look b apart (AppShape f ts) (BoundShape j) p q e = cc
term_equal look b apart (AppShape f ts) (AppShape g us) p q e =
    let function : symbol_of f ≡ symbol_of g = cc in
    let arguments : terms_from (map (λ t. look t.0) ts) ≡ terms_from (map (λ t. look t.0) us) = cc in
    let same = symbols_differ f g function in
    let sames = arguments_equal (λ t. look t.0) b (λ x y hx hy s. term_id x y (apart x.0 y.0 hx hy s)) ts us p q arguments in cc

-- ---- formulas

signed_same : (look look' : ℕ → logic.Formula) (b : ℕ) → ((t : ℕ) → t < b → look t ≡ look' t) → (f : FormulaId) → f.0 < b * 2 → signed look f ≡ signed look' f
signed_same look look' b h f p = ap (with_sign (f.0 % 2)) (h (f.0 / 2) (half_below f.0 b p))

formulas_same : (look look' : ℕ → logic.Formula) (b : ℕ) → ((t : ℕ) → t < b → look t ≡ look' t) → (fs : List FormulaId) → AreBelow (b * 2) fs →
    formulas_from (map (signed look) fs) ≡ formulas_from (map (signed look') fs)
formulas_same look look' b h [] p = refl
formulas_same look look' b h (f ∷ fs) p = let e = signed_same look look' b h f p.0 in let es = formulas_same look look' b h fs p.1 in cc

pub AreBelow-more : (i j : ℕ) → i ≤ j → (fs : List FormulaId) → AreBelow i fs → AreBelow j fs
AreBelow-more i j h [] p = tt
AreBelow-more i j h (f ∷ fs) p = (omega (arith, p.0), AreBelow-more i j h fs p.1)

pub shape_upward : (terms i j : ℕ) → i ≤ j → (n : Shape) → ShapeBelow terms i n → ShapeBelow terms j n
shape_upward terms i j h (LiteralShape s p ts) b = b
shape_upward terms i j h (AndShape fs) b = AreBelow-more i j h fs b
shape_upward terms i j h (OrShape fs) b = AreBelow-more i j h fs b
shape_upward terms i j h (ForallShape ss f) b = omega (arith, b)
shape_upward terms i j h (ExistsShape ss f) b = omega (arith, b)

pub names_below : (terms n : ℕ) (s : Shape) → ShapeBelow terms n s → NamesBelow terms s
names_below terms n (LiteralShape s p ts) b = b
names_below terms n (AndShape fs) b = tt
names_below terms n (OrShape fs) b = tt
names_below terms n (ForallShape ss f) b = tt
names_below terms n (ExistsShape ss f) b = tt

pub names_upward : (i j : ℕ) → i ≤ j → (n : Shape) → NamesBelow i n → NamesBelow j n
names_upward i j h (LiteralShape s p ts) b = AreTermsBelow-more i j h ts b
names_upward i j h (AndShape fs) b = tt
names_upward i j h (OrShape fs) b = tt
names_upward i j h (ForallShape ss f) b = tt
names_upward i j h (ExistsShape ss f) b = tt

module _ (terms : TermId → tree.Term) (count : ℕ) where
  pub form_same : (look look' : ℕ → logic.Formula) (b : ℕ) → ((t : ℕ) → t < b → look t ≡ look' t) → (n : Shape) → PairBelow count b n → build_formula terms look n ≡ build_formula terms look' n
  form_same look look' b h (LiteralShape s x ts) p = refl
  form_same look look' b h (AndShape fs) p = ap logic.And (formulas_same look look' b h fs p)
  form_same look look' b h (OrShape fs) p = ap logic.Or (formulas_same look look' b h fs p)
  form_same look look' b h (ForallShape ss f) p = ap (logic.Forall ss) (signed_same look look' b h f p)
  form_same look look' b h (ExistsShape ss f) p = ap (logic.Exists ss) (signed_same look look' b h f p)

  pub form_upward : (i j : ℕ) → i ≤ j → (n : Shape) → PairBelow count i n → PairBelow count j n
  form_upward i j h n p = shape_upward count (i * 2) (j * 2) (omega arith) n p

  module _ (apart : (x y : TermId) → x.0 < count → y.0 < count → terms x ≡ terms y → x ≡ y) where
    module _ (look : ℕ → logic.Formula) (b : ℕ) (look_apart : (i j : ℕ) → i < b → j < b → look i ≡ look j → i ≡ j) (fine : (i : ℕ) → i < b → IsPlain (look i)) where
      formulas_equal : (fs gs : List FormulaId) → AreBelow (b * 2) fs → AreBelow (b * 2) gs → formulas_from (map (signed look) fs) ≡ formulas_from (map (signed look) gs) → fs ≡ gs
      formulas_equal [] [] p q e = refl
      formulas_equal [] (g ∷ gs) p q e = cc
      formulas_equal (f ∷ fs) [] p q e = cc
      formulas_equal (f ∷ fs) (g ∷ gs) p q e =
          let first : signed look f ≡ signed look g = cc in
          let others : formulas_from (map (signed look) fs) ≡ formulas_from (map (signed look) gs) = cc in
          let same = signed_apart look b look_apart fine f g p.0 q.0 first in
          let sames = formulas_equal fs gs p.1 q.1 others in cc

      pub form_equal : (n m : Shape) → PairBelow count b n → PairBelow count b m → build_formula terms look n ≡ build_formula terms look m → n ≡ m
      form_equal (LiteralShape s x ts) (LiteralShape t y us) p q e =
          let sign : s ≡ t = cc in
          let said : predicate_of x ≡ predicate_of y = cc in
          let arguments : terms_from (map terms ts) ≡ terms_from (map terms us) = cc in
          let same = predicates_differ x y said in
          let sames = arguments_equal terms count apart ts us p q arguments in cc
      form_equal (AndShape fs) (AndShape gs) p q e =
          let es : formulas_from (map (signed look) fs) ≡ formulas_from (map (signed look) gs) = cc in
          let same = formulas_equal fs gs p q es in cc
      form_equal (OrShape fs) (OrShape gs) p q e =
          let es : formulas_from (map (signed look) fs) ≡ formulas_from (map (signed look) gs) = cc in
          let same = formulas_equal fs gs p q es in cc
      form_equal (ForallShape ss f) (ForallShape rs g) p q e =
          let sorts : ss ≡ rs = cc in
          let body : signed look f ≡ signed look g = cc in
          let same = signed_apart look b look_apart fine f g p q body in cc
      form_equal (ExistsShape ss f) (ExistsShape rs g) p q e =
          let sorts : ss ≡ rs = cc in
          let body : signed look f ≡ signed look g = cc in
          let same = signed_apart look b look_apart fine f g p q body in cc
      form_equal _ _ p q e = cc

pub plain_formula : (terms : TermId → tree.Term) (look : ℕ → logic.Formula) (n : Shape) → is_plain n ≡ true → IsPlain (build_formula terms look n)
plain_formula terms look (LiteralShape s x ts) h = h
plain_formula terms look (AndShape fs) h = tt
plain_formula terms look (OrShape fs) h = cc
plain_formula terms look (ForallShape ss f) h = tt
plain_formula terms look (ExistsShape ss f) h = cc
