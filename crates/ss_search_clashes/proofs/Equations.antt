-- The sides of equalities, and whether they are in one class.
use Rattle.std.proofs.Common.{◌≡◌, ℕ, ◌≤◌, ◌<◌, List, [], ◌∷◌, length, Bool, true, false, not, ◌&&◌, Option, Some, None, refl, sym, ◌∙◌, ap, subst, Vec, Global, arith}
use Rattle.std.specs.Prelude.{◌==◌, IfSome}
use Rattle.ss_logic.specs.declared.Sort.{Sort}
use Rattle.ss_logic.specs.Terms.{Term, term_then, no_terms, terms_from}
use Rattle.ss_logic.specs.Formulas.{Equal, Formula, Literal}
use Rattle.ss_terms.specs.Lists.{SmallVec}
use Rattle.ss_terms.specs.declared.forms.TermId.{TermId}
use Rattle.ss_terms.specs.declared.forms.FormulaId.{FormulaId}
use Rattle.ss_terms.specs.declared.forms.Predicate as form
use Rattle.ss_terms.specs.declared.forms.Formula.TheVariants.{Literal as LiteralForm, And as AndForm, Or as OrForm, Forall as ForallForm, Exists as ExistsForm}
use Rattle.ss_terms.specs.Forms.{Forms, term_at, terms_at, formula_at, predicate_of, HasTerm, IsFormulaForm}
use Rattle.ss_equality_rules.specs.Equal.{class_number}
use Rattle.ss_search_procedure_rules.specs.Clashes.{Classing}
use Rattle.ss_search_clashes.specs.declared.equalities.Equality.{Equality}
use Rattle.ss_search_clashes.specs.Numbered.{IsClassing, differs}
use Rattle.ss_search_clashes.specs.Found.{sides_of, AreSides}

-- ---- lists of another length

pub fewer_than_two : (b : Forms) (holds : Bool) (ts : List TermId) → length ts < 2 → sides_of (Literal holds Equal (terms_from (terms_at b ts))) ≡ None
fewer_than_two b holds [] h = refl
fewer_than_two b holds (t ∷ []) h = refl
fewer_than_two b holds (t ∷ u ∷ ts) h = absurd (omega (arith, h))

pub more_than_two : (b : Forms) (holds : Bool) (ts : List TermId) → 3 ≤ length ts → sides_of (Literal holds Equal (terms_from (terms_at b ts))) ≡ None
more_than_two b holds [] h = absurd (omega (arith, h))
more_than_two b holds (t ∷ []) h = absurd (omega (arith, h))
more_than_two b holds (t ∷ u ∷ []) h = absurd (omega (arith, h))
more_than_two b holds (t ∷ u ∷ v ∷ ts) h = refl

pub no_sides : (b : Forms) (o : Option (Bool × Term × Term)) → o ≡ None → AreSides b o None
no_sides b o e = subst (λ x. AreSides b x None) (sym e) refl

-- ---- forms

module _ (b : Forms) (f : FormulaId) where
  pub literal_form : (s : Bool) (p : form.Predicate) (v : SmallVec TermId) (ts : List TermId) (r : Option Equality) → IsFormulaForm b f (LiteralForm s p v) → ts ≡ v.items → AreSides b (sides_of (Literal s (predicate_of p) (terms_from (terms_at b ts)))) r →
      AreSides b (sides_of (formula_at b f)) r
  literal_form s p v ts r at e h = subst (λ g. AreSides b (sides_of g) r) (sym (at.built ∙ ap (λ us. Literal s (predicate_of p) (terms_from (terms_at b us))) (sym e))) h

  pub and_form : (v : SmallVec FormulaId) → IsFormulaForm b f (AndForm v) → AreSides b (sides_of (formula_at b f)) None
  and_form v at = subst (λ g. AreSides b (sides_of g) None) (sym at.built) refl

  pub or_form : (v : SmallVec FormulaId) → IsFormulaForm b f (OrForm v) → AreSides b (sides_of (formula_at b f)) None
  or_form v at = subst (λ g. AreSides b (sides_of g) None) (sym at.built) refl

  pub forall_form : (ss : Vec Sort Global) (g : FormulaId) → IsFormulaForm b f (ForallForm ss g) → AreSides b (sides_of (formula_at b f)) None
  forall_form ss g at = subst (λ g. AreSides b (sides_of g) None) (sym at.built) refl

  pub exists_form : (ss : Vec Sort Global) (g : FormulaId) → IsFormulaForm b f (ExistsForm ss g) → AreSides b (sides_of (formula_at b f)) None
  exists_form ss g at = subst (λ g. AreSides b (sides_of g) None) (sym at.built) refl

-- ---- what the sides are

sides_is : (f : Formula) (e : Bool × Term × Term) → sides_of f ≡ Some e → f ≡ Literal e.0 Equal (term_then e.1 (term_then e.2 no_terms))
sides_is (Literal holds Equal (term_then x (term_then y no_terms))) e h =
    let is : ◌≡◌ {A = Bool × Term × Term} (holds, x, y) e = cc in
    ap (λ (p : Bool × Term × Term). Literal p.0 Equal (term_then p.1 (term_then p.2 no_terms))) is
sides_is f e h = let no : ◌≡◌ {A = Option (Bool × Term × Term)} None (Some e) = h in cc

record IsEqualityOf (b : Forms) (f : Formula) (s : Equality) : Type 0 where
  left : HasTerm b s.left
  right : HasTerm b s.right
  is : f ≡ Literal s.holds Equal (term_then (term_at b s.left) (term_then (term_at b s.right) no_terms))

equality_there : (b : Forms) (f : Formula) (s : Equality) (o : Option (Bool × Term × Term)) → sides_of f ≡ o → AreSides b o (Some s) → IsEqualityOf b f s
equality_there b f s None e h = let no : ◌≡◌ {A = Option Equality} (Some s) None = h in cc
equality_there b f s (Some p) e (q, is, l, r, holds, x, y) =
    let same : s ≡ q = cc in
    let form : f ≡ Literal p.0 Equal (term_then p.1 (term_then p.2 no_terms)) = sides_is f p e in
    subst (IsEqualityOf b f) (sym same) (record {
      left = l;
      right = r;
      is = form
          ∙ ap (λ v. Literal v Equal (term_then p.1 (term_then p.2 no_terms))) (sym holds)
          ∙ ap (λ t. Literal q.holds Equal (term_then t (term_then p.2 no_terms))) (sym x)
          ∙ ap (λ t. Literal q.holds Equal (term_then (term_at b q.left) (term_then t no_terms))) (sym y);
    })

pub sides_terms : (b : Forms) (f : Formula) (r : Option Equality) → AreSides b (sides_of f) r → IfSome r (λ s. HasTerm b s.left × HasTerm b s.right)
sides_terms b f None h = tt
sides_terms b f (Some s) h = let e = equality_there b f s (sides_of f) refl h in (e.left, e.right)

pub sides_some : (b : Forms) (f : Formula) (r : Option Equality) → AreSides b (sides_of f) r → IfSome r (λ s. f ≡ Literal s.holds Equal (term_then (term_at b s.left) (term_then (term_at b s.right) no_terms)))
sides_some b f None h = tt
sides_some b f (Some s) h = (equality_there b f s (sides_of f) refl h).is

pub sides_none : (b : Forms) (f : Formula) (r : Option Equality) → AreSides b (sides_of f) r → r ≡ None → (holds : Bool) (x y : Term) → f ≡ Literal holds Equal (term_then x (term_then y no_terms)) → ⊥
sides_none b f r h e holds x y is =
    let p = subst (λ g. AreSides b (sides_of g) r) is h in
    let some : r ≡ Some p.0 = p.1 in
    let no : ◌≡◌ {A = Option Equality} None (Some p.0) = sym e ∙ some in
    cc

-- ---- in one class

abbrev by_sides : Classing → Option (Bool × Term × Term) → Bool
by_sides class None = false
by_sides class (Some e) = not e.0 && class e.1 == class e.2

differs_by : (class : Classing) (f : Formula) → differs class f ≡ by_sides class (sides_of f)
differs_by class (Literal true Equal (term_then x (term_then y no_terms))) = refl
differs_by class (Literal false Equal (term_then x (term_then y no_terms))) = refl
differs_by class f = refl

module _ (b : Forms) (classes : List ℕ) (class : Classing) (c : IsClassing b classes class) (f : Formula) where
  pub some_differs : (s : Equality) → AreSides b (sides_of f) (Some s) → (not s.holds && class_number classes s.left == class_number classes s.right) ≡ differs class f
  some_differs s h =
      let e = equality_there b f s (sides_of f) refl h in
      sym (ap (differs class) e.is
      ∙ differs_by class (Literal s.holds Equal (term_then (term_at b s.left) (term_then (term_at b s.right) no_terms)))
      ∙ ap (λ n. not s.holds && n == class (term_at b s.right)) (c.at s.left e.left)
      ∙ ap (λ n. not s.holds && class_number classes s.left == n) (c.at s.right e.right))

  pub none_differs : AreSides b (sides_of f) None → false ≡ differs class f
  none_differs h = sym (differs_by class f ∙ by (sides_of f) h)
    where
      by : (o : Option (Bool × Term × Term)) → AreSides b o None → by_sides class o ≡ false
      by None g = refl
      by (Some e) (q, is, l, r, holds, x, y) = let no : ◌≡◌ {A = Option Equality} None (Some q) = is in cc
