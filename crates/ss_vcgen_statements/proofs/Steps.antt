-- One step of a builder and then another.
use Rattle.std.proofs.Common.{◌≡◌, ℕ, List, [], ◌∷◌, length, take, refl, sym, ap, ◌∙◌, Option, Some, None, Result, Ok, Err}
use Rattle.std.specs.Prelude.{IfOk}
use Rattle.ss_logic.specs.Terms.{Term}
use Rattle.ss_logic.specs.Formulas.{Formula, neg}
use Rattle.ss_terms.specs.declared.forms.TermId.{TermId}
use Rattle.ss_terms.specs.declared.forms.FormulaId.{FormulaId}
use Rattle.ss_terms.specs.Forms.{Forms, term_at, terms_at, formula_at, formulas_at, HasTerm, HasFormula, IsGrown}
use Rattle.ss_terms.proofs.Grown.{IsGrown-refl, IsGrown-then, HasTerm-grown, HasTerms-grown, HasFormula-grown, HasFormulas-grown}
use Rattle.ss_vcgen_heaps.specs.Positions.{Position}
use Rattle.ss_vcgen_express.specs.Numbers.{IsTerm, IsFormula, AreFormulas}
use Rattle.ss_vcgen_builder.specs.declared.builder.Builder.{Builder}
use Rattle.ss_vcgen_builder.specs.declared.builder.Listed.{Listed}
use Rattle.ss_vcgen_builder.specs.Builder.{position_at, HasLocals, AreWithin, IsFine, Becomes}
use Rattle.ss_vcgen_statements.specs.Words.{AreTerms}

-- ---- a larger bank

module _ (a b : Forms) (g : IsGrown a b) where
  locals_grown : (ls : List (Option TermId)) → HasLocals a ls → HasLocals b ls
  locals_grown [] h = tt
  locals_grown (None ∷ ls) h = (tt, locals_grown ls h.1)
  locals_grown (Some t ∷ ls) h = (HasTerm-grown a b g t h.0, locals_grown ls h.1)

  within_grown : (n : ℕ) (os : List Listed) → AreWithin a n os → AreWithin b n os
  within_grown n [] h = tt
  within_grown n (o ∷ os) h = (record { goal = HasFormula-grown a b g o.goal h.0.goal; first = h.0.first; end = h.0.end }, within_grown n os h.1)

pub bank : (s : Builder) → IsFine s → (b : Forms) → IsGrown s.bank b → Becomes s (record s { bank = b }) (λ c. position_at c s)
bank s fine b g = record {
  fine = record {
    locals = locals_grown s.bank b g s.locals.items fine.locals;
    store = HasTerm-grown s.bank b g s.store fine.store;
    trail = HasFormulas-grown s.bank b g s.trail.items fine.trail;
    list = within_grown s.bank b g (length s.trail.items) s.list.items fine.list;
    first = fine.first;
  };
  grown = g;
  is = λ c k. refl;
  first = refl;
  before = refl;
}

-- a result that came with a larger bank
pub bank_ok : {A E : Type 0} (r : Result A E) (P : A → Type 0) (s : Builder) → IsFine s → (b : Forms) → IsGrown s.bank b → IfOk r P → IfOk r (λ x. Becomes s (record s { bank = b }) (λ c. position_at c s))
bank_ok (Ok x) P s fine b g h = bank s fine b g
bank_ok (Err e) P s fine b g h = tt

-- ---- positions

pub then : (s t u : Builder) (f : Forms → Position) (g : Forms → Position → Position) → Becomes s t f → Becomes t u (λ b. g b (position_at b t)) → Becomes s u (λ b. g b (f b))
then s t u f g p q = record {
  fine = q.fine;
  grown = IsGrown-then s.bank t.bank u.bank p.grown q.grown;
  is = λ b k. q.is b k ∙ ap (g b) (p.is b (IsGrown-then t.bank u.bank b q.grown k));
  first = q.first ∙ p.first;
  before = ap (λ n. take n u.trail.items) (sym p.first) ∙ q.before ∙ ap (λ n. take n t.trail.items) p.first ∙ p.before;
}

pub so : (s t : Builder) (f g : Forms → Position) → ((b : Forms) → IsGrown t.bank b → f b ≡ g b) → Becomes s t f → Becomes s t g
so s t f g e p = record { fine = p.fine; grown = p.grown; is = λ b k. p.is b k ∙ e b k; first = p.first; before = p.before }

pub stays : (s : Builder) → IsFine s → Becomes s s (λ b. position_at b s)
stays s fine = record { fine = fine; grown = IsGrown-refl s.bank; is = λ b k. refl; first = refl; before = refl }

-- ---- a number that the next step takes

module _ (s t u : Builder) (f : Forms → Position) (p : Becomes s t f) where
  pub then_formula : (x : FormulaId) (says : Forms → Formula) (g : Forms → Formula → Position → Position) → IsFormula t.bank x says → Becomes t u (λ b. g b (formula_at b x) (position_at b t)) →
      Becomes s u (λ b. g b (says b) (f b))
  then_formula x says g is q =
      so s u (λ b. g b (formula_at b x) (f b)) (λ b. g b (says b) (f b)) (λ b k. ap (λ y. g b y (f b)) (is.is b (IsGrown-then t.bank u.bank b q.grown k)))
      (then s t u f (λ b. g b (formula_at b x)) p q)

  pub then_formulas : (xs : List FormulaId) (say : Forms → List Formula) (g : Forms → List Formula → Position → Position) → AreFormulas t.bank xs say → Becomes t u (λ b. g b (formulas_at b xs) (position_at b t)) →
      Becomes s u (λ b. g b (say b) (f b))
  then_formulas xs say g are q =
      so s u (λ b. g b (formulas_at b xs) (f b)) (λ b. g b (say b) (f b)) (λ b k. ap (λ y. g b y (f b)) (are.are b (IsGrown-then t.bank u.bank b q.grown k)))
      (then s t u f (λ b. g b (formulas_at b xs)) p q)

  pub then_terms : (xs : List TermId) (say : Forms → List Term) (g : Forms → List Term → Position → Position) → AreTerms t.bank xs say → Becomes t u (λ b. g b (terms_at b xs) (position_at b t)) →
      Becomes s u (λ b. g b (say b) (f b))
  then_terms xs say g are q =
      so s u (λ b. g b (terms_at b xs) (f b)) (λ b. g b (say b) (f b)) (λ b k. ap (λ y. g b y (f b)) (are.are b (IsGrown-then t.bank u.bank b q.grown k)))
      (then s t u f (λ b. g b (terms_at b xs)) p q)

  pub then_term : (x : TermId) (says : Forms → Term) (g : Forms → Term → Position → Position) → IsTerm t.bank x says → Becomes t u (λ b. g b (term_at b x) (position_at b t)) →
      Becomes s u (λ b. g b (says b) (f b))
  then_term x says g is q =
      so s u (λ b. g b (term_at b x) (f b)) (λ b. g b (says b) (f b)) (λ b k. ap (λ y. g b y (f b)) (is.is b (IsGrown-then t.bank u.bank b q.grown k)))
      (then s t u f (λ b. g b (term_at b x)) p q)

pub stays_then : (s t u : Builder) → Becomes s t (λ b. position_at b s) → Becomes t u (λ b. position_at b t) → Becomes s u (λ b. position_at b s)
stays_then s t u p q = then s t u (λ b. position_at b s) (λ b k. k) p q

-- ---- numbers that were made

module _ (a c : Forms) (g : IsGrown a c) where
  pub formula_later : (x : FormulaId) (says : Forms → Formula) → IsFormula a x says → IsFormula c x says
  formula_later x says h = record { has = HasFormula-grown a c g x h.has; is = λ b k. h.is b (IsGrown-then a c b g k) }

  pub formulas_later : (xs : List FormulaId) (say : Forms → List Formula) → AreFormulas a xs say → AreFormulas c xs say
  formulas_later xs say h = record { has = HasFormulas-grown a c g xs h.has; are = λ b k. h.are b (IsGrown-then a c b g k) }

  pub terms_later : (xs : List TermId) (say : Forms → List Term) → AreTerms a xs say → AreTerms c xs say
  terms_later xs say h = record { has = HasTerms-grown a c g xs h.has; are = λ b k. h.are b (IsGrown-then a c b g k) }

  pub term_later : (x : TermId) (says : Forms → Term) → IsTerm a x says → IsTerm c x says
  term_later x says h = record { has = HasTerm-grown a c g x h.has; is = λ b k. h.is b (IsGrown-then a c b g k) }

pub term_here : (a : Forms) (x : TermId) → HasTerm a x → IsTerm a x (λ b. term_at b x)
term_here a x h = record { has = h; is = λ b k. refl }

pub no_formulas : (a : Forms) → AreFormulas a [] (λ b. [])
no_formulas a = record { has = tt; are = λ b k. refl }

pub formula_more : (a : Forms) (x : FormulaId) (xs : List FormulaId) (says : Forms → Formula) (say : Forms → List Formula) → IsFormula a x says → AreFormulas a xs say → AreFormulas a (x ∷ xs) (λ b. says b ∷ say b)
formula_more a x xs says say h hs = record { has = (h.has, hs.has); are = λ b k. ap (λ y. y ∷ formulas_at b xs) (h.is b k) ∙ ap (λ ys. says b ∷ ys) (hs.are b k) }

-- a formula that is made of these
pub formula_of : (a c : Forms) (x : FormulaId) (xs : List FormulaId) (f : List Formula → Formula) (say : Forms → List Formula) → IsGrown a c → AreFormulas a xs say → IsFormula c x (λ b. f (formulas_at b xs)) → IsFormula c x (λ b. f (say b))
formula_of a c x xs f say g hs h = record { has = h.has; is = λ b k. h.is b k ∙ ap f (hs.are b (IsGrown-then a c b g k)) }

pub formula_is : (a : Forms) (x : FormulaId) (says others : Forms → Formula) → ((b : Forms) → IsGrown a b → says b ≡ others b) → IsFormula a x says → IsFormula a x others
formula_is a x says others e h = record { has = h.has; is = λ b k. h.is b k ∙ e b k }

pub formulas_are : (a : Forms) (xs : List FormulaId) (say others : Forms → List Formula) → ((b : Forms) → IsGrown a b → say b ≡ others b) → AreFormulas a xs say → AreFormulas a xs others
formulas_are a xs say others e h = record { has = h.has; are = λ b k. h.are b k ∙ e b k }

pub terms_are : (a : Forms) (xs : List TermId) (say others : Forms → List Term) → ((b : Forms) → IsGrown a b → say b ≡ others b) → AreTerms a xs say → AreTerms a xs others
terms_are a xs say others e h = record { has = h.has; are = λ b k. h.are b k ∙ e b k }

pub term_is : (a : Forms) (x : TermId) (says others : Forms → Term) → ((b : Forms) → IsGrown a b → says b ≡ others b) → IsTerm a x says → IsTerm a x others
term_is a x says others e h = record { has = h.has; is = λ b k. h.is b k ∙ e b k }

pub negated : (a : Forms) (x y : FormulaId) (says : Forms → Formula) → IsFormula a x says → HasFormula a y → formula_at a y ≡ neg (formula_at a x) → IsFormula a y (λ b. neg (says b))
negated a x y says h at e = record { has = at; is = λ b k. k.same_formulas y at ∙ e ∙ ap neg (sym (k.same_formulas x h.has) ∙ h.is b k) }

-- ---- step by step along a list

-- Some steps were done: what the rest makes of the position now is what all make of the position before.
pub record Along (s t : Builder) (all rest : Forms → Position → Position) : Type 0 where
  pub fine : IsFine t
  pub grown : IsGrown s.bank t.bank
  pub is : (b : Forms) → IsGrown t.bank b → rest b (position_at b t) ≡ all b (position_at b s)
  pub first : t.first ≡ s.first
  pub before : take s.first t.trail.items ≡ take s.first s.trail.items

pub none_along : (s : Builder) (all : Forms → Position → Position) → IsFine s → Along s s all all
none_along s all fine = record { fine = fine; grown = IsGrown-refl s.bank; is = λ b k. refl; first = refl; before = refl }

pub along_on : (s t u : Builder) (all rest next : Forms → Position → Position) (g : Forms → Position) → Along s t all rest → Becomes t u g →
    ((b : Forms) → IsGrown u.bank b → next b (g b) ≡ rest b (position_at b t)) → Along s u all next
along_on s t u all rest next g a q e = record {
  fine = q.fine;
  grown = IsGrown-then s.bank t.bank u.bank a.grown q.grown;
  is = λ b k. ap (next b) (q.is b k) ∙ e b k ∙ a.is b (IsGrown-then t.bank u.bank b q.grown k);
  first = q.first ∙ a.first;
  before = ap (λ n. take n u.trail.items) (sym a.first) ∙ q.before ∙ ap (λ n. take n t.trail.items) a.first ∙ a.before;
}

pub all_along : (s t : Builder) (all rest : Forms → Position → Position) → ((b : Forms) (k : Position) → rest b k ≡ k) → Along s t all rest → Becomes s t (λ b. all b (position_at b s))
all_along s t all rest e a = record { fine = a.fine; grown = a.grown; is = λ b k. sym (e b (position_at b t)) ∙ a.is b k; first = a.first; before = a.before }

pub along_end : (s t : Builder) (all rest : Forms → Position → Position) → ((b : Forms) → IsGrown t.bank b → rest b (position_at b t) ≡ position_at b t) → Along s t all rest → Becomes s t (λ b. all b (position_at b s))
along_end s t all rest e a = record { fine = a.fine; grown = a.grown; is = λ b k. sym (e b k) ∙ a.is b k; first = a.first; before = a.before }
