-- Terms and formulas that are made one after the other, while the position stays.
use Rattle.std.proofs.Common.{◌≡◌, ℕ, zero, suc, List, [], ◌∷◌, ◌++◌, take, refl, sym, ap, ◌∙◌, append_assoc}
use Rattle.std.proofs.lemmas.List.{append-nil, map-append}
use Rattle.ss_logic.specs.Terms.{Term}
use Rattle.ss_logic.specs.Formulas.{Formula}
use Rattle.ss_logic.specs.Express.{Meant}
use Rattle.ss_terms.specs.declared.forms.TermId.{TermId}
use Rattle.ss_terms.specs.declared.forms.FormulaId.{FormulaId}
use Rattle.ss_terms.specs.Forms.{Forms, term_at, terms_at, formula_at, formulas_at, HasTerms, HasFormulas, IsGrown}
use Rattle.ss_terms.proofs.Grown.{IsGrown-refl, IsGrown-then, HasTerms-grown, HasFormulas-grown}
use Rattle.ss_terms.proofs.Longer.{HasTerms-append}
use Rattle.ss_vcgen_heaps.specs.Positions.{Position}
use Rattle.ss_vcgen_express.specs.Numbers.{IsTerm, IsFormula, AreFormulas}
use Rattle.ss_vcgen_builder.specs.declared.builder.Builder.{Builder}
use Rattle.ss_vcgen_builder.specs.Builder.{position_at, IsFine, Becomes}
use Rattle.ss_vcgen_statements.specs.Words.{Stays, AreTerms}
use Rattle.ss_vcgen_contracts.specs.Views.{AreOnes}
use Rattle.ss_vcgen_statements.proofs.Steps.{stays, stays_then, no_formulas, formula_more}

-- ---- lists of numbers

pub HasFormulas-append : (b : Forms) (fs gs : List FormulaId) → HasFormulas b fs → HasFormulas b gs → HasFormulas b (fs ++ gs)
HasFormulas-append b [] gs h k = k
HasFormulas-append b (f ∷ fs) gs h k = (h.0, HasFormulas-append b fs gs h.1 k)

pub HasTerms-take : (b : Forms) (n : ℕ) (ts : List TermId) → HasTerms b ts → HasTerms b (take n ts)
HasTerms-take b zero ts h = tt
HasTerms-take b (suc n) [] h = tt
HasTerms-take b (suc n) (t ∷ ts) h = (h.0, HasTerms-take b n ts h.1)

-- these and then those
pub formulas_joined : (a : Forms) (xs ys zs : List FormulaId) (say more : Forms → List Formula) → AreFormulas a xs say → AreFormulas a ys more → zs ≡ xs ++ ys → AreFormulas a zs (λ b. say b ++ more b)
formulas_joined a xs ys zs say more h k e = record {
  has = rw e (HasFormulas-append a xs ys h.has k.has);
  are = λ b g.
      ap (formulas_at b) e
      ∙ map-append (formula_at b) xs ys
      ∙ ap (λ fs. fs ++ formulas_at b ys) (h.are b g)
      ∙ ap (λ fs. say b ++ fs) (k.are b g);
}

-- one alone
pub formula_alone : (a : Forms) (x : FormulaId) (says : Forms → Formula) → IsFormula a x says → AreFormulas a (x ∷ []) (λ b. says b ∷ [])
formula_alone a x says h = formula_more a x [] says (λ b. []) h (no_formulas a)

pub formulas_so : (a : Forms) (xs ys : List FormulaId) (say : Forms → List Formula) → xs ≡ ys → AreFormulas a ys say → AreFormulas a xs say
formulas_so a xs ys say e h = record { has = rw e h.has; are = λ b k. ap (formulas_at b) e ∙ h.are b k }

pub term_alone : (a : Forms) (x : TermId) (says : Forms → Term) → IsTerm a x says → AreTerms a (x ∷ []) (λ b. says b ∷ [])
term_alone a x says h = record { has = (h.has, tt); are = λ b k. ap (λ (t : Term). t ∷ []) (h.is b k) }

-- ---- what was made at a position that was come to meanwhile

module _ (s t : Builder) (p : Becomes s t (λ b. position_at b s)) (c : Forms) (g : IsGrown t.bank c) where
  pub term_before : (x : TermId) (word : Forms → Position → Term) → IsTerm c x (λ b. word b (position_at b t)) → IsTerm c x (λ b. word b (position_at b s))
  term_before x word h = record { has = h.has; is = λ b k. h.is b k ∙ ap (word b) (p.is b (IsGrown-then t.bank c b g k)) }

  pub terms_before : (xs : List TermId) (word : Forms → Position → List Term) → AreTerms c xs (λ b. word b (position_at b t)) → AreTerms c xs (λ b. word b (position_at b s))
  terms_before xs word h = record { has = h.has; are = λ b k. h.are b k ∙ ap (word b) (p.is b (IsGrown-then t.bank c b g k)) }

  pub ones_before : (xs : List TermId) (word : Forms → Position → List Meant) → AreOnes c xs (λ b. word b (position_at b t)) → AreOnes c xs (λ b. word b (position_at b s))
  ones_before xs word h = record { has = h.has; are = λ b k. h.are b k ∙ ap (word b) (p.is b (IsGrown-then t.bank c b g k)) }

  pub formula_before : (x : FormulaId) (word : Forms → Position → Formula) → IsFormula c x (λ b. word b (position_at b t)) → IsFormula c x (λ b. word b (position_at b s))
  formula_before x word h = record { has = h.has; is = λ b k. h.is b k ∙ ap (word b) (p.is b (IsGrown-then t.bank c b g k)) }

  pub formulas_before : (xs : List FormulaId) (word : Forms → Position → List Formula) → AreFormulas c xs (λ b. word b (position_at b t)) → AreFormulas c xs (λ b. word b (position_at b s))
  formulas_before xs word h = record { has = h.has; are = λ b k. h.are b k ∙ ap (word b) (p.is b (IsGrown-then t.bank c b g k)) }

-- ---- one after the other: with what is left, they are all

pub record FormulasMade (s t : Builder) (fs : List FormulaId) (rest all : Forms → List Formula) : Type 0 where
  pub stays : Becomes s t (λ b. position_at b s)
  pub has : HasFormulas t.bank fs
  pub are : (b : Forms) → IsGrown t.bank b → formulas_at b fs ++ rest b ≡ all b

pub no_formula_made : (s : Builder) (fs : List FormulaId) → IsFine s → fs ≡ [] → (all : Forms → List Formula) → FormulasMade s s fs all all
no_formula_made s fs fine none all = record { stays = stays s fine; has = rw none tt; are = λ b k. ap (λ (xs : List FormulaId). formulas_at b xs ++ all b) none }

pub formulas_on : (s t u : Builder) (fs gs after : List FormulaId) (rest say next all : Forms → List Formula) → FormulasMade s t fs rest all → Becomes t u (λ b. position_at b t) → AreFormulas u.bank gs say → after ≡ fs ++ gs →
    ((b : Forms) → IsGrown u.bank b → rest b ≡ say b ++ next b) → FormulasMade s u after next all
formulas_on s t u fs gs after rest say next all m q h more e = record {
  stays = stays_then s t u m.stays q;
  has = rw more (HasFormulas-append u.bank fs gs (HasFormulas-grown t.bank u.bank q.grown fs m.has) h.has);
  are = λ b k.
      ap (λ xs. formulas_at b xs ++ next b) more
      ∙ ap (λ xs. xs ++ next b) (map-append (formula_at b) fs gs)
      ∙ append_assoc (formulas_at b fs) (formulas_at b gs) (next b)
      ∙ ap (λ xs. formulas_at b fs ++ (xs ++ next b)) (h.are b k)
      ∙ ap (λ xs. formulas_at b fs ++ xs) (sym (e b k))
      ∙ m.are b (IsGrown-then t.bank u.bank b q.grown k);
}

pub formula_on : (s t u : Builder) (fs after : List FormulaId) (f : FormulaId) (says : Forms → Formula) (rest next all : Forms → List Formula) → FormulasMade s t fs rest all → Becomes t u (λ b. position_at b t) → IsFormula u.bank f says →
    after ≡ fs ++ f ∷ [] → ((b : Forms) → IsGrown u.bank b → rest b ≡ says b ∷ next b) → FormulasMade s u after next all
formula_on s t u fs after f says rest next all m q h more e = formulas_on s t u fs (f ∷ []) after rest (λ b. says b ∷ []) next all m q (formula_alone u.bank f says h) more e

pub formulas_made : (s t : Builder) (fs : List FormulaId) (rest all : Forms → List Formula) → FormulasMade s t fs rest all → ((b : Forms) → rest b ≡ []) → AreFormulas t.bank fs all
formulas_made s t fs rest all m e = record { has = m.has; are = λ b k. sym (append-nil (formulas_at b fs)) ∙ ap (λ xs. formulas_at b fs ++ xs) (sym (e b)) ∙ m.are b k }

pub record TermsMade (s t : Builder) (ts : List TermId) (rest all : Forms → List Term) : Type 0 where
  pub stays : Becomes s t (λ b. position_at b s)
  pub has : HasTerms t.bank ts
  pub are : (b : Forms) → IsGrown t.bank b → terms_at b ts ++ rest b ≡ all b

pub no_term_made : (s : Builder) (ts : List TermId) → IsFine s → ts ≡ [] → (all : Forms → List Term) → TermsMade s s ts all all
no_term_made s ts fine none all = record { stays = stays s fine; has = rw none tt; are = λ b k. ap (λ (xs : List TermId). terms_at b xs ++ all b) none }

pub term_on : (s t u : Builder) (ts after : List TermId) (x : TermId) (says : Forms → Term) (rest next all : Forms → List Term) → TermsMade s t ts rest all → Becomes t u (λ b. position_at b t) → IsTerm u.bank x says →
    after ≡ ts ++ x ∷ [] → ((b : Forms) → IsGrown u.bank b → rest b ≡ says b ∷ next b) → TermsMade s u after next all
term_on s t u ts after x says rest next all m q h more e = record {
  stays = stays_then s t u m.stays q;
  has = rw more (HasTerms-append u.bank ts (x ∷ []) (HasTerms-grown t.bank u.bank q.grown ts m.has) (h.has, tt));
  are = λ b k.
      ap (λ xs. terms_at b xs ++ next b) more
      ∙ ap (λ xs. xs ++ next b) (map-append (term_at b) ts (x ∷ []))
      ∙ append_assoc (terms_at b ts) (term_at b x ∷ []) (next b)
      ∙ ap (λ y. terms_at b ts ++ (y ∷ next b)) (h.is b k)
      ∙ ap (λ xs. terms_at b ts ++ xs) (sym (e b k))
      ∙ m.are b (IsGrown-then t.bank u.bank b q.grown k);
}

pub terms_made : (s t : Builder) (ts : List TermId) (rest all : Forms → List Term) → TermsMade s t ts rest all → ((b : Forms) → rest b ≡ []) → AreTerms t.bank ts all
terms_made s t ts rest all m e = record { has = m.has; are = λ b k. sym (append-nil (terms_at b ts)) ∙ ap (λ xs. terms_at b ts ++ xs) (sym (e b)) ∙ m.are b k }
