-- What is made of facts and sentences, as the bank grows.
use Rattle.std.proofs.Common.{◌≡◌, ℕ, zero, suc, ◌+◌, ◌<◌, List, [], ◌∷◌, ◌++◌, length, map, take, get_or, false, refl, sym, ◌∙◌, ap, subst, arith}
use Rattle.std.specs.Prelude.{◌==◌, ◌≢◌}
use Rattle.std.proofs.lemmas.Bool.{false≢true, eq-eqb}
use Rattle.std.proofs.lemmas.List.{take_more, map_push}
use Rattle.ss_logic.specs.Terms.{terms_from}
use Rattle.ss_logic.specs.Formulas.{Formula, Literal, Or, formulas_from, neg}
use Rattle.ss_logic.specs.Shapes.{given}
use Rattle.ss_terms.specs.declared.forms.FormulaId.{FormulaId}
use Rattle.ss_terms.specs.Forms.{Forms, formula_at, formulas_at, predicate_of, HasFormula, HasFormulas, AreBelow, IsGrown}
use Rattle.ss_terms.proofs.Grown.{HasTerms-grown, HasFormulas-grown, terms_at-grown, formulas_at-grown}
use Rattle.ss_rules_basic.specs.declared.facts.Fact.{Fact}
use Rattle.ss_rules_basic.specs.declared.sentences.Sentence.{Sentence}
use Rattle.ss_rules_basic.specs.Facts.{terms_of, fact_at, denied, denied_at, sentence_at, HasFact, HasFacts, HasSentence, HasSentences}

pub HasFacts-get : (b : Forms) (fs : List Fact) (i : ℕ) (d : Fact) → HasFacts b fs → i < length fs → HasFact b (get_or fs i d)
HasFacts-get b [] i d h at = absurd (omega arith)
HasFacts-get b (f ∷ fs) zero d h at = h.0
HasFacts-get b (f ∷ fs) (suc i) d h at = HasFacts-get b fs i d h.1 (omega arith)

pub HasSentences-get : (b : Forms) (ss : List Sentence) (i : ℕ) (d : Sentence) → HasSentences b ss → i < length ss → HasSentence b (get_or ss i d)
HasSentences-get b [] i d h at = absurd (omega arith)
HasSentences-get b (s ∷ ss) zero d h at = h.0
HasSentences-get b (s ∷ ss) (suc i) d h at = HasSentences-get b ss i d h.1 (omega arith)

pub AreBelow-push : (n : ℕ) (fs : List FormulaId) (f : FormulaId) → AreBelow n fs → f.0 < n → AreBelow n (fs ++ f ∷ [])
AreBelow-push n [] f h at = (at, tt)
AreBelow-push n (g ∷ fs) f h at = (h.0, AreBelow-push n fs f h.1 at)

module _ (a b : Forms) (g : IsGrown a b) where
  pub HasFact-grown : (f : Fact) → HasFact a f → HasFact b f
  HasFact-grown f h = HasTerms-grown a b g (terms_of f.left f.right) h

  pub fact_at-grown : (f : Fact) → HasFact a f → fact_at b f ≡ fact_at a f
  fact_at-grown f h = ap (λ ts. Literal f.holds (predicate_of f.predicate) (terms_from ts)) (terms_at-grown a b g (terms_of f.left f.right) h)

  pub HasFacts-grown : (fs : List Fact) → HasFacts a fs → HasFacts b fs
  HasFacts-grown [] h = tt
  HasFacts-grown (f ∷ fs) h = (HasFact-grown f h.0, HasFacts-grown fs h.1)

  pub facts_at-grown : (fs : List Fact) → HasFacts a fs → map (fact_at b) fs ≡ map (fact_at a) fs
  facts_at-grown [] h = refl
  facts_at-grown (f ∷ fs) h = ap (λ x. x ∷ map (fact_at b) fs) (fact_at-grown f h.0) ∙ ap (λ xs. fact_at a f ∷ xs) (facts_at-grown fs h.1)

  pub HasSentence-grown : (s : Sentence) → HasSentence a s → HasSentence b s
  HasSentence-grown s h = (HasFacts-grown s.premises.items h.0, HasFact-grown s.conclusion h.1)

  pub sentence_at-grown : (s : Sentence) → HasSentence a s → sentence_at b s ≡ sentence_at a s
  sentence_at-grown s h =
      ap (λ ps. given ps (fact_at b s.conclusion)) (facts_at-grown s.premises.items h.0)
      ∙ ap (given (map (fact_at a) s.premises.items)) (fact_at-grown s.conclusion h.1)

-- one more formula is made, of the next of these
module _ {X : Type 0} (says : Forms → X → Formula) (a b c : Forms) (xs : List X) (i : ℕ) (d x : X) (fs : List FormulaId) (f : FormulaId) where
  pub made_next : x ≡ get_or xs i d → i < length xs → HasFormulas b fs → IsGrown b c → formulas_at b fs ≡ map (says a) (take i xs) → formula_at c f ≡ says a x →
      formulas_at c (fs ++ f ∷ []) ≡ map (says a) (take (i + 1) xs)
  made_next is at h g made e =
      map_push (formula_at c) fs f
      ∙ ap (λ ys. ys ++ formula_at c f ∷ []) (formulas_at-grown b c g fs h ∙ made)
      ∙ ap (λ y. map (says a) (take i xs) ++ y ∷ []) (e ∙ ap (says a) is)
      ∙ sym (map_push (says a) (take i xs) (get_or xs i d))
      ∙ ap (map (says a)) (sym (take_more xs i d at))

-- the negation of the next fact
pub denied_has : (a b : Forms) (fs : List Fact) (i : ℕ) (d y : Fact) → y ≡ denied (get_or fs i d) → i < length fs → HasFacts a fs → IsGrown a b → HasFact b y
unfolding denied
denied_has a b fs i d y e at h g = subst (HasFact b) (sym e) (HasFact-grown a b g (get_or fs i d) (HasFacts-get a fs i d h at))

denied_says : (b : Forms) (x : Fact) → fact_at b (denied x) ≡ denied_at b x
unfolding denied
denied_says b x = refl

pub denied_next : (a b c : Forms) (fs : List Fact) (i : ℕ) (d y : Fact) (made after : List FormulaId) (f : FormulaId) → y ≡ denied (get_or fs i d) → i < length fs → HasFacts a fs →
    IsGrown a b → IsGrown b c → HasFormulas b made → formulas_at b made ≡ map (denied_at a) (take i fs) → formula_at c f ≡ fact_at b y → after ≡ made ++ f ∷ [] →
    formulas_at c after ≡ map (denied_at a) (take (i + 1) fs)
denied_next a b c fs i d y made after f e at h g k there was says is =
    ap (formulas_at c) is
    ∙ made_next denied_at a b c fs i d (get_or fs i d) made f refl at there k was
    (says ∙ ap (fact_at b) e ∙ denied_says b (get_or fs i d) ∙ ap neg (fact_at-grown a b g (get_or fs i d) (HasFacts-get a fs i d h at)))

pub made_there : (b c : Forms) (made after : List FormulaId) (f : FormulaId) → IsGrown b c → HasFormulas b made → HasFormula c f → after ≡ made ++ f ∷ [] → HasFormulas c after
made_there b c made after f g h at is = subst (HasFormulas c) (sym is) (AreBelow-push _ made f (HasFormulas-grown b c g made h) at)

-- with the conclusion after the negations of the premises
denied_list : (b : Forms) (ps : List Fact) → map (denied_at b) ps ≡ map neg (map (fact_at b) ps)
denied_list b [] = refl
denied_list b (p ∷ ps) = ap (λ xs. denied_at b p ∷ xs) (denied_list b ps)

given_some : (ps : List Formula) (f : Formula) → 0 < length ps → given ps f ≡ Or (formulas_from (map neg ps ++ f ∷ []))
given_some [] f h = absurd (omega arith)
given_some (p ∷ ps) f h = refl

pub length-facts : (b : Forms) (ps : List Fact) → length (map (fact_at b) ps) ≡ length ps
length-facts b [] = refl
length-facts b (p ∷ ps) = ap suc (length-facts b ps)

pub sentence_made : (a b c : Forms) (s : Sentence) (fs : List FormulaId) (f : FormulaId) → IsGrown a b → IsGrown b c → HasSentence a s → HasFormulas b fs →
    0 < length s.premises.items → formulas_at b fs ≡ map (denied_at a) s.premises.items → formula_at c f ≡ fact_at b s.conclusion →
    Or (formulas_from (formulas_at c (fs ++ f ∷ []))) ≡ sentence_at a s
sentence_made a b c s fs f g k h there some made e =
    ap (λ xs. Or (formulas_from xs))
    (map_push (formula_at c) fs f
    ∙ ap (λ ys. ys ++ formula_at c f ∷ []) (formulas_at-grown b c k fs there ∙ made ∙ denied_list a s.premises.items)
    ∙ ap (λ y. map neg (map (fact_at a) s.premises.items) ++ y ∷ []) (e ∙ fact_at-grown a b g s.conclusion h.1))
    ∙ sym (given_some (map (fact_at a) s.premises.items) (fact_at a s.conclusion) (omega (arith, some, length-facts a s.premises.items)))

-- a list whose length isn't 0
pub some_length : {A : Type 0} (n : ℕ) (xs ys : List A) → false ≡ (n == 0) → length ys ≡ n → ys ≡ xs → 0 < length xs
some_length n xs ys h l v = let more : n ≢ 0 = λ e. false≢true (h ∙ eq-eqb n 0 e) in omega (arith, more, l, ap length v)
