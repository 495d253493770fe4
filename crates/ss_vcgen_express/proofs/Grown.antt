-- What stands for what stays so as the bank grows.
use Rattle.std.proofs.Common.{◌≡◌, ℕ, zero, suc, ◌+◌, ◌<◌, List, [], ◌∷◌, ◌++◌, length, map, take, get_or, refl, sym, ◌∙◌, ap, arith, Result, Ok, Err, Vec, Global}
use Rattle.std.specs.Prelude.{IfOk}
use Rattle.std.proofs.lemmas.List.{take_more, map_push}
use Rattle.ss_logic.specs.Terms as tree
use Rattle.ss_logic.specs.Formulas as logic
use Rattle.ss_logic.specs.Express as spec
use Rattle.ss_terms.specs.declared.forms.TermId.{TermId}
use Rattle.ss_terms.specs.declared.forms.FormulaId.{FormulaId}
use Rattle.ss_terms.specs.Forms.{Forms, term_at, formula_at, formulas_at, HasTerm, HasFormula, HasFormulas, IsGrown}
use Rattle.ss_terms.proofs.Grown.{IsGrown-then, HasTerm-grown, HasTermOf-grown, HasFormula-grown, HasFormulas-grown}
use Rattle.ss_terms.proofs.Longer.{HasFormulas-push}
use Rattle.ss_vcgen_express.specs.declared.meant.Choice.{Choice}
use Rattle.ss_vcgen_express.specs.declared.meant.Meant.{Meant}
use Rattle.ss_vcgen_express.specs.declared.meant.Meant.TheVariants as meant
use Rattle.ss_vcgen_express.specs.declared.sayings.Relation.{Relation}
use Rattle.ss_vcgen_express.specs.declared.sayings.Relation.TheVariants as relation
use Rattle.ss_vcgen_express.specs.declared.sayings.Saying.{Saying}
use Rattle.ss_vcgen_express.specs.declared.sayings.Saying.TheVariants as saying
use Rattle.ss_vcgen_express.specs.Numbers.{choice_at, choices_at, HasChoice, HasChoices, HasMeant, IsFormula, AreFormulas, AreChoices}
use Rattle.ss_vcgen_express.specs.declared.functions.Function.{Function}
use Rattle.ss_vcgen_express.specs.Functions.{HasFunction}
use Rattle.ss_vcgen_express.specs.Sayings.{related, said_so, HasRelation, HasSaying}

-- ---- the bank has them

module _ {a b : Forms} (g : IsGrown a b) where
  pub HasChoice-grown : (c : Choice) → HasChoice a c → HasChoice b c
  HasChoice-grown c h = (HasFormula-grown a b g c.condition h.0, HasTerm-grown a b g c.value h.1)

  pub HasChoices-grown : (cs : List Choice) → HasChoices a cs → HasChoices b cs
  HasChoices-grown [] h = tt
  HasChoices-grown (c ∷ cs) h = (HasChoice-grown c h.0, HasChoices-grown cs h.1)

  pub HasMeant-grown : (m : Meant) → HasMeant a m → HasMeant b m
  HasMeant-grown (meant.One t) h = HasTerm-grown a b g t h
  HasMeant-grown (meant.Either cs) h = HasChoices-grown cs.items h
  HasMeant-grown (meant.Says f) h = HasFormula-grown a b g f h
  HasMeant-grown (meant.All fs) h = HasFormulas-grown a b g fs.items h
  HasMeant-grown (meant.Any fs) h = HasFormulas-grown a b g fs.items h

  pub HasRelation-grown : (r : Relation) → HasRelation a r → HasRelation b r
  HasRelation-grown (relation.SameOwner s) h = HasTerm-grown a b g s h
  HasRelation-grown (relation.OwnedAt s t) h = HasTerm-grown a b g s h
  HasRelation-grown relation.Equal h = tt
  HasRelation-grown relation.Less h = tt
  HasRelation-grown relation.AtMost h = tt
  HasRelation-grown relation.Greater h = tt
  HasRelation-grown relation.AtLeast h = tt
  HasRelation-grown relation.HasElement h = tt
  HasRelation-grown (relation.Fits f) h = tt

  pub HasSaying-grown : (w : Saying) → HasSaying a w → HasSaying b w
  HasSaying-grown saying.NotNull h = tt
  HasSaying-grown saying.IsTrue h = tt
  HasSaying-grown saying.NotZero h = tt
  HasSaying-grown (saying.IsOf t) h = tt
  HasSaying-grown (saying.FitsClass t) h = tt
  HasSaying-grown (saying.Allocated s) h = HasTerm-grown a b g s h
  HasSaying-grown (saying.New s) h = HasTerm-grown a b g s h
  HasSaying-grown (saying.Consistent s) h = HasTerm-grown a b g s h
  HasSaying-grown (saying.Committed s) h = HasTerm-grown a b g s h
  HasSaying-grown (saying.AtLevel s t) h = HasTerm-grown a b g s h
  HasSaying-grown (saying.Packed s t) h = HasTerm-grown a b g s h
  HasSaying-grown (saying.Unowned s) h = HasTerm-grown a b g s h
  HasSaying-grown (saying.Behind r y) h = (HasRelation-grown r h.0, HasTerm-grown a b g y h.1)
  HasSaying-grown (saying.Before r y) h = (HasRelation-grown r h.0, HasTerm-grown a b g y h.1)

  pub HasFunction-grown : (f : Function) → HasFunction a f → HasFunction b f
  HasFunction-grown f h = HasTermOf-grown a b g f.first h

  -- ---- what is said stays

  related-grown : (r : Relation) (x y : tree.Term) → HasRelation a r → related (term_at b) r x y ≡ related (term_at a) r x y
  related-grown (relation.SameOwner s) x y h = ap (λ t. related (λ u. t) (relation.SameOwner s) x y) (g.same_terms s h)
  related-grown (relation.OwnedAt s k) x y h = ap (λ t. related (λ u. t) (relation.OwnedAt s k) x y) (g.same_terms s h)
  related-grown relation.Equal x y h = refl
  related-grown relation.Less x y h = refl
  related-grown relation.AtMost x y h = refl
  related-grown relation.Greater x y h = refl
  related-grown relation.AtLeast x y h = refl
  related-grown relation.HasElement x y h = refl
  related-grown (relation.Fits f) x y h = refl

  so-grown : (w : Saying) (x : tree.Term) → HasSaying a w → said_so (term_at b) w x ≡ said_so (term_at a) w x
  so-grown saying.NotNull x h = refl
  so-grown saying.IsTrue x h = refl
  so-grown saying.NotZero x h = refl
  so-grown (saying.IsOf t) x h = refl
  so-grown (saying.FitsClass t) x h = refl
  so-grown (saying.Allocated s) x h = ap (λ t. said_so (λ u. t) (saying.Allocated s) x) (g.same_terms s h)
  so-grown (saying.New s) x h = ap (λ t. said_so (λ u. t) (saying.New s) x) (g.same_terms s h)
  so-grown (saying.Consistent s) x h = ap (λ t. said_so (λ u. t) (saying.Consistent s) x) (g.same_terms s h)
  so-grown (saying.Committed s) x h = ap (λ t. said_so (λ u. t) (saying.Committed s) x) (g.same_terms s h)
  so-grown (saying.AtLevel s k) x h = ap (λ t. said_so (λ u. t) (saying.AtLevel s k) x) (g.same_terms s h)
  so-grown (saying.Packed s k) x h = ap (λ t. said_so (λ u. t) (saying.Packed s k) x) (g.same_terms s h)
  so-grown (saying.Unowned s) x h = ap (λ t. said_so (λ u. t) (saying.Unowned s) x) (g.same_terms s h)
  so-grown (saying.Behind r y) x h = ap (λ t. related (term_at b) r t x) (g.same_terms y h.1) ∙ related-grown r (term_at a y) x h.0
  so-grown (saying.Before r y) x h = ap (related (term_at b) r x) (g.same_terms y h.1) ∙ related-grown r x (term_at a y) h.0

  pub said_so-grown : (w : Saying) (x : TermId) → HasSaying a w → HasTerm a x → said_so (term_at b) w (term_at b x) ≡ said_so (term_at a) w (term_at a x)
  said_so-grown w x h at = ap (said_so (term_at b) w) (g.same_terms x at) ∙ so-grown w (term_at a x) h

-- ---- a formula that was made

-- it says so of what the bank had before, and so in each larger bank
pub is_formula : {E : Type 0} (r : Result FormulaId E) (a c : Forms) (says : Forms → logic.Formula) → IsGrown a c → ((b : Forms) → IsGrown a b → says b ≡ says a) →
    IfOk r (λ f. HasFormula c f × (formula_at c f ≡ says a)) → IfOk r (λ f. IsFormula c f says)
is_formula (Ok f) a c says g stays h = record { has = h.0; is = λ b k. k.same_formulas f h.0 ∙ h.1 ∙ sym (stays b (IsGrown-then a c b g k)) }
is_formula (Err z) a c says g stays h = tt

-- it says the same in other words
pub formula_so : {E : Type 0} (r : Result FormulaId E) (c : Forms) (says others : Forms → logic.Formula) → ((b : Forms) → IsGrown c b → says b ≡ others b) →
    IfOk r (λ f. IsFormula c f says) → IfOk r (λ f. IsFormula c f others)
formula_so (Ok f) c says others same h = record { has = h.has; is = λ b k. h.is b k ∙ same b k }
formula_so (Err z) c says others same h = tt

-- the same of choices
pub choices_so : {E : Type 0} (r : Result (Vec Choice Global) E) (c : Forms) (say others : Forms → List spec.Choice) → ((b : Forms) → IsGrown c b → say b ≡ others b) →
    IfOk r (λ v. AreChoices c v.items say) → IfOk r (λ v. AreChoices c v.items others)
choices_so (Ok v) c say others same h = record { has = h.has; are = λ b k. h.are b k ∙ same b k }
choices_so (Err z) c say others same h = tt

-- ---- one more of a list

-- what stands where a list has no choice
abbrev pub no_choice : Choice
no_choice = record { condition = record { 0 = 0 }; value = record { 0 = 0 } }

pub HasChoices-get : (b : Forms) (cs : List Choice) (i : ℕ) (d : Choice) → HasChoices b cs → i < length cs → HasChoice b (get_or cs i d)
HasChoices-get b [] i d h at = absurd (omega arith)
HasChoices-get b (c ∷ cs) zero d h at = h.0
HasChoices-get b (c ∷ cs) (suc i) d h at = HasChoices-get b cs i d h.1 (omega arith)

pub formulas_next : (say : Forms → spec.Choice → logic.Formula) (a c : Forms) (cs : List Choice) (i : ℕ) (d : Choice) (made after : List FormulaId) (f : FormulaId) → IsGrown a c → i < length cs →
    after ≡ made ++ f ∷ [] → AreFormulas a made (λ b. map (say b) (choices_at b (take i cs))) → IsFormula c f (λ b. say b (choice_at b (get_or cs i d))) →
    AreFormulas c after (λ b. map (say b) (choices_at b (take (i + 1) cs)))
formulas_next say a c cs i d made after f g at e before is = record {
  has = rw e (HasFormulas-push c made f (HasFormulas-grown a c g made before.has) is.has);
  are = λ b k.
      ap (formulas_at b) e
      ∙ map_push (formula_at b) made f
      ∙ ap (λ fs. fs ++ formula_at b f ∷ []) (before.are b (IsGrown-then a c b g k))
      ∙ ap (λ x. map (say b) (choices_at b (take i cs)) ++ x ∷ []) (is.is b k)
      ∙ sym (map_push (say b) (choices_at b (take i cs)) (choice_at b (get_or cs i d)))
      ∙ ap (map (say b)) (sym (map_push (choice_at b) (take i cs) (get_or cs i d)))
      ∙ ap (λ xs. map (say b) (choices_at b xs)) (sym (take_more cs i d at));
}

-- one more formula, for one more of a list
pub formulas_each : {T U : Type 0} (view : T → U) (say : Forms → U → logic.Formula) (a c : Forms) (xs : List T) (i : ℕ) (d : T) (made after : List FormulaId) (f : FormulaId) → IsGrown a c → i < length xs →
    after ≡ made ++ f ∷ [] → AreFormulas a made (λ b. map (say b) (map view (take i xs))) → IsFormula c f (λ b. say b (view (get_or xs i d))) →
    AreFormulas c after (λ b. map (say b) (map view (take (i + 1) xs)))
formulas_each view say a c xs i d made after f g at e before is = record {
  has = rw e (HasFormulas-push c made f (HasFormulas-grown a c g made before.has) is.has);
  are = λ b k.
      ap (formulas_at b) e
      ∙ map_push (formula_at b) made f
      ∙ ap (λ fs. fs ++ formula_at b f ∷ []) (before.are b (IsGrown-then a c b g k))
      ∙ ap (λ x. map (say b) (map view (take i xs)) ++ x ∷ []) (is.is b k)
      ∙ sym (map_push (say b) (map view (take i xs)) (view (get_or xs i d)))
      ∙ ap (map (say b)) (sym (map_push view (take i xs) (get_or xs i d)))
      ∙ ap (λ l. map (say b) (map view l)) (sym (take_more xs i d at));
}

-- ---- negations

pub HasFormulas-get : (b : Forms) (fs : List FormulaId) (i : ℕ) (d : FormulaId) → HasFormulas b fs → i < length fs → HasFormula b (get_or fs i d)
HasFormulas-get b [] i d h at = absurd (omega arith)
HasFormulas-get b (f ∷ fs) zero d h at = h.0
HasFormulas-get b (f ∷ fs) (suc i) d h at = HasFormulas-get b fs i d h.1 (omega arith)

pub negated_next : (b : Forms) (fs : List FormulaId) (i : ℕ) (d : FormulaId) (made after : List FormulaId) (r : FormulaId) → i < length fs → after ≡ made ++ r ∷ [] →
    formula_at b r ≡ logic.neg (formula_at b (get_or fs i d)) → formulas_at b made ≡ map logic.neg (formulas_at b (take i fs)) → formulas_at b after ≡ map logic.neg (formulas_at b (take (i + 1) fs))
negated_next b fs i d made after r at e is was =
    ap (formulas_at b) e
    ∙ map_push (formula_at b) made r
    ∙ ap (λ l. l ++ formula_at b r ∷ []) was
    ∙ ap (λ x. map logic.neg (formulas_at b (take i fs)) ++ x ∷ []) is
    ∙ sym (map_push logic.neg (formulas_at b (take i fs)) (formula_at b (get_or fs i d)))
    ∙ ap (map logic.neg) (sym (map_push (formula_at b) (take i fs) (get_or fs i d)))
    ∙ ap (λ l. map logic.neg (formulas_at b l)) (sym (take_more fs i d at))
