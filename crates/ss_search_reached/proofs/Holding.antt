-- What may hold beside known formulas.
use Rattle.std.proofs.Common.{◌≡◌, ℕ, zero, suc, ◌<◌, List, [], ◌∷◌, get_or, Bool, true, false, Option, Some, None, refl, sym, ◌∙◌, ap, subst, inl, inr, ◌⊎◌, ⊎_elim, arith}
use Rattle.std.specs.Prelude.{slice_get, if◌then◌else◌, IfSome, is_some}
use Rattle.std.proofs.lemmas.Option.{slice_get-get_or}
use Rattle.std.specs.List.{Contains}
use Rattle.std.proofs.lemmas.Bool.{false≢true, cases_eq, ne_eqb}
use Rattle.ss_paths.specs.Sets.{none, put}
use Rattle.ss_bit_set.specs.Marked.{marked}
use Rattle.ss_logic.specs.Formulas.{Formula, Literal, And, Or, Forall, Exists, formulas_from}
use Rattle.ss_terms.specs.declared.forms.FormulaId.{FormulaId}
use Rattle.ss_terms.specs.Forms.{Forms, formula_at, formulas_at}
use Rattle.ss_search_procedure_rules.specs.Closed.{is_basic, basics, Fits, MayHold, AllMayHold, SomeMayHold, TwoMayHold}
use Rattle.ss_logic.proofs.Lists.{contains_head, contains_cons}
use Rattle.ss_search_reached.specs.declared.looking.Looking.{Looking}
use Rattle.ss_search_reached.specs.declared.outcomes.Outcomes.{Outcomes}
use Rattle.ss_search_reached.specs.Looks.{known_at, IsHolding, AreHolding, HoldsFrom}

pub basic_holds : (known : List Formula) (f : Formula) → is_basic f ≡ true → Fits (basics (f ∷ known)) → MayHold (basics known) f
basic_holds known (Literal sign p ts) e h = h
basic_holds known (And fs) e h = absurd (false≢true e)
basic_holds known (Or fs) e h = absurd (false≢true e)
basic_holds known (Forall ss f) e h = h
basic_holds known (Exists ss f) e h = h

-- ---- parts

module _ (b : Forms) (known : List Formula) where
  pub all_hold : (fs : List FormulaId) → ((f : FormulaId) → Contains fs f → MayHold known (formula_at b f)) → AllMayHold known (formulas_from (formulas_at b fs))
  all_hold [] h = tt
  all_hold (f ∷ fs) h = (h f (contains_head f fs), all_hold fs (λ g c. h g (contains_cons f fs g c)))

  pub some_holds : (fs : List FormulaId) (i : ℕ) (f : FormulaId) → slice_get fs i ≡ Some f → MayHold known (formula_at b f) → SomeMayHold known (formulas_from (formulas_at b fs))
  some_holds [] i f e h = cc
  some_holds (g ∷ fs) zero f e h = let same : g ≡ f = cc in inl (subst (λ x. MayHold known (formula_at b x)) (sym same) h)
  some_holds (g ∷ fs) (suc i) f e h = inr (some_holds fs i f e h)

  pub two_hold : (fs : List FormulaId) (i j : ℕ) (f g : FormulaId) → i < j → slice_get fs i ≡ Some f → slice_get fs j ≡ Some g → MayHold known (formula_at b f) → MayHold known (formula_at b g) →
      TwoMayHold known (formulas_from (formulas_at b fs))
  two_hold [] i j f g l p q hf hg = cc
  two_hold (k ∷ fs) zero zero f g l p q hf hg = absurd (omega (arith, l))
  two_hold (k ∷ fs) zero (suc j) f g l p q hf hg = let same : k ≡ f = cc in inl (subst (λ x. MayHold known (formula_at b x)) (sym same) hf, some_holds fs j g q hg)
  two_hold (k ∷ fs) (suc i) zero f g l p q hf hg = absurd (omega (arith, l))
  two_hold (k ∷ fs) (suc i) (suc j) f g l p q hf hg = inr (two_hold fs i j f g (omega (arith, l)) p q hf hg)

-- ---- outcomes

pub none_holding : (s : Looking) (o : Outcomes) → marked o.holding ≡ none → AreHolding s o
unfolding none
none_holding s o e = record { holding = λ f m. absurd (false≢true (sym (ap (λ t. t f.0) e) ∙ m)) }

one_id : (f g : FormulaId) → f.0 ≡ g.0 → f ≡ g
one_id f g e = ap (λ (n : ℕ). let r : FormulaId = record { 0 = n } in r) e

pub noted_holding : (s : Looking) (old new : Outcomes) (f : FormulaId) (may_hold : Bool) → AreHolding s old → (may_hold ≡ true → IsHolding s f) →
    marked new.holding ≡ (if may_hold then put f.0 true (marked old.holding) else marked old.holding) → AreHolding s new
unfolding put
noted_holding s old new f true h holds e = record {
  holding = λ g m. ⊎_elim
      (λ same. subst (IsHolding s) (one_id f g same) (holds refl))
      (λ other. h.holding g (sym (ap (λ t. t g.0) e ∙ ap (λ v. if v then true else marked old.holding g.0) (ne_eqb f.0 g.0 other)) ∙ m))
      (cases_eq f.0 g.0);
}
noted_holding s old new f false h holds e = record { holding = λ g m. h.holding g (sym (ap (λ t. t g.0) e) ∙ m) }

pub and_holds : (b : Forms) (known : List Formula) (f : FormulaId) (fs : List FormulaId) → formula_at b f ≡ And (formulas_from (formulas_at b fs)) → AllMayHold known (formulas_from (formulas_at b fs)) → MayHold known (formula_at b f)
and_holds b known f fs e h = subst (MayHold known) (sym e) h

pub or_holds : (b : Forms) (known : List Formula) (f : FormulaId) (fs : List FormulaId) → formula_at b f ≡ Or (formulas_from (formulas_at b fs)) → SomeMayHold known (formulas_from (formulas_at b fs)) → MayHold known (formula_at b f)
or_holds b known f fs e h = subst (MayHold known) (sym e) h

pub found_holds : (s : Looking) (fs : List FormulaId) (from : ℕ) (o : Option ℕ) → IfSome o (HoldsFrom s fs from) → is_some o ≡ true → SomeMayHold (basics (known_at s)) (formulas_from (formulas_at s.bank.now fs))
found_holds s fs from None h e = absurd (false≢true e)
found_holds s fs from (Some i) h e =
    let d : FormulaId = record { 0 = 0 } in
    let at = slice_get-get_or fs i d h.within in
    some_holds s.bank.now (basics (known_at s)) fs i (get_or fs i d) at (h.holds (get_or fs i d) at)
