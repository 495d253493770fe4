-- Choices open a formula part by part, and leave literals and `forall`s as they are.
use Rattle.std.proofs.Common.{◌≡◌, List, [], ◌∷◌, map, Bool, true, false, cond, refl, sym, ◌∙◌, ap, ⊎_elim}
use Rattle.std.proofs.lemmas.Bool.{cases_Bool, false≢true}
use Rattle.ss_logic.specs.declared.Sort.{Sort}
use Rattle.ss_logic.specs.Terms.{Term, Terms}
use Rattle.ss_logic.specs.Formulas.{Predicate, Formula, Formulas, Literal, And, Or, Forall, Exists, no_formulas, formula_then, formula_list, put}
use Rattle.ss_logic.specs.Equal.{same_formula, equal_formulas, same_formula_equal}
use Rattle.ss_logic.specs.Opened.{is_exists, replaced, all_replaced}
use Rattle.ss_logic_means.specs.Origins.{Choice, opened_at, opened_by}

abbrev pub each : (Formula → Formula) → Formulas → Formulas
each h no_formulas = no_formulas
each h (formula_then f fs) = formula_then (h f) (each h fs)

each_itself : (fs : Formulas) → each (λ f. f) fs ≡ fs
each_itself no_formulas = refl
each_itself (formula_then f fs) = ap (formula_then f) (each_itself fs)

each_replaced : (h : Formula → Formula) (w g : Formula) (fs : Formulas) → each h (all_replaced w g fs) ≡ each (λ f. h (replaced w g f)) fs
each_replaced h w g no_formulas = refl
each_replaced h w g (formula_then f fs) = ap (formula_then (h (replaced w g f))) (each_replaced h w g fs)

pub each_listed : (h : Formula → Formula) (fs : Formulas) → formula_list (each h fs) ≡ map h (formula_list fs)
each_listed h no_formulas = refl
each_listed h (formula_then f fs) = ap (λ xs. h f ∷ xs) (each_listed h fs)

-- ---- `and` and `or`

and_at : (h : Formula → Formula) (w : Formula) (ts : List Term) (fs : Formulas) → ((gs : Formulas) → h (And gs) ≡ And (each h gs)) → h (opened_at w ts (And fs)) ≡ And (each (λ f. h (opened_at w ts f)) fs)
and_at h (Exists ss g) ts fs by_parts = by_parts (all_replaced (Exists ss g) (put ts g) fs) ∙ ap And (each_replaced h (Exists ss g) (put ts g) fs)
and_at h w ts fs by_parts = by_parts fs

or_at : (h : Formula → Formula) (w : Formula) (ts : List Term) (fs : Formulas) → ((gs : Formulas) → h (Or gs) ≡ Or (each h gs)) → h (opened_at w ts (Or fs)) ≡ Or (each (λ f. h (opened_at w ts f)) fs)
or_at h (Exists ss g) ts fs by_parts = by_parts (all_replaced (Exists ss g) (put ts g) fs) ∙ ap Or (each_replaced h (Exists ss g) (put ts g) fs)
or_at h w ts fs by_parts = by_parts fs

pub and_opened : (choices : List Choice) (fs : Formulas) → opened_by choices (And fs) ≡ And (each (opened_by choices) fs)
and_opened [] fs = ap And (sym (each_itself fs))
and_opened (c ∷ choices) fs = and_at (opened_by choices) c.whole c.constants fs (λ gs. and_opened choices gs)

pub or_opened : (choices : List Choice) (fs : Formulas) → opened_by choices (Or fs) ≡ Or (each (opened_by choices) fs)
or_opened [] fs = ap Or (sym (each_itself fs))
or_opened (c ∷ choices) fs = or_at (opened_by choices) c.whole c.constants fs (λ gs. or_opened choices gs)

-- ---- literals

literal_at : (w : Formula) (ts : List Term) (s : Bool) (p : Predicate) (us : Terms) → opened_at w ts (Literal s p us) ≡ Literal s p us
literal_at (Exists ss g) ts s p us = refl
literal_at w ts s p us = refl

pub literal_opened : (choices : List Choice) (s : Bool) (p : Predicate) (us : Terms) → opened_by choices (Literal s p us) ≡ Literal s p us
literal_opened [] s p us = refl
literal_opened (c ∷ choices) s p us = ap (opened_by choices) (literal_at c.whole c.constants s p us) ∙ literal_opened choices s p us

-- ---- quantified formulas

-- an `exists` is no `forall`
apart : (ss rs : List Sort) (f h : Formula) → same_formula (Exists ss f) (Forall rs h) ≡ false
apart ss rs f h = ⊎_elim (λ yes. let same : Exists ss f ≡ Forall rs h = equal_formulas (Exists ss f) (Forall rs h) yes in cc) (λ no. no) (cases_Bool (same_formula (Exists ss f) (Forall rs h)))

forall_at : (w : Formula) (ts : List Term) (rs : List Sort) (h : Formula) → opened_at w ts (Forall rs h) ≡ Forall rs h
forall_at (Exists ss g) ts rs h = ap (λ t. cond t (put ts g) (Forall rs h)) (apart ss rs g h)
forall_at w ts rs h = refl

pub forall_opened : (choices : List Choice) (rs : List Sort) (h : Formula) → opened_by choices (Forall rs h) ≡ Forall rs h
forall_opened [] rs h = refl
forall_opened (c ∷ choices) rs h = ap (opened_by choices) (forall_at c.whole c.constants rs h) ∙ forall_opened choices rs h

-- the choice that opens an `exists`, and one that doesn't
pub opened_here : (ss : List Sort) (g : Formula) (ts : List Term) → opened_at (Exists ss g) ts (Exists ss g) ≡ put ts g
opened_here ss g ts = ap (λ t. cond t (put ts g) (Exists ss g)) (same_formula_equal (Exists ss g) (Exists ss g) refl)

exists_there : (w : Formula) (ts : List Term) (rs : List Sort) (h : Formula) → same_formula w (Exists rs h) ≡ false → opened_at w ts (Exists rs h) ≡ Exists rs h
exists_there (Exists ss g) ts rs h differ = ap (λ t. cond t (put ts g) (Exists rs h)) differ
exists_there w ts rs h differ = refl

pub opened_there : (w : Formula) (ts : List Term) (f : Formula) → is_exists f ≡ true → same_formula w f ≡ false → opened_at w ts f ≡ f
opened_there w ts (Exists rs h) e differ = exists_there w ts rs h differ
opened_there w ts f e differ = absurd (false≢true e)

pub exists_is : (f : Formula) → is_exists f ≡ true → (ss : List Sort) × (g : Formula) × (f ≡ Exists ss g)
exists_is (Exists ss g) e = (ss, g, refl)
exists_is f e = absurd (false≢true e)
