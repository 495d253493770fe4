-- The entries of the joins that ended classes.
use Rattle.std.proofs.Common.{◌≡◌, ◌≢◌, ℕ, zero, suc, ◌+◌, ◌<◌, List, [], ◌∷◌, length, set, length-set, Option, Some, None, refl, sym, ◌∙◌, ap, ◌⊎◌, ⊎_elim, arith}
use Rattle.std.specs.Prelude.{slice_get}
use Rattle.std.proofs.lemmas.Bool.{cases_eq, cases_lt}
use Rattle.ss_equality_rules.specs.declared.Join.{Join}
use Rattle.ss_equality_rules.specs.Names.{IsLog, IsEnd, HasNoEnd}
use Rattle.ss_equality_rules.proofs.Classes.{set_cases}
use Rattle.ss_equality_rules.proofs.Climb.{is_end}
use Rattle.ss_search_clashes.specs.Ways.{AreEnds}
use Rattle.ss_search_clashes.proofs.Lists.{one_there}

pub set_here : {A : Type 0} (xs : List A) (i : ℕ) (y : A) → i < length xs → slice_get (set xs i y) i ≡ Some y
set_here [] i y h = absurd (omega (arith, h))
set_here (x ∷ xs) zero y h = refl
set_here (x ∷ xs) (suc i) y h = set_here xs i y (omega (arith, h))

pub set_there : {A : Type 0} (xs : List A) (i : ℕ) (y : A) (j : ℕ) → i ≢ j → slice_get (set xs i y) j ≡ slice_get xs j
set_there [] i y j h = refl
set_there (x ∷ xs) zero y zero h = absurd (h refl)
set_there (x ∷ xs) zero y (suc j) h = refl
set_there (x ∷ xs) (suc i) y zero h = refl
set_there (x ∷ xs) (suc i) y (suc j) h = set_there xs i y j (λ s. h (ap suc s))

-- the entries for the first so many joins
pub record AreEndsOf (terms : ℕ) (es : List Join) (so_many : ℕ) (ends : List (Option ℕ)) : Type 0 where
  pub long : length ends ≡ terms
  pub gone : (class j : ℕ) → slice_get ends class ≡ Some (Some j) → (e : Join) × (slice_get es j ≡ Some e) × (e.from ≡ class)
  pub ended : (j : ℕ) (e : Join) → j < so_many → slice_get es j ≡ Some e → (i : ℕ) × (slice_get ends e.from ≡ Some (Some i))

pub no_ends_yet : (terms : ℕ) (es : List Join) (ends : List (Option ℕ)) → length ends ≡ terms → ((class j : ℕ) → slice_get ends class ≡ Some (Some j) → ⊥) → AreEndsOf terms es 0 ends
no_ends_yet terms es ends long none = record {
  long = long;
  gone = λ class j at. absurd (none class j at);
  ended = λ j e l at. absurd (omega (arith, l));
}

module _ (terms : ℕ) (es : List Join) (log : IsLog terms es) where
  pub from_inside : (k : ℕ) (e : Join) (ends : List (Option ℕ)) → slice_get es k ≡ Some e → AreEndsOf terms es k ends → e.from < length ends
  from_inside k e ends at are = let low = (log.joins k e at).from_below in omega (arith, low, are.long)

  pub one_more_end : (k : ℕ) (e : Join) (ends : List (Option ℕ)) → slice_get es k ≡ Some e → AreEndsOf terms es k ends → AreEndsOf terms es (k + 1) (set ends e.from (Some k))
  one_more_end k e ends at are = record {
    long = length-set ends e.from (Some k) ∙ are.long;
    gone = λ class j h. ⊎_elim
        (λ here. let same : k ≡ j = let s : ◌≡◌ {A = Option ℕ} (Some k) (Some j) = here.1 in cc in (e, ap (slice_get es) (sym same) ∙ at, here.0))
        (λ old. are.gone class j old.1)
        (set_cases ends e.from (Some k) class (Some j) h);
    ended = λ j d l at_d. ⊎_elim
        (λ same. (k, ap (slice_get (set ends e.from (Some k))) (sym same) ∙ set_here ends e.from (Some k) (from_inside k e ends at are)))
        (λ other. ⊎_elim
        (λ less. let old = are.ended j d less at_d in (old.0, set_there ends e.from (Some k) d.from other ∙ old.1))
        (λ no. absurd (other (ap (λ z. z.from) (one_there es k e d at (ap (slice_get es) (let here : k ≡ j = omega (arith, no, l) in here) ∙ at_d)))))
        (cases_lt j k))
        (cases_eq e.from d.from);
  }

  pub all_ends : (so_many : ℕ) (ends : List (Option ℕ)) → AreEndsOf terms es so_many ends → ((j : ℕ) (e : Join) → slice_get es j ≡ Some e → j < so_many) → AreEnds es ends
  all_ends so_many ends are inside = record { terms = terms; log = log; gone = are.gone; ended = λ j e at. are.ended j e (inside j e at) at }

pub found_end : (es : List Join) (ends : List (Option ℕ)) → AreEnds es ends → (class j : ℕ) → slice_get ends class ≡ Some (Some j) → IsEnd es class j
found_end es ends are class j at = let p = are.gone class j at in is_end are.terms es are.log class j p.0 p.1 p.2

pub found_none : (es : List Join) (ends : List (Option ℕ)) → AreEnds es ends → (class : ℕ) → (slice_get ends class ≡ Some None) ⊎ (slice_get ends class ≡ None) → HasNoEnd es class
found_none es ends are class at = record {
  none = λ i e at_e from. let p = are.ended i e at_e in ⊎_elim (not_some p.0 (slice_get ends class) (ap (slice_get ends) (sym from) ∙ p.1)) (not_there p.0 (slice_get ends class) (ap (slice_get ends) (sym from) ∙ p.1)) at;
}
  where
    not_some : (i : ℕ) (o : Option (Option ℕ)) → o ≡ Some (Some i) → o ≡ Some None → ⊥
    not_some i o a b = cc

    not_there : (i : ℕ) (o : Option (Option ℕ)) → o ≡ Some (Some i) → o ≡ None → ⊥
    not_there i o a b = cc
