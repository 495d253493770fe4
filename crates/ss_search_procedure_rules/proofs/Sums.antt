-- Sums that contradict each other do so among more facts.
use Rattle.std.proofs.Common.{◌≡◌, ℕ, ℤ, pos, ◌⊎◌, ⊎_elim, inl, inr, List, [], ◌∷◌, length, Option, Some, None, refl, sym, ◌∙◌, ap, arith}
use Rattle.std.specs.Prelude.{option_and_then, slice_get, if◌then◌else◌}
use Rattle.std.specs.Int.{is_positive}
use Rattle.std.specs.List.{AllByRecursion}
use Rattle.std.proofs.lemmas.Option.{slice_get-get_or, slice_get_within, slice_get_past, get_or_from_slice_get}
use Rattle.ss_core.specs.Tree.{ClassTree}
use Rattle.ss_logic.specs.Formulas.{Formula}
use Rattle.ss_logic.specs.Sums.{LinearSum, number_sum, sum_fact_of, add_weighted, weighted, bounded}
use Rattle.ss_linear_rules.specs.Two.{IsDifferenceAt, IsUnit, Two}
use Rattle.ss_logic.specs.Includes.{Includes}

and_then_agree : {A B : Type 0} (f g : A → Option B) → ((x : A) → f x ≡ g x) → (o : Option A) → option_and_then f o ≡ option_and_then g o
and_then_agree f g h None = refl
and_then_agree f g h (Some x) = h x

module _ (cs : List ClassTree) (fs gs : List Formula) (more : Includes gs fs) where
  -- a place of the longer list with the same formula
  record Moved (k : ℕ) : Type 0 where
    to : ℕ
    same : slice_get gs to ≡ slice_get fs k

  moved : (k : ℕ) → Moved k
  moved k = by (slice_get fs k) refl
    where
      by : (o : Option Formula) → slice_get fs k ≡ o → Moved k
      by None e = record { to = length gs; same = slice_get_past gs (length gs) (omega arith) ∙ sym e }
      by (Some f) e =
          let h = more f (k, slice_get_within fs k f e, get_or_from_slice_get fs k f f e) in
          record { to = h.0; same = slice_get-get_or gs h.0 f h.1 ∙ ap Some h.2 ∙ sym e }

  abbrev moved_parts : List (ℕ × ℤ) → List (ℕ × ℤ)
  moved_parts [] = []
  moved_parts (p ∷ ps) = ((moved p.0).to, p.1) ∷ moved_parts ps

  weighted_moved : (a : LinearSum) (ps : List (ℕ × ℤ)) → weighted cs gs a (moved_parts ps) ≡ weighted cs fs a ps
  weighted_moved a [] = refl
  weighted_moved a (p ∷ ps) =
      ap (λ o. option_and_then (λ fact. option_and_then (λ b. weighted cs gs b (moved_parts ps)) (add_weighted p.1 a fact)) (option_and_then (sum_fact_of cs) o)) (moved p.0).same
      ∙ and_then_agree (λ fact. option_and_then (λ b. weighted cs gs b (moved_parts ps)) (add_weighted p.1 a fact)) (λ fact. option_and_then (λ b. weighted cs fs b ps) (add_weighted p.1 a fact))
      (λ fact. and_then_agree (λ b. weighted cs gs b (moved_parts ps)) (λ b. weighted cs fs b ps) (λ b. weighted_moved b ps) (add_weighted p.1 a fact))
      (option_and_then (sum_fact_of cs) (slice_get fs p.0))

  units_moved : (ps : List (ℕ × ℤ)) → AllByRecursion (λ (p : ℕ × ℤ). IsUnit p.1) ps → AllByRecursion (λ (p : ℕ × ℤ). IsUnit p.1) (moved_parts ps)
  units_moved [] h = tt
  units_moved (p ∷ ps) h = (h.0, units_moved ps h.1)

  differences_moved : (ps : List (ℕ × ℤ)) → AllByRecursion (λ (p : ℕ × ℤ). IsDifferenceAt cs fs p.0) ps → AllByRecursion (λ (p : ℕ × ℤ). IsDifferenceAt cs gs p.0) (moved_parts ps)
  differences_moved [] h = tt
  differences_moved (p ∷ ps) h = ((h.0.0, ap (option_and_then (sum_fact_of cs)) (moved p.0).same ∙ h.0.1, h.0.2), differences_moved ps h.1)

  as_many : (ps : List (ℕ × ℤ)) → length (moved_parts ps) ≡ length ps
  as_many [] = refl
  as_many (p ∷ ps) = let e = as_many ps in omega (arith, e)

  pub two_of_more : Two cs fs → Two cs gs
  two_of_more t = record {
    weights = moved_parts t.weights;
    units = units_moved t.weights t.units;
    few = ⊎_elim (λ l. inl (let e = as_many t.weights in omega (arith, e, l))) (λ d. inr (differences_moved t.weights d)) t.few;
    result = t.result;
    gives = ap (λ o. if is_positive (pos 1) then option_and_then (bounded (pos 1)) o else None) (weighted_moved (number_sum (pos 0)) t.weights) ∙ t.gives;
    contradicts = t.contradicts;
  }
