-- The invariants of classes that have none are well formed and admissible.
use Rattle.std.proofs.Common.{◌≡◌, ℕ, zero, suc, List, [], ◌∷◌, length, Bool, true, false, None, ◌&&◌, refl, ap, arith}
use Rattle.std.specs.Prelude.{if◌then◌else◌, slice_get, nat_le, ◌==◌, ◌/◌, ◌%◌, ◌-◌}
use Rattle.std.specs.List.{list_all}
use Rattle.std.proofs.lemmas.Bool.{and_parts, eqb-true}
use Rattle.ss_core.specs.Tree.{ClassTree, ExprTree}
use Rattle.ss_core.specs.Chain.{declared}
use Rattle.ss_store_rules.specs.Typed.{is_invariant}
use Rattle.ss_store_rules.specs.Admissible.{invariants_of, is_admissible}
use Rattle.ss_logic_means.specs.Scenes.{AreInvariants}

abbrev has_none : ClassTree → Bool
has_none c = length c.invariants == 0

none_listed : (xs : List ExprTree) → length xs ≡ 0 → xs ≡ []
none_listed [] h = refl
none_listed (x ∷ xs) h = absurd (omega (arith, h))

found_none : (cs : List ClassTree) (k : ℕ) → list_all has_none cs ≡ true → invariants_of (slice_get cs k) ≡ []
found_none [] k h = refl
found_none (c ∷ cs) zero h = none_listed c.invariants (eqb-true _ _ (and_parts (has_none c) (list_all has_none cs) h).0)
found_none (c ∷ cs) (suc k) h = found_none cs k (and_parts (has_none c) (list_all has_none cs) h).1

chosen_none : (cs : List ClassTree) (b : Bool) (k : ℕ) → list_all has_none cs ≡ true → invariants_of (if b then slice_get cs k else None) ≡ []
chosen_none cs true k h = found_none cs k h
chosen_none cs false k h = refl

declared_none : (cs : List ClassTree) (t : ℕ) → list_all has_none cs ≡ true → invariants_of (declared cs t) ≡ []
declared_none cs t h = chosen_none cs (nat_le 4 t && t % 2 == 0) ((t - 4) / 2) h

pub plain_invariants : (cs : List ClassTree) → list_all has_none cs ≡ true → AreInvariants cs
plain_invariants cs h = record {
  typed = λ t. ap (list_all (is_invariant cs t)) (declared_none cs t h);
  admissible = λ t. ap (list_all (is_admissible cs t)) (declared_none cs t h);
}
