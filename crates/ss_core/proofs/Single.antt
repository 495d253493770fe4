-- A table of one class directly below `object`.
use Rattle.std.proofs.Common.{◌≡◌, ℕ, zero, suc, ◌≤◌, ◌-◌, List, [], ◌∷◌, length, Bool, true, false, None, refl, arith, ⊎_elim}
use Rattle.std.specs.Prelude.{if◌then◌else◌, slice_get, nat_le, ◌==◌, ◌&&◌, ◌/◌, ◌%◌, sum_by}
use Rattle.std.proofs.lemmas.Bool.{cases_eq, eq-eqb, ne_eqb}
use Rattle.ss_core.specs.Tree.{ClassTree}
use Rattle.ss_core.specs.Chain.{declared, above_of, above, levels_from, levels, most_levels, fields_of, field_count, IsWithinLimits}

found_few : (c : ClassTree) (b : Bool) (n : ℕ) → length (fields_of (if b then slice_get (c ∷ []) n else None)) ≤ length c.fields
found_few c false n = omega arith
found_few c true zero = omega arith
found_few c true (suc n) = omega arith

found_above : (c : ClassTree) (b : Bool) (n : ℕ) → c.above ≡ 0 → above_of (if b then slice_get (c ∷ []) n else None) ≡ 0
found_above c false n h = refl
found_above c true zero h = h
found_above c true (suc n) h = refl

few : (c : ClassTree) (t : ℕ) → length (fields_of (declared (c ∷ []) t)) ≤ length c.fields
few c t = found_few c (nat_le 4 t && t % 2 == 0) ((t - 4) / 2)

above_all : (c : ClassTree) (t : ℕ) → c.above ≡ 0 → above (c ∷ []) t ≡ 0
above_all c t h = found_above c (nat_le 4 t && t % 2 == 0) ((t - 4) / 2) h

-- how many fields the levels have together
abbrev count : List ClassTree → List ℕ → ℕ
count cs ts = sum_by (λ level. length (fields_of (declared cs level))) ts

count_all : (c : ClassTree) (t : ℕ) → c.above ≡ 0 → count (c ∷ []) (levels_from (c ∷ []) 64 t) ≤ length c.fields
count_all c t h =
    let one = few c t in
    ⊎_elim
    (λ z. rw (eq-eqb t 0 z) (omega arith))
    (λ nz. rw (ne_eqb t 0 nz, above_all c t h) (omega arith))
    (cases_eq t 0)

-- it is within the limits where its fields are
pub one_class : (c : ClassTree) → c.above ≡ 0 → length c.fields ≤ 1024 → IsWithinLimits (c ∷ [])
unfolding field_count levels most_levels
one_class c h l = record {
  classes = omega arith;
  fields = λ t. let all = count_all c t h in omega arith;
}
