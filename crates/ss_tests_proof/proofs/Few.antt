-- Few classes with few fields are within the limits.
use Rattle.std.proofs.Common.{◌≡◌, ℕ, zero, suc, ◌*◌, ◌≤◌, List, [], ◌∷◌, length, Bool, true, false, None, ◌&&◌, arith}
use Rattle.std.specs.Prelude.{if◌then◌else◌, slice_get, nat_le, ◌==◌, ◌/◌, ◌%◌, ◌-◌, sum_by}
use Rattle.std.specs.List.{list_all}
use Rattle.std.proofs.lemmas.Bool.{and_parts, leb-true}
use Rattle.std.proofs.lemmas.List.Sums.{sum_by-cons}
use Rattle.ss_core.specs.Tree.{ClassTree}
use Rattle.ss_core.specs.Chain.{declared, above, levels_from, levels, most_levels, fields_of, field_count, IsWithinLimits}

abbrev has_few : ClassTree → Bool
has_few c = nat_le (length c.fields) 16

found_few : (cs : List ClassTree) (k : ℕ) → list_all has_few cs ≡ true → length (fields_of (slice_get cs k)) ≤ 16
found_few [] k h = omega arith
found_few (c ∷ cs) zero h = leb-true _ _ (and_parts (has_few c) (list_all has_few cs) h).0
found_few (c ∷ cs) (suc k) h = found_few cs k (and_parts (has_few c) (list_all has_few cs) h).1

chosen_few : (cs : List ClassTree) (b : Bool) (k : ℕ) → list_all has_few cs ≡ true → length (fields_of (if b then slice_get cs k else None)) ≤ 16
chosen_few cs true k h = found_few cs k h
chosen_few cs false k h = omega arith

declared_few : (cs : List ClassTree) (t : ℕ) → list_all has_few cs ≡ true → length (fields_of (declared cs t)) ≤ 16
declared_few cs t h = chosen_few cs (nat_le 4 t && t % 2 == 0) ((t - 4) / 2) h

sum_few : (f : ℕ → ℕ) → ((t : ℕ) → f t ≤ 16) → (ts : List ℕ) → sum_by f ts ≤ length ts * 16
sum_few f h [] = omega arith
sum_few f h (t ∷ ts) =
    let e = sum_by-cons f t ts in
    let here = h t in
    let rest = sum_few f h ts in
    omega (arith, e, here, rest)

one_more : (b : Bool) (t n : ℕ) (ts : List ℕ) → length ts ≤ n → length (t ∷ (if b then [] else ts)) ≤ suc n
one_more true t n ts h = omega arith
one_more false t n ts h = omega (arith, h)

levels_few : (cs : List ClassTree) (n t : ℕ) → length (levels_from cs n t) ≤ n
levels_few cs zero t = omega arith
levels_few cs (suc n) t = one_more (t == 0) t n (levels_from cs n (above cs t)) (levels_few cs n (above cs t))

pub few_within : (cs : List ClassTree) → length cs ≤ 4096 → list_all has_few cs ≡ true → IsWithinLimits cs
unfolding field_count levels most_levels
few_within cs l h = record {
  classes = l;
  fields = λ t.
      let all = sum_few (λ level. length (fields_of (declared cs level))) (λ level. declared_few cs level h) (levels_from cs 64 t) in
      let few = levels_few cs 64 t in
      omega (arith, all, few);
}
