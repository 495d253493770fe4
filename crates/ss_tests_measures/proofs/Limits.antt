-- A program without classes is within the limits.
use Rattle.std.proofs.Common.{◌≡◌, ℕ, ◌≤◌, List, [], ◌∷◌, length, Bool, true, false, None, ◌&&◌, refl, sym, subst, map, arith}
use Rattle.std.specs.Prelude.{if◌then◌else◌, slice_get, sum_by, nat_le, ◌==◌, ◌/◌, ◌%◌, ◌-◌}
use Rattle.std.proofs.lemmas.List.Sums.{sum_by-cons}
use Rattle.ss_core.specs.Tree.{ClassTree}
use Rattle.ss_core.specs.View.{class_of}
use Rattle.ss_core.specs.declared.class.Class.{Class}
use Rattle.ss_core.specs.Chain.{declared, levels_from, levels, most_levels, fields_of, field_count, IsWithinLimits}

none_found : (b : Bool) (k : ℕ) → length (fields_of (if b then slice_get [] k else None)) ≡ 0
none_found true k = refl
none_found false k = refl

none_declared : (t : ℕ) → length (fields_of (declared [] t)) ≡ 0
none_declared t = none_found (nat_le 4 t && t % 2 == 0) ((t - 4) / 2)

none_counted : (ts : List ℕ) → sum_by (λ level. length (fields_of (declared [] level))) ts ≡ 0
none_counted [] = refl
none_counted (t ∷ ts) =
    let whole = sum_by-cons (λ level. length (fields_of (declared [] level))) t ts in
    let here = none_declared t in
    let rest = none_counted ts in
    omega (arith, whole, here, rest)

nothing_within : IsWithinLimits []
unfolding field_count levels most_levels
nothing_within = record {
  classes = omega arith;
  fields = λ t. let none = none_counted (levels_from [] 64 t) in omega (arith, none);
}

pub none_within : (cs : List Class) → cs ≡ [] → IsWithinLimits (map class_of cs)
none_within cs e = let P : List Class → Type 0 = λ ds. IsWithinLimits (map class_of ds) in subst P (sym e) nothing_within
