-- The fields of a class are told by number as they are told by the class that declares them.
use Rattle.std.proofs.Common.{◌≡◌, ℕ, zero, suc, ◌+◌, ◌-◌, ◌*◌, ◌<◌, ◌≤◌, List, [], ◌∷◌, length, take, Bool, true, false, refl, sym, ◌∙◌, ap, arith, ⊎_elim}
use Rattle.std.specs.Prelude.{◌==◌, ◌&&◌, nat_le, nat_lt, Option, Some, None, slice_get, sum_by}
use Rattle.std.proofs.lemmas.Bool.{cases_lt, eq-eqb, ne_eqb, le-leb, lt-leb, le-ltb, lt-ltb}
use Rattle.std.proofs.lemmas.List.Sums.{sum_by-cons}
use Rattle.std.proofs.lemmas.Option.{slice_get_cases}
use Rattle.ss_core.specs.Tree as core
use Rattle.ss_core.specs.Chain.{DeclaredField, fields_from, fields_of}
use Rattle.ss_core.proofs.Fields.{first_class, later_class}
use Rattle.ss_typed.specs.Tree.{TypedTree}
use Rattle.ss_paths.specs.Fields.{field_count, field_numbers, is_among}
use Rattle.ss_typed.specs.Lookups.{class_place}
use Rattle.ss_expand_rules.specs.Program.{field_at}

-- the field is one that the class t declares
abbrev pub is_declared_in : ℕ → Option DeclaredField → Bool
is_declared_in t None = false
is_declared_in t (Some d) = d.class == t

-- ---- numbers

later_none : (t m : ℕ) (cs : List core.ClassTree) (f : ℕ) → t < m → is_declared_in t (slice_get (fields_from m cs) f) ≡ false
later_none t m [] f l = refl
later_none t m (c ∷ cs) f l =
    ⊎_elim
    (λ here. ap (is_declared_in t) (first_class m c cs f here.0 here.2) ∙ ne_eqb m t (λ e. omega arith))
    (λ past. ap (is_declared_in t) (later_class m c cs f past.0) ∙ later_none t (m + 2) cs (f - length c.fields) (omega arith))
    (slice_get_cases c.fields f).1

abbrev pub among : ℕ → ℕ → ℕ → Bool
among first count f = nat_le first f && nat_lt (f - first) count

outside : (first count f : ℕ) → f < first → among first count f ≡ false
outside first count f l = ap (λ b. b && nat_lt (f - first) count) (lt-leb first f l)

and_none : (a b : Bool) → b ≡ false → (a && b) ≡ false
and_none true b h = h
and_none false b h = refl

-- among those of the class that stands k places on
pub class_fields : (n : ℕ) (cs : List core.ClassTree) (k f : ℕ) → is_declared_in (n + 2 * k) (slice_get (fields_from n cs) f) ≡ among (sum_by field_count (take k cs)) (length (fields_of (slice_get cs k))) f
class_fields n [] k f = none_among k f
  where
    none_among : (k f : ℕ) → false ≡ among (sum_by field_count (take k [])) (length (fields_of (slice_get [] k))) f
    none_among k f = sym (and_none (nat_le (sum_by field_count (take k [])) f) (nat_lt (f - sum_by field_count (take k [])) 0) (le-ltb (f - sum_by field_count (take k [])) 0 (omega arith)))
class_fields n (c ∷ cs) zero f =
    let same : n + 2 * 0 ≡ n = omega arith in
    let back : f - 0 ≡ f = omega arith in
    let low : nat_le 0 f ≡ true = le-leb 0 f (omega arith) in
    ⊎_elim
    (λ here.
    let l = here.1 in
    let left : is_declared_in (n + 2 * 0) (slice_get (fields_from n (c ∷ cs)) f) ≡ true = ap (is_declared_in (n + 2 * 0)) (first_class n c cs f here.0 here.2) ∙ eq-eqb n (n + 2 * 0) (sym same) in
    let right : among 0 (length c.fields) f ≡ true = rw (low, back) (lt-ltb f (length c.fields) l) in
    left ∙ sym right)
    (λ past.
    let l = past.0 in
    let left : is_declared_in (n + 2 * 0) (slice_get (fields_from n (c ∷ cs)) f) ≡ false = ap (is_declared_in (n + 2 * 0)) (later_class n c cs f past.0) ∙ later_none (n + 2 * 0) (n + 2) cs (f - length c.fields) (omega arith) in
    let right : among 0 (length c.fields) f ≡ false = rw (low, back) (le-ltb f (length c.fields) l) in
    left ∙ sym right)
    (slice_get_cases c.fields f).1
class_fields n (c ∷ cs) (suc k) f =
    let t = n + 2 * suc k in
    let m = sum_by field_count (take k cs) in
    let count = length (fields_of (slice_get cs k)) in
    let sum : sum_by field_count (take (suc k) (c ∷ cs)) ≡ length c.fields + m = sum_by-cons field_count c (take k cs) in
    let next : n + 2 * suc k ≡ n + 2 + 2 * k = omega arith in
    ⊎_elim
    (λ here.
    let l = here.1 in
    let left : is_declared_in t (slice_get (fields_from n (c ∷ cs)) f) ≡ false = ap (is_declared_in t) (first_class n c cs f here.0 here.2) ∙ ne_eqb n t (λ e. omega arith) in
    left ∙ sym (ap (λ x. among x count f) sum ∙ outside (length c.fields + m) count f (omega arith)))
    (λ past.
    let l = past.0 in
    let g = f - length c.fields in
    let rest = class_fields (n + 2) cs k g in
    let left : is_declared_in t (slice_get (fields_from n (c ∷ cs)) f) ≡ among m count g = ap (is_declared_in t) (later_class n c cs f past.0) ∙ ap (λ x. is_declared_in x (slice_get (fields_from (n + 2) cs) g)) next ∙ rest in
    left ∙ shifted (length c.fields) m count f l ∙ sym (ap (λ x. among x count f) sum))
    (slice_get_cases c.fields f).1
  where
    shifted : (size m count f : ℕ) → size ≤ f → among m count (f - size) ≡ among (size + m) count f
    shifted size m count f l =
        ⊎_elim
        (λ low. outside m count (f - size) low ∙ sym (outside (size + m) count f (omega arith)))
        (λ high.
        let one : nat_le m (f - size) ≡ true = le-leb m (f - size) high in
        let two : nat_le (size + m) f ≡ true = le-leb (size + m) f (omega arith) in
        let same : f - size - m ≡ f - (size + m) = omega arith in
        rw (one, two, same) refl)
        (cases_lt (f - size) m)

-- of a declared class
pub same_fields : (p : TypedTree) (k f : ℕ) → is_declared_in (4 + 2 * k) (field_at p f) ≡ is_among (field_numbers p (4 + 2 * k)) f
same_fields p k f =
    let place : class_place (4 + 2 * k) ≡ k = omega arith in
    class_fields 4 p.classes k f ∙ sym (ap (λ i. among (sum_by field_count (take i p.classes)) (length (fields_of (slice_get p.classes i))) f) place)
