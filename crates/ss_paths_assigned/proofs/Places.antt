-- Where the fields of classes begin.
use Rattle.std.proofs.Common.{◌≡◌, ◌≤◌, ◌+◌, ℕ, zero, suc, List, [], ◌∷◌, length, take, get_or, map, min, sum_by, false, refl, sym, ap, ◌∙◌, arith, zero-add, add_assoc, add-zero}
use Rattle.std.specs.Prelude.{slice_get, is_some}
use Rattle.std.proofs.lemmas.List.{get_or_read, take_min}
use Rattle.std.proofs.lemmas.List.Sums.{sum_by-cons}
use Rattle.ss_core.specs.Tree.{ClassTree}
use Rattle.ss_paths.specs.Fields.{field_count, written_fields}
use Rattle.ss_paths.specs.Sets.{none}
use Rattle.ss_paths.specs.Assigned.{starts_with_value, has_initializer}
use Rattle.ss_typed.specs.Tree.{FieldTree, TypedTree}
use Rattle.ss_paths_assigned.specs.Numbered.{firsts_from}
use Rattle.ss_paths_assigned.specs.Started.{started}
use Rattle.ss_bit_set.specs.Marked.{listed}
use Rattle.ss_paths.proofs.Among.{same_sets}

pub firsts_length : (n : ℕ) (cs : List ClassTree) → length (firsts_from n cs) ≡ length cs + 1
firsts_length n [] = refl
firsts_length n (c ∷ cs) = let h = firsts_length (n + field_count c) cs in omega arith

pub firsts_at : (n : ℕ) (cs : List ClassTree) (k d : ℕ) → k ≤ length cs → get_or (firsts_from n cs) k d ≡ n + sum_by field_count (take k cs)
firsts_at n [] zero d l = sym (add-zero n)
firsts_at n [] (suc k) d l = absurd (omega arith)
firsts_at n (c ∷ cs) zero d l = sym (add-zero n)
firsts_at n (c ∷ cs) (suc k) d l = firsts_at (n + field_count c) cs k d (omega arith) ∙ add_assoc n (field_count c) (sum_by field_count (take k cs)) ∙ ap (λ s. n + s) (sym (sum_by-cons field_count c (take k cs)))

-- the number of a class's first field, where it was read at the place of the class, or after all
pub first_is : (cs : List ClassTree) (fs : List ℕ) (n k place x : ℕ) → fs ≡ firsts_from 0 cs → x ≡ get_or fs place x → place ≡ min k n → n ≡ length cs → x ≡ sum_by field_count (take k cs)
first_is cs fs n k place x fs_is x_is place_is n_is =
    let long = ap length fs_is ∙ firsts_length 0 cs in
    let within : place ≤ length cs = omega arith in
    get_or_read fs place x (omega arith) x_is 0
    ∙ ap (λ xs. get_or xs place 0) fs_is
    ∙ firsts_at 0 cs place 0 within
    ∙ zero-add (sum_by field_count (take place cs))
    ∙ ap (λ j. sum_by field_count (take j cs)) (place_is ∙ ap (min k) n_is)
    ∙ ap (sum_by field_count) (take_min k cs)

-- ---- initializers

starts_at : (fs : List FieldTree) (x : ℕ) → get_or (map (λ (f : FieldTree). is_some f.initial) fs) x false ≡ starts_with_value (slice_get fs x)
starts_at [] zero = refl
starts_at [] (suc x) = refl
starts_at (f ∷ fs) zero = refl
starts_at (f ∷ fs) (suc x) = starts_at fs x

pub all_started : (fs : List FieldTree) → listed (map (λ (f : FieldTree). is_some f.initial) fs) ≡ started fs
unfolding listed started
all_started fs = same_sets (λ x. starts_at fs x)

none_at : (x : ℕ) → false ≡ starts_with_value (slice_get [] x)
none_at zero = refl
none_at (suc x) = refl

pub none_started : none ≡ started []
unfolding none started
none_started = same_sets none_at

pub initializers_are : (p : TypedTree) (t : ℕ) → has_initializer p t ≡ started (written_fields p t)
unfolding has_initializer started
initializers_are p t = refl
