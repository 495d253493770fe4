-- Sorts of operations by the types of their operands.
use Rattle.std.proofs.Common.{◌≡◌, ℤ, pos, negsuc, List, [], ◌∷◌, ◌++◌, Bool, true, false, ◌&&◌, Option, Some, None, refl, sym, ◌∙◌, subst}
use Rattle.std.specs.Prelude.{is_some, ◌^◌, ◌-◌}
use Rattle.std.proofs.lemmas.Bool.{false≢true, and_parts}
use Rattle.ss_core.specs.declared.names.Ty.{Ty}
use Rattle.ss_core.specs.declared.names.Ty.TheVariants as ty
use Rattle.ss_core.specs.declared.expr.Operator.{Operator}
use Rattle.ss_core.specs.declared.expr.Operator.TheVariants as op
use Rattle.ss_core.specs.Tree.{ClassTree}
use Rattle.ss_store_rules.specs.Types.{is_int, is_bool, is_reference, where_typed, are_comparable, operation_type}
use Rattle.ss_logic.specs.declared.Sort.{Sort}
use Rattle.ss_logic.specs.declared.Sort.TheVariants as sort
use Rattle.ss_logic.specs.Terms.{Symbol, Add, Subtract, Multiply, Quotient, Remainder, Term, app, result_sort, takes, sort_of_type}
use Rattle.ss_logic.specs.Formulas.{AtMost, Formula, neg}
use Rattle.ss_logic.specs.Shapes.{number, null_term, equal, differ, at_most}
use Rattle.ss_logic.specs.Express.{and_of, or_of, and_more, or_more, Meant, Says, over_two, paired, said, element_sort, fits_int, less, equal_meant, operated, operation_parts, not_zero, not_null}
use Rattle.ss_logic_means.specs.Sorts.{AreWellFormed, IsWellExpressed}
use Rattle.ss_logic_means.proofs.Operands.{where_some, int_or_bool, reference_or_bool, by_comparable}
use Rattle.ss_logic_means.proofs.Sorting.{sorted_two, formed_two, equal_formed, more_formed}
use Rattle.ss_logic_means.proofs.Forming.{F, S, C, and_two, or_two, and_more_formed, or_more_formed, negation, under_formed, says_sorted, over_formed, over_two_formed, said_formed, same_formed, paired_sorted}

-- ---- sorts of types

pub int_sort : (a : Option Ty) → is_int a ≡ true → element_sort a ≡ sort.Whole
int_sort None h = absurd (false≢true h)
int_sort (Some ty.Int) h = refl
int_sort (Some ty.Bool) h = absurd (false≢true h)
int_sort (Some ty.Null) h = absurd (false≢true h)
int_sort (Some (ty.Ref t n)) h = absurd (false≢true h)

pub bool_sort : (a : Option Ty) → is_bool a ≡ true → element_sort a ≡ sort.Truth
bool_sort None h = absurd (false≢true h)
bool_sort (Some ty.Int) h = absurd (false≢true h)
bool_sort (Some ty.Bool) h = refl
bool_sort (Some ty.Null) h = absurd (false≢true h)
bool_sort (Some (ty.Ref t n)) h = absurd (false≢true h)

pub reference_sort : (a : Option Ty) → is_reference a ≡ true → element_sort a ≡ sort.Rest
reference_sort None h = absurd (false≢true h)
reference_sort (Some ty.Int) h = absurd (false≢true h)
reference_sort (Some ty.Bool) h = absurd (false≢true h)
reference_sort (Some ty.Null) h = refl
reference_sort (Some (ty.Ref t n)) h = refl

pub where_sort : (b : Bool) (t : Ty) → b ≡ true → element_sort (where_typed b t) ≡ sort_of_type t
where_sort true t h = refl
where_sort false t h = absurd (false≢true h)

module _ (cs : List ClassTree) (bound : List Sort) where
  pub number_sorted : (n : ℤ) → S cs bound sort.Whole (number n)
  number_sorted n = (refl, refl)

  pub null_sorted : S cs bound sort.Rest null_term
  null_sorted = (refl, refl)

  pub at_most_formed : (x y : Term) → S cs bound sort.Whole x → S cs bound sort.Whole y → F cs bound (at_most x y)
  at_most_formed x y h k = formed_two cs bound true AtMost sort.Whole sort.Whole x y refl h k

  pub less_formed : (x y : Term) → S cs bound sort.Whole x → S cs bound sort.Whole y → F cs bound (less x y)
  less_formed x y h k = negation cs bound (at_most y x) (at_most_formed y x k h)

  pub fits_formed : (x : Term) → S cs bound sort.Whole x → F cs bound (fits_int x)
  fits_formed x h =
      let least = negsuc (2 ^ 31 - 1) in
      let most = pos (2 ^ 31 - 1) in
      and_two cs bound (at_most (number least) x) (at_most x (number most)) (at_most_formed (number least) x (number_sorted least) h) (at_most_formed x (number most) h (number_sorted most))

  pub not_null_formed : (m : Meant) → C cs bound sort.Rest m → F cs bound (not_null m)
  not_null_formed m h = over_formed cs bound sort.Rest (λ x. differ x null_term) (λ x k. equal_formed cs bound false sort.Rest x null_term k null_sorted) m h

  not_zero_formed : (m : Meant) → C cs bound sort.Whole m → F cs bound (not_zero m)
  not_zero_formed m h = over_formed cs bound sort.Whole (λ x. differ x (number (pos 0))) (λ x k. equal_formed cs bound false sort.Whole x (number (pos 0)) k (number_sorted (pos 0))) m h

  pub as_sort : (s r : Sort) (m : Meant) → s ≡ r → C cs bound s m → C cs bound r m
  as_sort s r m e h = subst (λ u. C cs bound u m) e h

  module _ (ps qs : List Formula) (x y : Meant) (a b : Option Ty) (left : IsWellExpressed cs bound (element_sort a) ps x) (right : IsWellExpressed cs bound (element_sort b) qs y) where
    parts : AreWellFormed cs bound (ps ++ qs)
    parts = more_formed cs bound ps qs left.0 right.0

    -- of two truth values
    module _ (h : is_some (where_typed (is_bool a && is_bool b) ty.Bool) ≡ true) where
      are_bools : (is_bool a ≡ true) × (is_bool b ≡ true)
      are_bools = and_parts (is_bool a) (is_bool b) (where_some (is_bool a && is_bool b) ty.Bool h)

      first_said : F cs bound (said x)
      first_said = said_formed cs bound x (as_sort (element_sort a) sort.Truth x (bool_sort a are_bools.0) left.1)

      second_said : F cs bound (said y)
      second_said = said_formed cs bound y (as_sort (element_sort b) sort.Truth y (bool_sort b are_bools.1) right.1)

      says_bools : (f : Formula) → F cs bound f → C cs bound (element_sort (where_typed (is_bool a && is_bool b) ty.Bool)) (Says f)
      says_bools f k = as_sort sort.Truth _ (Says f) (sym (where_sort (is_bool a && is_bool b) ty.Bool (where_some (is_bool a && is_bool b) ty.Bool h))) (says_sorted cs bound f k)

    -- of two numbers
    module _ (t : Ty) (h : is_some (where_typed (is_int a && is_int b) t) ≡ true) where
      are_ints : (is_int a ≡ true) × (is_int b ≡ true)
      are_ints = and_parts (is_int a) (is_int b) (where_some (is_int a && is_int b) t h)

      first_whole : C cs bound sort.Whole x
      first_whole = as_sort (element_sort a) sort.Whole x (int_sort a are_ints.0) left.1

      second_whole : C cs bound sort.Whole y
      second_whole = as_sort (element_sort b) sort.Whole y (int_sort b are_ints.1) right.1

      result_sorted : (m : Meant) → C cs bound (sort_of_type t) m → C cs bound (element_sort (where_typed (is_int a && is_int b) t)) m
      result_sorted m k = as_sort (sort_of_type t) _ m (sym (where_sort (is_int a && is_int b) t (where_some (is_int a && is_int b) t h))) k

      whole_two : (f : Term → Term → Formula) → ((u v : Term) → S cs bound sort.Whole u → S cs bound sort.Whole v → F cs bound (f u v)) → F cs bound (over_two x y f)
      whole_two f each = over_two_formed cs bound sort.Whole sort.Whole f each x y first_whole second_whole

    compared : (f : Term → Term → Formula) → ((u v : Term) → S cs bound sort.Whole u → S cs bound sort.Whole v → F cs bound (f u v)) → (h : is_some (where_typed (is_int a && is_int b) ty.Bool) ≡ true) →
        IsWellExpressed cs bound (element_sort (where_typed (is_int a && is_int b) ty.Bool)) (ps ++ qs) (Says (over_two x y f))
    compared f each h = (parts, result_sorted ty.Bool h (Says (over_two x y f)) (says_sorted cs bound (over_two x y f) (whole_two ty.Bool h f each)))

    reckoned : (g : Term → Term → Term) → ((u v : Term) → S cs bound sort.Whole u → S cs bound sort.Whole v → S cs bound sort.Whole (g u v)) → (h : is_some (where_typed (is_int a && is_int b) ty.Int) ≡ true) →
        C cs bound (element_sort (where_typed (is_int a && is_int b) ty.Int)) (paired g x y)
    reckoned g each h = result_sorted ty.Int h (paired g x y) (paired_sorted cs bound sort.Whole sort.Whole sort.Whole g each x y (first_whole ty.Int h) (second_whole ty.Int h))

    result_fits : (g : Term → Term → Term) → ((u v : Term) → S cs bound sort.Whole u → S cs bound sort.Whole v → S cs bound sort.Whole (g u v)) → (h : is_some (where_typed (is_int a && is_int b) ty.Int) ≡ true) →
        F cs bound (over_two x y (λ u v. fits_int (g u v)))
    result_fits g each h = whole_two ty.Int h (λ u v. fits_int (g u v)) (λ u v i j. fits_formed (g u v) (each u v i j))

    -- of two that are compared
    equal_meant_formed : are_comparable a b ≡ true → (c : Bool) → is_bool a ≡ c → F cs bound (equal_meant c x y)
    equal_meant_formed h true is =
        let other = by_comparable {P = is_bool b ≡ true} a b h (λ i j. absurd (int_or_bool a i is)) (λ i j. j) (λ i j. absurd (reference_or_bool a i is)) in
        same_formed cs bound x y (as_sort (element_sort a) sort.Truth x (bool_sort a is) left.1) (as_sort (element_sort b) sort.Truth y (bool_sort b other) right.1)
    equal_meant_formed h false is =
        let one_sort = by_comparable {P = element_sort b ≡ element_sort a} a b h
        (λ i j. int_sort b j ∙ sym (int_sort a i)) (λ i j. bool_sort b j ∙ sym (bool_sort a i)) (λ i j. reference_sort b j ∙ sym (reference_sort a i)) in
        over_two_formed cs bound (element_sort a) (element_sort a) equal (λ u v i j. equal_formed cs bound true (element_sort a) u v i j) x y left.1 (as_sort (element_sort b) (element_sort a) y one_sort right.1)

    compared_sorted : (h : is_some (where_typed (are_comparable a b) ty.Bool) ≡ true) (f : Formula) → F cs bound f → C cs bound (element_sort (where_typed (are_comparable a b) ty.Bool)) (Says f)
    compared_sorted h f k = as_sort sort.Truth _ (Says f) (sym (where_sort (are_comparable a b) ty.Bool (where_some (are_comparable a b) ty.Bool h))) (says_sorted cs bound f k)

    with_one : (f : Formula) → F cs bound f → AreWellFormed cs bound (ps ++ qs ++ f ∷ [])
    with_one f h = more_formed cs bound (ps ++ qs) (f ∷ []) parts (h, tt)

    with_two : (f g : Formula) → F cs bound f → F cs bound g → AreWellFormed cs bound (ps ++ qs ++ f ∷ g ∷ [])
    with_two f g h k = more_formed cs bound (ps ++ qs) (f ∷ g ∷ []) parts (h, (k, tt))

    whole_of : (g : Symbol) → takes cs g (sort.Whole ∷ sort.Whole ∷ []) ≡ true → result_sort cs g ≡ sort.Whole → (u v : Term) → S cs bound sort.Whole u → S cs bound sort.Whole v → S cs bound sort.Whole (app g (u ∷ v ∷ []))
    whole_of g h r u v i j = let is = sorted_two cs bound g sort.Whole sort.Whole u v h i j in (is.0 ∙ r, is.1)

    pub operation_formed : (o : Operator) → is_some (operation_type o a b) ≡ true → IsWellExpressed cs bound (element_sort (operation_type o a b)) (operation_parts o x y ps qs) (operated o (is_bool a) x y)
    operation_formed op.And h = (
      more_formed cs bound ps _ left.0 (under_formed cs bound (said x) qs (first_said h) right.0),
      says_bools h (and_more (said x) (said y)) (and_more_formed cs bound (said x) (said y) (first_said h) (second_said h)),
    )
    operation_formed op.Or h = (
      more_formed cs bound ps _ left.0 (under_formed cs bound (neg (said x)) qs (negation cs bound (said x) (first_said h)) right.0),
      says_bools h (or_more (said x) (said y)) (or_more_formed cs bound (said x) (said y) (first_said h) (second_said h)),
    )
    operation_formed op.Equal h =
        let f = equal_meant_formed (where_some (are_comparable a b) ty.Bool h) (is_bool a) refl in
        (parts, compared_sorted h (equal_meant (is_bool a) x y) f)
    operation_formed op.NotEqual h =
        let f = equal_meant_formed (where_some (are_comparable a b) ty.Bool h) (is_bool a) refl in
        (parts, compared_sorted h (neg (equal_meant (is_bool a) x y)) (negation cs bound (equal_meant (is_bool a) x y) f))
    operation_formed op.Less h = compared less less_formed h
    operation_formed op.LessEqual h = compared at_most at_most_formed h
    operation_formed op.Greater h = compared (λ u v. less v u) (λ u v i j. less_formed v u j i) h
    operation_formed op.GreaterEqual h = compared (λ u v. at_most v u) (λ u v i j. at_most_formed v u j i) h
    operation_formed op.Add h = (
      with_one (over_two x y (λ u v. fits_int (app Add (u ∷ v ∷ [])))) (result_fits (λ u v. app Add (u ∷ v ∷ [])) (whole_of Add refl refl) h),
      reckoned (λ u v. app Add (u ∷ v ∷ [])) (whole_of Add refl refl) h,
    )
    operation_formed op.Subtract h = (
      with_one (over_two x y (λ u v. fits_int (app Subtract (u ∷ v ∷ [])))) (result_fits (λ u v. app Subtract (u ∷ v ∷ [])) (whole_of Subtract refl refl) h),
      reckoned (λ u v. app Subtract (u ∷ v ∷ [])) (whole_of Subtract refl refl) h,
    )
    operation_formed op.Multiply h = (
      with_one (over_two x y (λ u v. fits_int (app Multiply (u ∷ v ∷ [])))) (result_fits (λ u v. app Multiply (u ∷ v ∷ [])) (whole_of Multiply refl refl) h),
      reckoned (λ u v. app Multiply (u ∷ v ∷ [])) (whole_of Multiply refl refl) h,
    )
    operation_formed op.Divide h = (
      with_two (not_zero y) (over_two x y (λ u v. fits_int (app Quotient (u ∷ v ∷ [])))) (not_zero_formed y (second_whole ty.Int h)) (result_fits (λ u v. app Quotient (u ∷ v ∷ [])) (whole_of Quotient refl refl) h),
      reckoned (λ u v. app Quotient (u ∷ v ∷ [])) (whole_of Quotient refl refl) h,
    )
    operation_formed op.Remainder h = (
      with_two (not_zero y) (over_two x y (λ u v. fits_int (app Quotient (u ∷ v ∷ [])))) (not_zero_formed y (second_whole ty.Int h)) (result_fits (λ u v. app Quotient (u ∷ v ∷ [])) (whole_of Quotient refl refl) h),
      reckoned (λ u v. app Remainder (u ∷ v ∷ [])) (whole_of Remainder refl refl) h,
    )
