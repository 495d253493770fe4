-- Linear sums of terms, what known facts say of them, and what a weighted sum of facts gives. Where a number leaves 128 bits there is
-- none.
use Rattle.std.specs.Prelude.{ℕ, zero, suc, ◌^◌, nat_lt, ℤ, pos, negsuc, ◌+ℤ◌, ◌*ℤ◌, neg_ℤ, List, [], ◌∷◌, Bool, true, false, not, Option, Some, None, option_and_then, slice_get, if◌then◌else◌}
use Rattle.std.specs.Int.{int_div_euclid, int_rem_euclid, is_positive}
use Rattle.ss_core.specs.Tree.{ClassTree}
use Rattle.ss_logic.specs.declared.Sort.TheVariants as sort
use Rattle.ss_logic.specs.Terms.{Number, Add, Subtract, Multiply, Term, App, no_terms, term_then, app, sort_of, same_sort}
use Rattle.ss_logic.specs.Formulas.{Equal, AtMost, Formula, Literal}
use Rattle.ss_logic.specs.Equal.{same_term}
use Rattle.ss_logic.specs.Shapes.{when, number, at_most, literal_of}

-- ---- numbers

-- the number has 128 bits, one of them for its sign
abbrev pub is_within : ℤ → Bool
is_within (pos n) = nat_lt n (2 ^ 127)
is_within (negsuc n) = nat_lt n (2 ^ 127)

abbrev pub checked : ℤ → Option ℤ
checked n = when (is_within n) n

-- a and n times b
abbrev pub plus_times : ℤ → ℤ → ℤ → Option ℤ
plus_times a n b = option_and_then (λ c. checked (a +ℤ c)) (checked (n *ℤ b))

abbrev pub is_zero : ℤ → Bool
is_zero (pos zero) = true
is_zero (pos (suc n)) = false
is_zero (negsuc n) = false

-- ---- linear sums

-- terms, each once and with a coefficient, in the order of their first use, and a number
pub record LinearSum : Type 0 where
  pub parts : List (Term × ℤ)
  pub constant : ℤ

abbrev pub number_sum : ℤ → LinearSum
number_sum n = record { parts = []; constant = n }

abbrev pub term_sum : Term → LinearSum
term_sum t = record { parts = (t, pos 1) ∷ []; constant = pos 0 }

-- with n times a part more
abbrev pub add_part : ℤ → Term × ℤ → List (Term × ℤ) → Option (List (Term × ℤ))
add_part n q [] = option_and_then (λ c. Some ((q.0, c) ∷ [])) (plus_times (pos 0) n q.1)
add_part n q (p ∷ ps) =
    if same_term p.0 q.0 then option_and_then (λ c. Some ((p.0, c) ∷ ps)) (plus_times p.1 n q.1)
    else option_and_then (λ rest. Some (p ∷ rest)) (add_part n q ps)

abbrev pub add_parts : ℤ → List (Term × ℤ) → List (Term × ℤ) → Option (List (Term × ℤ))
add_parts n [] ps = Some ps
add_parts n (q ∷ qs) ps = option_and_then (λ more. add_parts n qs more) (add_part n q ps)

-- a sum, and n times another
abbrev pub add_times : LinearSum → ℤ → LinearSum → Option LinearSum
add_times a n b = option_and_then (λ ps. option_and_then (λ k. Some (record { parts = ps; constant = k })) (plus_times a.constant n b.constant)) (add_parts n b.parts a.parts)

abbrev pub sum_times : Option LinearSum → ℤ → Option LinearSum → Option LinearSum
sum_times a n b = option_and_then (λ x. option_and_then (λ y. add_times x n y) b) a

-- the product of two terms, where one of them is a number; else it is one term
abbrev pub product : Option ℤ → Option ℤ → Option LinearSum → Option LinearSum → LinearSum → Option LinearSum
product (Some n) o a b whole = sum_times (Some (number_sum (pos 0))) n b
product None (Some n) a b whole = sum_times (Some (number_sum (pos 0))) n a
product None None a b whole = Some whole

-- The sum that a term is. Terms other than numbers, sums, differences and products with a number are its parts.
abbrev pub linear : Term → Option LinearSum
linear (App (Number n) ts) = Some (number_sum n)
linear (App Add (term_then x (term_then y no_terms))) = sum_times (linear x) (pos 1) (linear y)
linear (App Subtract (term_then x (term_then y no_terms))) = sum_times (linear x) (negsuc 0) (linear y)
linear (App Multiply (term_then x (term_then y no_terms))) =
    product (literal_of x) (literal_of y) (linear x) (linear y) (term_sum (app Multiply (x ∷ y ∷ [])))
linear t = Some (term_sum t)

-- ---- facts

-- a sum that is 0, or is at most 0
pub record SumFact : Type 0 where
  pub is_equality : Bool
  pub sum : LinearSum

abbrev pub difference : Term → Term → Option LinearSum
difference x y = sum_times (linear x) (negsuc 0) (linear y)

abbrev pub sum_fact : Bool → Option LinearSum → Option SumFact
sum_fact is_equality o = option_and_then (λ a. Some (record { is_equality = is_equality; sum = a })) o

-- What a formula says of a sum: that x is at most y, or that y + 1 is at most x, or that two whole numbers are equal.
abbrev pub sum_fact_of : List ClassTree → Formula → Option SumFact
sum_fact_of cs (Literal true AtMost (term_then x (term_then y no_terms))) = sum_fact false (difference x y)
sum_fact_of cs (Literal false AtMost (term_then x (term_then y no_terms))) = sum_fact false (sum_times (difference y x) (pos 1) (Some (number_sum (pos 1))))
sum_fact_of cs (Literal true Equal (term_then x (term_then y no_terms))) = if same_sort (sort_of cs [] x) sort.Whole then sum_fact true (difference x y) else None
sum_fact_of cs f = None

-- the weight of an equality is not 0, any other is above 0
abbrev pub is_weight : Bool → ℤ → Bool
is_weight true w = not (is_zero w)
is_weight false w = is_positive w

-- a sum, and a fact with its weight
abbrev pub add_weighted : ℤ → LinearSum → SumFact → Option LinearSum
add_weighted w a fact = if is_weight fact.is_equality w then add_times a w fact.sum else None

-- a sum, and known facts with their weights
abbrev pub weighted : List ClassTree → List Formula → LinearSum → List (ℕ × ℤ) → Option LinearSum
weighted cs known a [] = Some a
weighted cs known a (p ∷ ps) =
    option_and_then (λ fact. option_and_then (λ b. weighted cs known b ps) (add_weighted p.1 a fact)) (option_and_then (sum_fact_of cs) (slice_get known p.0))

-- ---- what a weighted sum gives

-- each coefficient divided, where the divisor divides it; parts without one are left out
abbrev pub divided : ℤ → List (Term × ℤ) → Option (List (Term × ℤ))
divided d [] = Some []
divided d (p ∷ ps) =
    if is_zero p.1 then divided d ps
    else if is_zero (int_rem_euclid p.1 d) then option_and_then (λ rest. Some ((p.0, int_div_euclid p.1 d) ∷ rest)) (divided d ps)
    else None

abbrev pub multiple : Term × ℤ → Term
multiple p = app Multiply (number p.1 ∷ p.0 ∷ [])

abbrev pub sum_onto : Term → List (Term × ℤ) → Term
sum_onto x [] = x
sum_onto x (p ∷ ps) = sum_onto (app Add (x ∷ multiple p ∷ [])) ps

-- the parts as one term, 0 where there is none
abbrev pub sum_term : List (Term × ℤ) → Term
sum_term [] = number (pos 0)
sum_term (p ∷ ps) = sum_onto (multiple p) ps

-- a sum that is at most 0, divided: its parts are at most the negated number, rounded down
abbrev pub bounded : ℤ → LinearSum → Option Formula
bounded d a = option_and_then (λ k. option_and_then (λ ps. Some (at_most (sum_term ps) (number (int_div_euclid k d)))) (divided d a.parts)) (checked (neg_ℤ a.constant))

-- The sum of known facts, each with its weight, divided by a number above 0. The numbers are the facts' places.
abbrev pub sum_of : List ClassTree → List Formula → ℤ → List (ℕ × ℤ) → Option Formula
sum_of cs known d ps = if is_positive d then option_and_then (bounded d) (weighted cs known (number_sum (pos 0)) ps) else None
