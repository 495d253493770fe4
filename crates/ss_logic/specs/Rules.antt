-- The rules that are true in every structure, and their instances.
use Rattle.std.specs.Prelude.{ℕ, ℤ, pos, ◌-◌, neg_ℤ, List, [], ◌∷◌, Bool, true, false, ◌==◌, ◌&&◌, not, Option, Some, None, option_map, option_and_then, unsigned_abs, if◌then◌else◌}
use Rattle.std.specs.List.{list_any}
use Rattle.ss_core.specs.Tree.{ClassTree}
use Rattle.ss_core.specs.Chain.{above, sub}
use Rattle.ss_store_rules.specs.Numbers.{is_zero}
use Rattle.ss_logic.specs.declared.Sort.TheVariants as sort
use Rattle.ss_logic.specs.Terms.{Fixed, ClassName, Add, Multiply, Quotient, Remainder, TypeOf, Level, Pair, New, NewArray, Term, App, no_terms, term_then, app, have_sorts}
use Rattle.ss_logic.specs.Formulas.{Formula, Or, formulas_from, neg}
use Rattle.ss_logic.specs.declared.RuleName.{RuleName}
use Rattle.ss_logic.specs.declared.RuleName.TheVariants as rule
use Rattle.ss_logic.specs.Shapes.{when, number, null_term, class_term, owner_of, next_of, equal, differ, at_most, sub_atom, allocated, group, given, all_of, where_equal, literal_of, natural_of, class_of_term}
use Rattle.ss_logic.specs.Reads.{read_instance}

-- ---- fresh: the reference that a store allocates next

-- it isn't allocated, and isn't null
abbrev pub next_is_new : Term → Formula
next_is_new s = all_of (neg (allocated s (next_of s)) ∷ differ (next_of s) null_term ∷ [])

-- in the store with a new object its owner is a group
abbrev pub new_is_grouped : Term → Term → Formula
new_is_grouped after s = group (owner_of after (next_of s))

-- which is the owner of no object that was allocated
abbrev pub group_is_new : Term → Term → Term → Formula
group_is_new after s o = given (allocated s o ∷ []) (differ (owner_of s o) (owner_of after (next_of s)))

-- the store before, where the term is a store with a new object
abbrev pub store_before : Term → Option Term
store_before (App (New t) (term_then s no_terms)) = Some s
store_before (App (NewArray t) (term_then s (term_then n no_terms))) = Some s
store_before t = None

abbrev pub fresh_of : List ClassTree → ℕ → List Term → Option Formula
fresh_of cs n (s ∷ []) =
    if have_sorts cs (sort.Store ∷ []) (s ∷ [])
    then (if n == 0 then Some (next_is_new s) else if n == 1 then option_map (new_is_grouped s) (store_before s) else None)
    else None
fresh_of cs n (s ∷ o ∷ []) =
    if n == 2 && have_sorts cs (sort.Store ∷ sort.Rest ∷ []) (s ∷ o ∷ []) then option_map (λ before. group_is_new s before o) (store_before s) else None
fresh_of cs n ts = None

-- ---- class: which classes count as others

-- the class name counts as the other, or doesn't
abbrev pub class_fact : List ClassTree → ℕ → ℕ → Formula
class_fact cs c t = if sub cs c t then sub_atom (class_term c) (class_term t) else neg (sub_atom (class_term c) (class_term t))

-- what counts as t counts as the class above it
abbrev pub class_above : List ClassTree → Term → ℕ → Formula
class_above cs x t = given (sub_atom x (class_term t) ∷ []) (sub_atom x (class_term (above cs t)))

-- nothing counts as two unrelated classes
abbrev pub class_apart : Term → ℕ → ℕ → Formula
class_apart x c t = given (sub_atom x (class_term c) ∷ []) (neg (sub_atom x (class_term t)))

-- the class stands beside the levels of another one
abbrev pub stands_beside : List ClassTree → ℕ → Bool
stands_beside cs t = list_any (λ c. list_any (λ u. u == t) c.also) cs

abbrev pub are_unrelated : List ClassTree → ℕ → ℕ → Bool
are_unrelated cs c t = not (sub cs c t) && not (sub cs t c) && not (stands_beside cs c) && not (stands_beside cs t)

-- a class name, the class of an object or a level
abbrev pub is_class_term : Term → Bool
is_class_term (App (ClassName t) ts) = true
is_class_term (App TypeOf ts) = true
is_class_term (App Level ts) = true
is_class_term t = false

abbrev pub class_pair : List ClassTree → Option ℕ → Option ℕ → Option Formula
class_pair cs (Some c) (Some t) = Some (class_fact cs c t)
class_pair cs c t = None

abbrev pub class_up : List ClassTree → Term → Option ℕ → Option Formula
class_up cs x (Some t) = when (not (t == 0)) (class_above cs x t)
class_up cs x None = None

abbrev pub class_two : List ClassTree → Term → Option ℕ → Option ℕ → Option Formula
class_two cs x (Some c) (Some t) = when (are_unrelated cs c t) (class_apart x c t)
class_two cs x c t = None

abbrev pub class_of : List ClassTree → ℕ → List Term → Option Formula
class_of cs n (x ∷ []) = when (n == 3 && is_class_term x && have_sorts cs (sort.Rest ∷ []) (x ∷ [])) (sub_atom x x)
class_of cs n (x ∷ t ∷ []) =
    if n == 0 then class_pair cs (class_of_term x) (class_of_term t)
    else if n == 1 && have_sorts cs (sort.Rest ∷ []) (x ∷ []) then class_up cs x (class_of_term t)
    else None
class_of cs n (x ∷ c ∷ t ∷ []) =
    if n == 2 && have_sorts cs (sort.Rest ∷ []) (x ∷ []) then class_two cs x (class_of_term c) (class_of_term t) else None
class_of cs n ts = None

-- ---- split: owners are groups or pairs

-- equal pairs have equal parts
abbrev pub pairs_agree : Term → Term → Term → Term → Term → Term → Formula
pairs_agree p q o t u v = all_of (given (where_equal p q) (equal o u) ∷ given (where_equal p q) (equal t v) ∷ [])

abbrev pub split_of : List ClassTree → ℕ → List Term → Option Formula
split_of cs n (App Pair ts ∷ []) = when (n == 0 && have_sorts cs (sort.Rest ∷ []) (App Pair ts ∷ [])) (neg (group (App Pair ts)))
split_of cs n (App Pair (term_then o (term_then t no_terms)) ∷ App Pair (term_then u (term_then v no_terms)) ∷ []) =
    when (n == 1 && have_sorts cs (sort.Rest ∷ sort.Rest ∷ []) (app Pair (o ∷ t ∷ []) ∷ app Pair (u ∷ v ∷ []) ∷ []))
    (pairs_agree (app Pair (o ∷ t ∷ [])) (app Pair (u ∷ v ∷ [])) o t u v)
split_of cs n ts = None

-- ---- whole numbers

-- they are equal, or one is below the other
abbrev pub three_ways : Term → Term → Formula
three_ways x y = Or (formulas_from (equal x y ∷ at_most (app Add (x ∷ number (pos 1) ∷ [])) y ∷ at_most (app Add (y ∷ number (pos 1) ∷ [])) x ∷ []))

abbrev pub apart_of : List ClassTree → List Term → Option Formula
apart_of cs (x ∷ y ∷ []) = when (have_sorts cs (sort.Whole ∷ sort.Whole ∷ []) (x ∷ y ∷ [])) (three_ways x y)
apart_of cs ts = None

-- the number is the divisor times the quotient, and the remainder, which has the sign of the number and is nearer to 0 than the divisor
abbrev pub division : Term → ℤ → Formula
division x d =
    let y = number d in
    let q = app Quotient (x ∷ y ∷ []) in
    let r = app Remainder (x ∷ y ∷ []) in
    let most = pos (unsigned_abs d - 1) in
    all_of (
    equal x (app Add (app Multiply (y ∷ q ∷ []) ∷ r ∷ []))
    ∷ given (at_most (number (pos 0)) x ∷ []) (at_most (number (pos 0)) r)
    ∷ given (at_most x (number (pos 0)) ∷ []) (at_most r (number (pos 0)))
    ∷ at_most r (number most)
    ∷ at_most (number (neg_ℤ most)) r
    ∷ [])

abbrev pub divided : Term → Option ℤ → Option Formula
divided x (Some d) = when (not (is_zero d)) (division x d)
divided x None = None

abbrev pub quorem_of : List ClassTree → List Term → Option Formula
quorem_of cs (x ∷ y ∷ []) = if have_sorts cs (sort.Whole ∷ []) (x ∷ []) then divided x (literal_of y) else None
quorem_of cs ts = None

-- ---- truth values

abbrev pub two_valued : Term → Formula
two_valued x = Or (formulas_from (equal x (app (Fixed true) []) ∷ equal x (app (Fixed false) []) ∷ []))

abbrev pub bool_of : List ClassTree → List Term → Option Formula
bool_of cs (x ∷ []) = when (have_sorts cs (sort.Truth ∷ []) (x ∷ [])) (two_valued x)
bool_of cs ts = None

-- the sentence of a rule, by its number
abbrev pub numbered : (ℕ → List Term → Option Formula) → List Term → Option Formula
numbered sentence [] = None
numbered sentence (n ∷ ts) = option_and_then (λ k. sentence k ts) (natural_of n)

-- what the rule says of these arguments, where they fit it
abbrev pub instance_of : List ClassTree → RuleName → List Term → Option Formula
instance_of cs rule.Read ts = read_instance cs ts
instance_of cs rule.Fresh ts = numbered (fresh_of cs) ts
instance_of cs rule.Class ts = numbered (class_of cs) ts
instance_of cs rule.Split ts = numbered (split_of cs) ts
instance_of cs rule.Apart ts = apart_of cs ts
instance_of cs rule.Quorem ts = quorem_of cs ts
instance_of cs rule.Bool ts = bool_of cs ts
