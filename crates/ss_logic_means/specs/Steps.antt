-- Derivations: what each line does to the cases that are open.
use Rattle.std.specs.Prelude.{◌≡◌, ℕ, ℤ, pos, negsuc, zero, suc, ◌+◌, List, [], ◌∷◌, ◌++◌, map, Bool, true, false, ◌==◌, ◌&&◌, ◌||◌, not, Option, Some, None, option_and_then, slice_get, if◌then◌else◌}
use Rattle.std.specs.List.{list_all}
use Rattle.std.specs.Bool.{beq}
use Rattle.ss_core.specs.Tree.{ClassTree}
use Rattle.ss_logic.specs.declared.Sort.{Sort}
use Rattle.ss_logic.specs.Terms.{Number, Fixed, Null, ClassName, Constant, Term, App, no_terms, term_then, term_list, same_sort, have_sorts}
use Rattle.ss_logic.specs.Formulas.{Equal, AtMost, Good, Formula, Formulas, Literal, And, Or, Forall, Exists, no_formulas, formula_then, formulas_from, formula_list, is_bound_sort, is_well_formed, neg, put, term_avoids, avoids}
use Rattle.ss_logic.specs.Equal.{same_term, same_symbol, same_predicate, same_formula}
use Rattle.ss_logic.specs.declared.RuleName.{RuleName}
use Rattle.ss_logic.specs.declared.GoodRule.{GoodRule}
use Rattle.ss_logic.specs.Shapes.{when, equal}
use Rattle.ss_logic.specs.Rules.{instance_of}
use Rattle.ss_logic.specs.GoodRules.{good_instance_of}
use Rattle.ss_logic.specs.Invariants.{invariants_of}
use Rattle.ss_logic.specs.Sums.{sum_of}

-- `Nowhere` is a line that names a term or a formula that isn't there
pub data Line : Type 0 where
  Premise : ℕ → Line
  Denied : Line
  Part : ℕ → ℕ → Line
  Split : ℕ → ℕ → Line
  Cut : Formula → Line
  Inst : ℕ → List Term → Line
  Choose : Formula → List Term → Line
  Rule : RuleName → List Term → Line
  GoodLine : GoodRule → ℕ → List Term → Line
  InvariantsLine : ℕ → List Term → Line
  Chain : Term → Term → List ℕ → Line
  Cong : Term → Term → List ℕ → Line
  Swap : ℕ → Formula → List ℕ → Line
  -- a divisor, and known facts with their weights
  Sum : ℤ → List (ℕ × ℤ) → Line
  Clash : ℕ → ℕ → Line
  Case : Line
  Nowhere : Line

-- ---- parts and cases

abbrev pub part_at : Formulas → ℕ → Option Formula
part_at no_formulas j = None
part_at (formula_then f fs) zero = Some f
part_at (formula_then f fs) (suc j) = part_at fs j

-- part j of an `and`
abbrev pub part_of : ℕ → Formula → Option Formula
part_of j (And fs) = part_at fs j
part_of j f = None

abbrev pub count_of : Formulas → ℕ
count_of no_formulas = 0
count_of (formula_then f fs) = suc (count_of fs)

-- the parts of an `or` of k parts
abbrev pub cases_of : ℕ → Formula → Option (List Formula)
cases_of k (Or fs) = when (count_of fs == k) (formula_list fs)
cases_of k f = None

-- ---- kinds of formulas

-- an atom or its negation
abbrev pub is_literal : Formula → Bool
is_literal (Literal sign p ts) = true
is_literal f = false

abbrev pub is_quantified : Formula → Bool
is_quantified (Forall ss f) = true
is_quantified (Exists ss f) = true
is_quantified f = false

-- what may be cut: an atom, or a quantified formula
abbrev pub is_cut : Formula → Bool
is_cut (Literal sign p ts) = sign
is_cut f = is_quantified f

-- ---- equalities

-- the other side of an equality
abbrev pub other_side : Term → Formula → Option Term
other_side x (Literal true Equal (term_then a (term_then b no_terms))) = if same_term x a then Some b else when (same_term x b) a
other_side x f = None

-- the term to which these known equalities lead, one after the other, each in either direction
abbrev pub walk : List Formula → Term → List ℕ → Option Term
walk known x [] = Some x
walk known x (i ∷ is) = option_and_then (λ f. option_and_then (λ y. walk known y is) (other_side x f)) (slice_get known i)

-- the formula says that the two terms are equal, either way round
abbrev pub joins : Term → Term → Formula → Bool
joins a b (Literal true Equal (term_then x (term_then y no_terms))) = same_term a x && same_term b y || same_term a y && same_term b x
joins a b f = false

abbrev pub is_joined : Term → Term → Option Formula → Bool
is_joined a b (Some f) = joins a b f
is_joined a b None = false

-- Each argument of the one list is that of the other, or equal to it by the next of these known equalities; an argument that is the same
-- takes none, and none is left.
abbrev pub are_exchanged : List Formula → List Term → List Term → List ℕ → Bool
are_exchanged known [] [] [] = true
are_exchanged known [] [] (j ∷ js) = false
are_exchanged known [] (b ∷ ys) js = false
are_exchanged known (a ∷ xs) [] js = false
are_exchanged known (a ∷ xs) (b ∷ ys) [] = same_term a b && are_exchanged known xs ys []
are_exchanged known (a ∷ xs) (b ∷ ys) (j ∷ js) =
    if same_term a b then are_exchanged known xs ys (j ∷ js)
    else is_joined a b (slice_get known j) && are_exchanged known xs ys js

-- one function with arguments, at arguments that are equal one by one
abbrev pub is_congruent : List Formula → List ℕ → Term → Term → Bool
is_congruent known js (App f (term_then x xs)) (App g ys) = same_symbol f g && are_exchanged known (x ∷ term_list xs) (term_list ys) js
is_congruent known js x y = false

-- the second literal is the first at arguments that are equal one by one
abbrev pub is_swapped : List Formula → List ℕ → Formula → Formula → Bool
is_swapped known js (Literal s p ts) (Literal r q us) = beq s r && same_predicate p q && are_exchanged known (term_list ts) (term_list us) js
is_swapped known js f g = false

-- ---- quantified formulas

-- the body of a `forall` at these terms, where they have the sorts of its bound names
abbrev pub body_at : List ClassTree → List Term → Formula → Option Formula
body_at cs ts (Forall ss f) = when (have_sorts cs ss ts) (put ts f)
body_at cs ts f = None

-- constants of these sorts, which a quantifier binds
abbrev pub are_constants : List Sort → List Term → Bool
are_constants [] [] = true
are_constants (s ∷ ss) (App (Constant r k) no_terms ∷ ts) = same_sort r s && is_bound_sort r && are_constants ss ts
are_constants ss ts = false

-- constants of which each occurs in none of the formulas, nor again among them
abbrev pub are_new : List Formula → List Term → Bool
are_new fs [] = true
are_new fs (App (Constant s k) no_terms ∷ ts) = list_all (avoids s k) fs && list_all (term_avoids s k) ts && are_new fs ts
are_new fs (t ∷ ts) = false

-- there is nothing of the kind, or the constants are such
abbrev pub chosen : List Sort → Formula → List Term → Formula
chosen ss f ts = Or (formulas_from (Forall ss (neg f) ∷ put ts f ∷ []))

-- where `used` are all formulas so far, in none of which, nor in the formula itself, the constants occur
abbrev pub choice : List Formula → Formula → List Term → Option Formula
choice used (Exists ss f) ts = when (are_constants ss ts && are_new (f ∷ used) ts) (chosen ss f ts)
choice used f ts = None

-- ---- lines

-- the store of a known `good`
abbrev pub good_store : Formula → Option Term
good_store (Literal true Good (term_then s no_terms)) = Some s
good_store f = None

-- the formula that a line makes known
abbrev pub fact_of : List ClassTree → List Formula → Formula → List Formula → Line → Option Formula
fact_of cs premises goal known (Premise i) = slice_get premises i
fact_of cs premises goal known Denied = Some (neg goal)
fact_of cs premises goal known (Part i j) = option_and_then (part_of j) (slice_get known i)
fact_of cs premises goal known (Inst i ts) = option_and_then (body_at cs ts) (slice_get known i)
fact_of cs premises goal known (Choose f ts) = choice (goal ∷ premises ++ known) f ts
fact_of cs premises goal known (Rule name ts) = instance_of cs name ts
fact_of cs premises goal known (GoodLine name i ts) = option_and_then (λ s. good_instance_of cs name s ts) (option_and_then good_store (slice_get known i))
fact_of cs premises goal known (InvariantsLine i ts) = option_and_then (λ s. invariants_of cs s ts) (option_and_then good_store (slice_get known i))
fact_of cs premises goal known (Chain x y is) = option_and_then (λ z. when (same_term z y) (equal x y)) (walk known x is)
fact_of cs premises goal known (Cong x y is) = when (is_congruent known is x y) (equal x y)
fact_of cs premises goal known (Swap i f js) = option_and_then (λ g. when (is_swapped known js g f) f) (slice_get known i)
fact_of cs premises goal known (Sum d ps) = sum_of cs known d ps
fact_of cs premises goal known line = None

-- a number, a truth value, null or a class name
abbrev pub is_value : Term → Bool
is_value (App (Number n) no_terms) = true
is_value (App (Fixed b) no_terms) = true
is_value (App Null no_terms) = true
is_value (App (ClassName t) no_terms) = true
is_value t = false

-- 0, and a number below it
abbrev pub is_false_bound : Term → Term → Bool
is_false_bound (App (Number (pos zero)) no_terms) (App (Number (negsuc b)) no_terms) = true
is_false_bound x y = false

-- a term that differs from itself, two different values that are equal, or 0 that is at most a number below it
abbrev pub is_absurd : Formula → Bool
is_absurd (Literal false Equal (term_then x (term_then y no_terms))) = same_term x y
is_absurd (Literal true Equal (term_then x (term_then y no_terms))) = is_value x && is_value y && not (same_term x y)
is_absurd (Literal true AtMost (term_then x (term_then y no_terms))) = is_false_bound x y
is_absurd f = false

-- a literal or quantified formula, and its negation
abbrev pub is_opposed : Formula → Formula → Bool
is_opposed f g = (is_literal f || is_quantified f) && same_formula (neg f) g

abbrev pub is_clash : ℕ → ℕ → Option Formula → Option Formula → Bool
is_clash i j (Some f) (Some g) = is_opposed f g || i == j && is_absurd f
is_clash i j f g = false

-- ---- cases

-- The case that a line works in, by what is known there, before those that wait; or only those that wait.
pub data State : Type 0 where
  Open : List Formula → List (List Formula) → State
  Between : List (List Formula) → State

-- each of the formulas opens a case, in which it is known
abbrev pub open_cases : List Formula → List (List Formula) → List Formula → State
open_cases known waiting fs = Between (map (λ f. known ++ f ∷ []) fs ++ waiting)

-- what is made known is well formed
abbrev pub add_fact : List ClassTree → List Formula → List (List Formula) → Option Formula → Option State
add_fact cs known waiting o = option_and_then (λ f. when (is_well_formed cs [] f) (Open (known ++ f ∷ []) waiting)) o

abbrev pub split_case : List Formula → List (List Formula) → ℕ → Option Formula → Option State
split_case known waiting k o = option_and_then (λ fs. Some (open_cases known waiting fs)) (option_and_then (cases_of k) o)

abbrev pub cut_case : List ClassTree → List Formula → List (List Formula) → Formula → Option State
cut_case cs known waiting f = when (is_cut f && is_well_formed cs [] f) (open_cases known waiting (f ∷ neg f ∷ []))

abbrev pub close_case : List Formula → List (List Formula) → ℕ → ℕ → Option State
close_case known waiting i j = when (is_clash i j (slice_get known i) (slice_get known j)) (Between waiting)

abbrev pub either_way : {A B : Type 0} → B → (A → B) → Option A → B
either_way none some None = none
either_way none some (Some x) = some x

-- the number of the end, where a case is left
abbrev pub at_end : State → ℕ → Option ℕ
at_end (Between []) n = None
at_end state n = Some n

-- a line in an open case
abbrev pub step_open : List ClassTree → List Formula → Formula → List Formula → List (List Formula) → Line → Option State
step_open cs premises goal known waiting (Split i k) = split_case known waiting k (slice_get known i)
step_open cs premises goal known waiting (Cut f) = cut_case cs known waiting f
step_open cs premises goal known waiting (Clash i j) = close_case known waiting i j
step_open cs premises goal known waiting line = add_fact cs known waiting (fact_of cs premises goal known line)

-- the line `case` goes on with the next case that waits
abbrev pub step_between : List ClassTree → List Formula → Formula → List (List Formula) → Line → Option State
step_between cs premises goal (known ∷ waiting) Case = Some (Open known waiting)
step_between cs premises goal waiting line = None

abbrev pub step : List ClassTree → List Formula → Formula → State → Line → Option State
step cs premises goal (Open known waiting) line = step_open cs premises goal known waiting line
step cs premises goal (Between waiting) line = step_between cs premises goal waiting line

abbrev pub run : List ClassTree → List Formula → Formula → State → List Line → Option State
run cs premises goal state [] = Some state
run cs premises goal state (line ∷ lines) = option_and_then (λ next. run cs premises goal next lines) (step cs premises goal state line)

-- Each line is a step, and every case ends: the lines refute the premises with the denied goal.
abbrev pub Derives : List ClassTree → List Formula → Formula → List Line → Type 0
Derives cs premises goal lines = run cs premises goal (Open [] []) lines ≡ Some (Between [])

-- the first line that is no step, where the lines are counted from n
abbrev pub bad_from : List ClassTree → List Formula → Formula → State → List Line → ℕ → Option ℕ
bad_from cs premises goal state [] n = at_end state n
bad_from cs premises goal state (line ∷ lines) n = either_way (Some n) (λ next. bad_from cs premises goal next lines (n + 1)) (step cs premises goal state line)

-- The first line that is no step, counted from 1; where each is one and a case is left, one more than the number of lines.
abbrev pub first_bad : List ClassTree → List Formula → Formula → List Line → Option ℕ
first_bad cs premises goal lines = bad_from cs premises goal (Open [] []) lines 1
