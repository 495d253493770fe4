-- The shapes of instances: sentences with premises, and all of several sentences.
use Rattle.std.specs.Prelude.{ℕ, ℤ, pos, List, [], ◌∷◌, ◌++◌, map, Bool, true, false, Option, Some, None, if◌then◌else◌}
use Rattle.ss_logic.specs.Terms.{Number, Null, ClassName, TypeOf, Level, Owner, Pair, Next, Term, App, no_terms, app}
use Rattle.ss_logic.specs.Formulas.{Equal, AtMost, Sub, Allocated, Committed, Ready, IsGroup, Formula, And, Or, formulas_from, atom, no_atom, neg}
use Rattle.ss_logic.specs.Equal.{same_term}

-- the value where the test holds
abbrev pub when : {A : Type 0} → Bool → A → Option A
when true a = Some a
when false a = None

-- ---- terms

abbrev pub number : ℤ → Term
number n = app (Number n) []

abbrev pub null_term : Term
null_term = app Null []

abbrev pub class_term : ℕ → Term
class_term t = app (ClassName t) []

abbrev pub level_of : Term → Term → Term
level_of s o = app Level (s ∷ o ∷ [])

abbrev pub owner_of : Term → Term → Term
owner_of s o = app Owner (s ∷ o ∷ [])

abbrev pub type_of : Term → Term
type_of o = app TypeOf (o ∷ [])

abbrev pub pair_of : Term → Term → Term
pair_of o t = app Pair (o ∷ t ∷ [])

abbrev pub next_of : Term → Term
next_of s = app Next (s ∷ [])

-- ---- atoms

abbrev pub equal : Term → Term → Formula
equal x y = atom Equal (x ∷ y ∷ [])

abbrev pub differ : Term → Term → Formula
differ x y = no_atom Equal (x ∷ y ∷ [])

abbrev pub at_most : Term → Term → Formula
at_most x y = atom AtMost (x ∷ y ∷ [])

abbrev pub sub_atom : Term → Term → Formula
sub_atom x t = atom Sub (x ∷ t ∷ [])

abbrev pub allocated : Term → Term → Formula
allocated s o = atom Allocated (s ∷ o ∷ [])

abbrev pub committed : Term → Term → Formula
committed s o = atom Committed (s ∷ o ∷ [])

abbrev pub ready : Term → Term → Formula
ready s o = atom Ready (s ∷ o ∷ [])

abbrev pub group : Term → Formula
group w = atom IsGroup (w ∷ [])

-- ---- sentences

-- the formula, where the premises hold: it alone, or an `or` of their negations and the formula
abbrev pub given : List Formula → Formula → Formula
given [] f = f
given (p ∷ ps) f = Or (formulas_from (map neg (p ∷ ps) ++ f ∷ []))

-- one sentence alone, or an `and` of them
abbrev pub all_of : List Formula → Formula
all_of (f ∷ []) = f
all_of fs = And (formulas_from fs)

-- the premise that two terms are equal, which is left out where they are one term
abbrev pub where_equal : Term → Term → List Formula
where_equal x y = if same_term x y then [] else equal x y ∷ []

-- the sentences with the premise that two terms differ, of which none is left where they are one term
abbrev pub where_different : Term → Term → (List Formula → List Formula) → List Formula
where_different x y sentences = if same_term x y then [] else sentences (differ x y ∷ [])

-- ---- arguments

-- the number of a literal
abbrev pub literal_of : Term → Option ℤ
literal_of (App (Number n) no_terms) = Some n
literal_of t = None

abbrev pub natural : Option ℤ → Option ℕ
natural (Some (pos n)) = Some n
natural o = None

-- a literal that isn't negative
abbrev pub natural_of : Term → Option ℕ
natural_of t = natural (literal_of t)

-- the number of a class name
abbrev pub class_of_term : Term → Option ℕ
class_of_term (App (ClassName t) no_terms) = Some t
class_of_term t = None
