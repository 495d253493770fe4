-- The instances of rules that are asked for at the terms and atoms of a list.
use Rattle.std.specs.Prelude.{ℕ, pos, ◌+◌, List, [], ◌∷◌, ◌++◌, map, filter, filter_map, flat_map, Bool, true, false, not, ◌==◌, ◌&&◌, Option, Some, None, option_map, if◌then◌else◌}
use Rattle.ss_core.specs.Tree.{ClassTree}
use Rattle.ss_logic.specs.declared.Sort.{Sort}
use Rattle.ss_logic.specs.declared.Sort.TheVariants as sort
use Rattle.ss_logic.specs.Terms.{Fixed, ClassName, Quotient, Remainder, Field, Element, Length, Level, Owner, Pair, Next, Term, App, Terms, no_terms, term_then, same_sort, sort_of}
use Rattle.ss_logic.specs.Formulas.{Equal, Sub, Allocated, Committed, Ready, Good, Formula, Literal, Or, formulas_from, no_atom}
use Rattle.ss_logic.specs.Equal.{same_term}
use Rattle.ss_logic.specs.declared.RuleName.{RuleName}
use Rattle.ss_logic.specs.declared.RuleName.TheVariants as rule
use Rattle.ss_logic.specs.declared.GoodRule.{GoodRule}
use Rattle.ss_logic.specs.declared.GoodRule.TheVariants as good_rule
use Rattle.ss_logic.specs.Shapes.{number, class_term}
use Rattle.ss_logic.specs.Reads.{is_constant_store}
use Rattle.ss_logic.specs.Rules.{store_before, instance_of}
use Rattle.ss_logic.specs.GoodRules.{good_instance_of}
use Rattle.ss_logic.specs.Invariants.{invariants_of}

-- an instance of a rule at these arguments; one of a rule on good stores, or of the rule on invariants, at this store
pub data Asked : Type 0 where
  Rule : RuleName → List Term → Asked
  OfGood : GoodRule → Term → List Term → Asked
  OfInvariants : Term → List Term → Asked

-- the formula, where the store is good
abbrev pub if_good : Term → Formula → Formula
if_good s f = Or (formulas_from (no_atom Good (s ∷ []) ∷ f ∷ []))

-- what it says, where the arguments fit the rule
abbrev pub said : List ClassTree → Asked → Option Formula
said cs (Rule name ts) = instance_of cs name ts
said cs (OfGood name s ts) = option_map (if_good s) (good_instance_of cs name s ts)
said cs (OfInvariants s ts) = option_map (if_good s) (invariants_of cs s ts)

abbrev pub all_said : List ClassTree → List Asked → List Formula
all_said cs asked = filter_map (said cs) asked

abbrev pub numeral : ℕ → Term
numeral n = number (pos n)

-- ---- reads

-- the number of a read, its store and its other arguments
pub record Reading : Type 0 where
  pub kind : ℕ
  pub store : Term
  pub others : List Term

abbrev pub reading : ℕ → Term → List Term → Option Reading
reading n s ts = Some (record { kind = n; store = s; others = ts })

abbrev pub element_kind : Sort → ℕ
element_kind sort.Whole = 9
element_kind sort.Truth = 10
element_kind s = 1

-- the read of this kind of an object in a store
abbrev pub object_reading : ℕ → Terms → Option Reading
object_reading n (term_then s (term_then o no_terms)) = reading n s (o ∷ [])
object_reading n ts = None

abbrev pub field_reading : ℕ → Terms → Option Reading
field_reading f (term_then s (term_then o no_terms)) = reading 0 s (o ∷ numeral f ∷ [])
field_reading f ts = None

abbrev pub element_reading : Sort → Terms → Option Reading
element_reading r (term_then s (term_then a (term_then i no_terms))) = reading (element_kind r) s (a ∷ i ∷ [])
element_reading r ts = None

abbrev pub next_reading : Terms → Option Reading
next_reading (term_then s no_terms) = reading 4 s []
next_reading ts = None

abbrev pub reading_of_term : Term → Option Reading
reading_of_term (App (Field f) ts) = field_reading f ts
reading_of_term (App (Element r) ts) = element_reading r ts
reading_of_term (App Level ts) = object_reading 2 ts
reading_of_term (App Owner ts) = object_reading 3 ts
reading_of_term (App Next ts) = next_reading ts
reading_of_term t = None

abbrev pub reading_of_atom : Formula → Option Reading
reading_of_atom (Literal sign Allocated ts) = object_reading 5 ts
reading_of_atom (Literal sign Committed ts) = object_reading 6 ts
reading_of_atom (Literal sign Ready ts) = object_reading 7 ts
reading_of_atom f = None

-- those of the terms, then those of the atoms
abbrev pub readings : List Formula → List Term → List Reading
readings atoms terms = filter_map reading_of_term terms ++ filter_map reading_of_atom atoms

-- what an equation says that a constant equals
abbrev pub second_where_first : Term → Terms → Option Term
second_where_first s (term_then x (term_then y no_terms)) = if same_term s x then Some y else None
second_where_first s ts = None

abbrev pub equals : Term → Formula → Option Term
equals s (Literal sign Equal ts) = second_where_first s ts
equals s f = None

abbrev pub read_arguments : Reading → List Term
read_arguments r = numeral r.kind ∷ r.store ∷ r.others

abbrev pub asked_of_equal : Reading → Option Term → List Asked
asked_of_equal r None = []
asked_of_equal r (Some t) = Rule rule.Read (read_arguments r ++ t ∷ []) ∷ []

abbrev pub asked_at_equal : Reading → Formula → List Asked
asked_at_equal r f = asked_of_equal r (equals r.store f)

abbrev pub asked_over : Reading → List Asked
asked_over r = Rule rule.Read (read_arguments r) ∷ []

-- over a constant at each store that the list says it equals
abbrev pub asked_at_read : List Formula → Reading → List Asked
asked_at_read atoms r = if is_constant_store r.store then flat_map (asked_at_equal r) atoms else asked_over r

-- ---- new references

abbrev pub asked_of_next : Terms → List Asked
asked_of_next (term_then s no_terms) = Rule rule.Fresh (numeral 0 ∷ s ∷ []) ∷ []
asked_of_next ts = []

abbrev pub asked_at_next : Term → List Asked
asked_at_next (App Next ts) = asked_of_next ts
asked_at_next t = []

-- the object whose owner is read in the store
abbrev pub owned_in : Term → Term → Option Term
owned_in s (App Owner ts) = second_where_first s ts
owned_in s t = None

abbrev pub asked_of_owned : Term → Option Term → List Asked
asked_of_owned after None = []
asked_of_owned after (Some o) = Rule rule.Fresh (numeral 2 ∷ after ∷ o ∷ []) ∷ []

abbrev pub asked_at_owner : Term → Term → Term → List Asked
asked_at_owner after s t = asked_of_owned after (owned_in s t)

abbrev pub asked_after : List Term → Term → Option Term → List Asked
asked_after terms after None = []
asked_after terms after (Some s) = Rule rule.Fresh (numeral 1 ∷ after ∷ []) ∷ flat_map (asked_at_owner after s) terms

abbrev pub asked_at_new : List Term → Term → List Asked
asked_at_new terms t = asked_after terms t (store_before t)

-- ---- classes

abbrev pub is_class_name : Term → Bool
is_class_name (App (ClassName t) ts) = true
is_class_name t = false

abbrev pub asked_of_classes : Term → Term → List Asked
asked_of_classes c t = if is_class_name t && not (same_term c t) then Rule rule.Class (numeral 0 ∷ c ∷ t ∷ []) ∷ [] else []

-- at a class name for each other one
abbrev pub asked_of_class : List Term → Term → List Asked
asked_of_class terms c = if is_class_name c then flat_map (asked_of_classes c) terms else []

-- what an atom says of a term that is no class name: that it counts as a class
pub record Counts : Type 0 where
  pub term : Term
  pub class : Term

abbrev pub counts_of : Terms → Option Counts
counts_of (term_then x (term_then t no_terms)) = if is_class_name x then None else Some (record { term = x; class = t })
counts_of ts = None

abbrev pub counts : Formula → Option Counts
counts (Literal sign Sub ts) = counts_of ts
counts f = None

abbrev pub asked_of_count : Option Counts → List Asked
asked_of_count None = []
asked_of_count (Some c) = Rule rule.Class (numeral 1 ∷ c.term ∷ c.class ∷ []) ∷ []

abbrev pub asked_at_count : Formula → List Asked
asked_at_count f = asked_of_count (counts f)

abbrev pub asked_of_both : Counts → Counts → List Asked
asked_of_both a b = if same_term a.term b.term then Rule rule.Class (numeral 2 ∷ a.term ∷ a.class ∷ b.class ∷ []) ∷ [] else []

-- of each pair of two places, the first before the second
abbrev pub asked_of_counts : List Counts → List Asked
asked_of_counts [] = []
asked_of_counts (a ∷ cs) = flat_map (asked_of_both a) cs ++ asked_of_counts cs

abbrev pub asked_of_term : Term → List Asked
asked_of_term t = Rule rule.Class (numeral 3 ∷ t ∷ []) ∷ []

-- ---- owners and truth values

abbrev pub is_pair : Term → Bool
is_pair (App Pair ts) = true
is_pair t = false

abbrev pub asked_of_pair : Term → List Asked
asked_of_pair p = if is_pair p then Rule rule.Split (numeral 0 ∷ p ∷ []) ∷ [] else []

abbrev pub asked_of_two_pairs : Term → Term → List Asked
asked_of_two_pairs p q = Rule rule.Split (numeral 1 ∷ p ∷ q ∷ []) ∷ []

abbrev pub asked_of_pairs : List Term → List Asked
asked_of_pairs [] = []
asked_of_pairs (p ∷ ps) = flat_map (asked_of_two_pairs p) ps ++ asked_of_pairs ps

abbrev pub is_unknown_truth : List ClassTree → Term → Bool
is_unknown_truth cs (App (Fixed b) ts) = false
is_unknown_truth cs t = same_sort (sort_of cs [] t) sort.Truth

abbrev pub asked_of_truth : List ClassTree → Term → List Asked
asked_of_truth cs t = if is_unknown_truth cs t then Rule rule.Bool (t ∷ []) ∷ [] else []

-- ---- closing a list: what is asked for at its terms

abbrev pub asked_about_stores : List Formula → List Term → List Asked
asked_about_stores atoms terms = flat_map (asked_at_read atoms) (readings atoms terms) ++ flat_map asked_at_next terms ++ flat_map (asked_at_new terms) terms

abbrev pub asked_about_classes : List Formula → List Term → List Asked
asked_about_classes atoms terms = flat_map (asked_of_class terms) terms ++ flat_map asked_at_count atoms ++ asked_of_counts (filter_map counts atoms) ++ flat_map asked_of_term terms

abbrev pub asked_about_values : List ClassTree → List Term → List Asked
asked_about_values cs terms = flat_map asked_of_pair terms ++ asked_of_pairs (filter is_pair terms) ++ flat_map (asked_of_truth cs) terms

abbrev pub asked_to_close : List ClassTree → List Formula → List Term → List Asked
asked_to_close cs atoms terms = asked_about_stores atoms terms ++ asked_about_classes atoms terms ++ asked_about_values cs terms

-- ---- the first step of a round: the rules on good stores and on numbers

abbrev pub only_one : Terms → Option Term
only_one (term_then s no_terms) = Some s
only_one ts = None

abbrev pub good_of : Formula → Option Term
good_of (Literal sign Good ts) = only_one ts
good_of f = None

-- the declared classes, by number, and those of them that have an invariant
abbrev pub classes_from : ℕ → List ClassTree → List Term
classes_from t [] = []
classes_from t (c ∷ cs) = class_term t ∷ classes_from (t + 2) cs

abbrev pub is_empty : {X : Type 0} → List X → Bool
is_empty [] = true
is_empty (x ∷ xs) = false

abbrev pub with_invariants_from : ℕ → List ClassTree → List Term
with_invariants_from t [] = []
with_invariants_from t (c ∷ cs) = if is_empty c.invariants then with_invariants_from (t + 2) cs else class_term t ∷ with_invariants_from (t + 2) cs

-- the rule on invariants, at each level that is read in the store
abbrev pub asked_of_invariants : List Term → Term → Reading → List Asked
asked_of_invariants classes s r = if r.kind == 2 && same_term s r.store then map (λ t. OfInvariants s (r.others ++ t ∷ [])) classes else []

abbrev pub two_parts : Terms → Option (List Term)
two_parts (term_then o (term_then t no_terms)) = Some (o ∷ t ∷ [])
two_parts ts = None

abbrev pub pair_parts : Term → Option (List Term)
pair_parts (App Pair ts) = two_parts ts
pair_parts t = None

-- the arguments of each rule for one read in the store: the owners are those of the pairs that occur
abbrev pub good_arguments : List Term → List (List Term) → GoodRule → ℕ → List Term → List (List Term)
good_arguments classes pairs good_rule.Full n ts = if n == 6 then ts ∷ [] else []
good_arguments classes pairs good_rule.Owned n ts = if n == 3 then map (λ p. numeral 0 ∷ ts ++ p) pairs ++ (numeral 1 ∷ ts) ∷ [] else []
good_arguments classes pairs good_rule.Marks n ts = if n == 0 then ts ∷ [] else []
good_arguments classes pairs good_rule.Typed n ts =
    if n == 2 then (numeral n ∷ ts) ∷ map (λ t. numeral n ∷ ts ++ t ∷ []) classes
    else if n == 3 then map (λ p. numeral n ∷ ts ++ p) pairs
    else (numeral n ∷ ts) ∷ []
good_arguments classes pairs good_rule.Ready n ts = (numeral n ∷ ts) ∷ []

abbrev pub asked_of_good : List Term → List (List Term) → GoodRule → Term → Reading → List Asked
asked_of_good classes pairs name s r = if same_term s r.store then map (OfGood name s) (good_arguments classes pairs name r.kind r.others) else []

abbrev pub length_of : Term → Option Term
length_of (App Length ts) = only_one ts
length_of t = None

-- a length is read in no store
abbrev pub asked_of_lengths : GoodRule → Term → List Term → List Asked
asked_of_lengths good_rule.Typed s terms = map (λ a. OfGood good_rule.Typed s (numeral 8 ∷ a ∷ [])) (filter_map length_of terms)
asked_of_lengths name s terms = []

abbrev pub asked_in_good : List ClassTree → List Formula → List Term → GoodRule → Term → List Asked
asked_in_good cs atoms terms name s = flat_map (asked_of_good (classes_from 4 cs) (filter_map pair_parts terms) name s) (readings atoms terms) ++ asked_of_lengths name s terms

abbrev pub asked_of_rule : List ClassTree → List Formula → List Term → GoodRule → List Asked
asked_of_rule cs atoms terms name = flat_map (asked_in_good cs atoms terms name) (filter_map good_of atoms)

abbrev pub good_rules : List GoodRule
good_rules = good_rule.Full ∷ good_rule.Owned ∷ good_rule.Marks ∷ good_rule.Typed ∷ good_rule.Ready ∷ []

abbrev pub asked_of_two : RuleName → Terms → List Asked
asked_of_two name (term_then x (term_then y no_terms)) = Rule name (x ∷ y ∷ []) ∷ []
asked_of_two name ts = []

abbrev pub asked_at_equation : Formula → List Asked
asked_at_equation (Literal sign Equal ts) = asked_of_two rule.Apart ts
asked_at_equation f = []

abbrev pub asked_at_division : Term → List Asked
asked_at_division (App Quotient ts) = asked_of_two rule.Quorem ts
asked_at_division (App Remainder ts) = asked_of_two rule.Quorem ts
asked_at_division t = []

abbrev pub asked_first : List ClassTree → List Formula → List Term → List Asked
asked_first cs atoms terms =
    flat_map (λ s. flat_map (asked_of_invariants (with_invariants_from 4 cs) s) (readings atoms terms)) (filter_map good_of atoms)
    ++ flat_map (asked_of_rule cs atoms terms) good_rules
    ++ flat_map asked_at_equation atoms
    ++ flat_map asked_at_division terms
