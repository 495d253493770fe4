-- Positions in the code of a body: what is known there, and the obligations listed on the way.
--
-- A position has a guard, a truth value that is true where the position is reached. Every formula stands under the guard of its
-- position. New constants are numbered over the whole list of a program, by sort.
use Rattle.std.specs.Prelude.{ℕ, ◌+◌, List, [], ◌∷◌, ◌++◌, map, Bool, true, false, Option, Some, None, slice_get, slice_set, if◌then◌else◌}
use Rattle.ss_core.specs.declared.names.Kind.{Kind}
use Rattle.ss_core.specs.declared.names.Place.{Place}
use Rattle.ss_core.specs.declared.names.Ty.{Ty}
use Rattle.ss_core.specs.declared.names.Ty.TheVariants as ty
use Rattle.ss_core.specs.Tree.{ExprTree, BodyTree, CoreTree}
use Rattle.ss_store_rules.specs.Locals.{local_types}
use Rattle.ss_store_rules.specs.NonNull.{Known, Site, site_of}
use Rattle.ss_logic.specs.declared.Sort.{Sort}
use Rattle.ss_logic.specs.declared.Sort.TheVariants as sort
use Rattle.ss_logic.specs.Terms.{Constant, Term, app}
use Rattle.ss_logic.specs.Formulas.{Good, Formula, neg, atom}
use Rattle.ss_logic.specs.Equal.{same_term}
use Rattle.ss_logic.specs.Shapes.{null_term, equal}
use Rattle.ss_logic.specs.Express.{and_of, or_of, truth_term, Meant, One, Either, Says, over, said, Context, element_sort, meant, holds_formula}
use Rattle.ss_vcgen_heaps.specs.Parts.{Part, parts}

-- what has to be shown for one check: its goal wherever the premises are true
pub record Obligation : Type 0 where
  pub premises : List Formula
  pub goal : Formula
  pub kind : Kind
  pub place : Place
  pub body : ℕ

-- where a position is reached: always, where the truth value with this number is true, or never
pub data Guard : Type 0 where
  Always : Guard
  When : ℕ → Guard
  Never : Guard

-- the numbers of the next new constants
pub record Counters : Type 0 where
  pub stores : ℕ
  pub wholes : ℕ
  pub truths : ℕ
  pub things : ℕ

-- What is known at a position: the term of each local that has a value, the store, the guard, the locals that aren't null, the next new
-- constants and the premises so far; and the obligations listed on the way.
pub record Position : Type 0 where
  pub locals : List (Option Term)
  pub store : Term
  pub guard : Guard
  pub known : Known
  pub next : Counters
  pub premises : List Formula
  pub listed : List Obligation

-- the body, with its number, and the store at its entry
pub record Walk : Type 0 where
  pub program : CoreTree
  pub body : BodyTree
  pub number : ℕ
  pub entry : Term

-- ---- formulas

abbrev pub is_true : Term → Formula
is_true t = equal t (truth_term true)

-- the term is true where the formula is, and false where it is not
abbrev pub has_truth_of : Term → Formula → Formula
has_truth_of t f = or_of (and_of (is_true t ∷ f ∷ []) ∷ and_of (equal t (truth_term false) ∷ neg f ∷ []) ∷ [])

abbrev pub good : Term → Formula
good s = atom Good (s ∷ [])

-- ---- guards

abbrev pub guard_term : ℕ → Term
guard_term n = app (Constant sort.Truth n) []

abbrev pub guard_formula : Guard → Formula
guard_formula Always = and_of []
guard_formula (When n) = is_true (guard_term n)
guard_formula Never = or_of []

-- the formula holds where the position is reached
abbrev pub under : Guard → Formula → Formula
under Always f = f
under (When n) f = or_of (neg (is_true (guard_term n)) ∷ f ∷ [])
under Never f = and_of []

-- where the truth value n is true, the position with the guard g is reached and the formula holds there
abbrev pub side : Guard → ℕ → Formula → Formula
side Always n f = or_of (neg (is_true (guard_term n)) ∷ f ∷ [])
side (When g) n f = or_of (neg (is_true (guard_term n)) ∷ and_of (is_true (guard_term g) ∷ f ∷ []) ∷ [])
side Never n f = or_of (neg (is_true (guard_term n)) ∷ or_of [] ∷ [])

-- ---- premises and checks

abbrev pub with_premise : Formula → Position → Position
with_premise f k = record k { premises = k.premises ++ f ∷ [] }

-- the formula is a premise from here on, where the position is reached
abbrev pub assume : Formula → Position → Position
assume f k = with_premise (under k.guard f) k

abbrev pub assume_all : List Formula → Position → Position
assume_all [] k = k
assume_all (f ∷ fs) k = assume_all fs (assume f k)

-- the check is listed; what it asks for is a premise from here on
abbrev pub check : Walk → Kind → Place → Formula → Position → Position
check w kind at f k = assume f (record k { listed = k.listed ++ record { premises = k.premises; goal = under k.guard f; kind = kind; place = at; body = w.number } ∷ [] })

abbrev pub check_all : Walk → Kind → Place → List Formula → Position → Position
check_all w kind at [] k = k
check_all w kind at (f ∷ fs) k = check_all w kind at fs (check w kind at f k)

abbrev pub check_unless : Bool → Walk → Kind → Place → Formula → Position → Position
check_unless known w kind at f k = if known then k else check w kind at f k

abbrev pub check_parts : Walk → List Part → Position → Position
check_parts w [] k = k
check_parts w (p ∷ ps) k = check_parts w ps (check w p.kind p.place p.formula k)

-- ---- new constants

abbrev pub number_of : Sort → Counters → ℕ
number_of sort.Store n = n.stores
number_of sort.Whole n = n.wholes
number_of sort.Truth n = n.truths
number_of sort.Rest n = n.things

abbrev pub raised : Sort → Counters → Counters
raised sort.Store n = record n { stores = n.stores + 1 }
raised sort.Whole n = record n { wholes = n.wholes + 1 }
raised sort.Truth n = record n { truths = n.truths + 1 }
raised sort.Rest n = record n { things = n.things + 1 }

abbrev pub new_term : Sort → Position → Term
new_term s k = app (Constant s (number_of s k.next)) []

abbrev pub with_new : Sort → Position → Position
with_new s k = record k { next = raised s k.next }

-- ---- locals and the store

abbrev pub set_local : ℕ → Term → Position → Position
set_local x t k = record k { locals = slice_set k.locals x (Some t) }

abbrev pub set_store : Term → Position → Position
set_store s k = record k { store = s }

-- the store is this one, which is good
abbrev pub with_store : Term → Position → Position
with_store s k = assume (good s) (set_store s k)

abbrev pub ended : Position → Position
ended k = record k { guard = Never }

-- a local without a value isn't read
abbrev pub meant_of : Option Term → Meant
meant_of None = One null_term
meant_of (Some t) = One t

abbrev pub term_or_null : Option (Option Term) → Term
term_or_null (Some (Some t)) = t
term_or_null (Some None) = null_term
term_or_null None = null_term

abbrev pub local_term : ℕ → Position → Term
local_term x k = term_or_null (slice_get k.locals x)

-- ---- expressions

abbrev pub site : Walk → Site
site w = site_of w.program w.body

-- where an expression stands at a position
abbrev pub context_at : Walk → Position → Context
context_at w k = record {
  classes = w.program.classes;
  now = k.store;
  entry = w.entry;
  inside_old = false;
  types = local_types w.body;
  locals = map meant_of k.locals;
  bound = 0;
}

abbrev pub meant_at : Walk → ExprTree → Position → Meant
meant_at w e k = meant e (context_at w k)

-- the parts of the expression are checked
abbrev pub evaluate : Walk → ExprTree → Position → Position
evaluate w e k = check_parts w (parts e (site w) k.known (context_at w k)) k

abbrev pub evaluate_all : Walk → List ExprTree → Position → Position
evaluate_all w [] k = k
evaluate_all w (e ∷ es) k = evaluate_all w es (evaluate w e k)

-- the condition has a value, and that is true
abbrev pub holds_at : Walk → Position → ExprTree → Formula
holds_at w k e = holds_formula e (context_at w k)

-- ---- terms for what is meant

-- the constant has the value, which is a truth value or not
abbrev pub has_value : Sort → Term → Meant → Formula
has_value sort.Truth t m = has_truth_of t (said m)
has_value s t m = over m (λ x. equal t x)

-- a new constant of the sort has the value
abbrev pub define : Sort → Meant → Position → Position
define s m k = assume (has_value s (new_term s k) m) (with_new s k)

abbrev pub is_one : Meant → Bool
is_one (One t) = true
is_one (Either xs) = false
is_one (Says f) = false

-- what is meant has a term of its own, or a new constant
abbrev pub with_term : Sort → Meant → Position → Position
with_term s m k = if is_one m then k else define s m k

abbrev pub term_for : Sort → Meant → Position → Term
term_for s (One t) k = t
term_for s (Either xs) k = new_term s k
term_for s (Says f) k = new_term s k

-- What is handed over gets a term, so that no formula comes under names that others bind.
abbrev pub settled : Meant → Sort → Position → Position
settled m s k = with_term s m k

abbrev pub meant_settled : Meant → Sort → Position → Meant
meant_settled m s k = One (term_for s m k)

-- ---- branches

-- where a test has come out true; the guards of both sides are new
abbrev pub first_side : Formula → Known → Position → Position
first_side f known k = record k {
  guard = When k.next.truths;
  known = known;
  next = record k.next { truths = k.next.truths + 2 };
  premises = k.premises ++ side k.guard k.next.truths f ∷ side k.guard (k.next.truths + 1) (neg f) ∷ [];
}

-- where it has come out false: k is where the test was, and the first side has been gone over
abbrev pub second_side : Guard → Known → Position → Position → Position
second_side g known k first = record first { locals = k.locals; store = k.store; guard = g; known = known }

-- where both sides have a term for a local, and differ, it gets a new constant, which is each side's term where that side is reached
abbrev pub join_term : Guard → Guard → Sort → Term → Term → Position → Position
join_term g h s x y k =
    if same_term x y then k
    else record (with_new s k) { premises = k.premises ++ under g (equal (new_term s k) x) ∷ under h (equal (new_term s k) y) ∷ [] }

abbrev pub joined_term : Sort → Term → Term → Position → Term
joined_term s x y k = if same_term x y then x else new_term s k

-- the locals of these types, one by one; a local without a value on one side has none after
abbrev pub join_locals : Guard → Guard → List Ty → List (Option Term) → List (Option Term) → Position → List (Option Term) × Position
join_locals g h (t ∷ ts) (Some x ∷ xs) (Some y ∷ ys) k =
    let s = element_sort (Some t) in
    let rest = join_locals g h ts xs ys (join_term g h s x y k) in
    (Some (joined_term s x y k) ∷ rest.0, rest.1)
join_locals g h (t ∷ ts) (a ∷ xs) (b ∷ ys) k = let rest = join_locals g h ts xs ys k in (None ∷ rest.0, rest.1)
join_locals g h ts xs ys k = ([], k)

-- a new guard, of a position that is reached from both
abbrev pub join_guard : Guard → Guard → Position → Position
join_guard g h k = record k {
  guard = When k.next.truths;
  next = record k.next { truths = k.next.truths + 1 };
  premises = k.premises ++ or_of (neg (is_true (guard_term k.next.truths)) ∷ guard_formula g ∷ guard_formula h ∷ []) ∷ [];
}

abbrev pub join_both : Walk → (Known → Known → Known) → Position → Position → Position
join_both w meet first second =
    let joined = join_locals first.guard second.guard (local_types w.body) first.locals second.locals (join_guard first.guard second.guard second) in
    record (join_term first.guard second.guard sort.Store first.store second.store joined.1) {
      locals = joined.0;
      store = joined_term sort.Store first.store second.store joined.1;
      known = meet first.known second.known;
    }

-- after both sides, of which the second was gone over last; a side whose end isn't reached doesn't count
abbrev pub join_from : Guard → Guard → Walk → (Known → Known → Known) → Position → Position → Position
join_from Never h w meet first second = second
join_from Always Never w meet first second = record second { locals = first.locals; store = first.store; guard = first.guard; known = first.known }
join_from Always Always w meet first second = join_both w meet first second
join_from Always (When n) w meet first second = join_both w meet first second
join_from (When m) Never w meet first second = record second { locals = first.locals; store = first.store; guard = first.guard; known = first.known }
join_from (When m) Always w meet first second = join_both w meet first second
join_from (When m) (When n) w meet first second = join_both w meet first second

abbrev pub join : Walk → (Known → Known → Known) → Position → Position → Position
join w meet first second = join_from first.guard second.guard w meet first second

-- the position, unless it can't be reached
abbrev pub if_reached : Guard → Position → Position → Position
if_reached Always here there = here
if_reached (When n) here there = here
if_reached Never here there = there
