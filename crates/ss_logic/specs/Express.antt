-- Expressions as terms and formulas: what an expression means, and when it is defined.
use Rattle.std.specs.Prelude.{ℕ, pos, negsuc, ◌+◌, ◌-◌, ◌^◌, List, [], ◌∷◌, ◌++◌, map, flat_map, Bool, true, false, Option, Some, None, slice_get, if◌then◌else◌}
use Rattle.ss_core.specs.declared.names.Ty.{Ty}
use Rattle.ss_core.specs.declared.names.Ty.TheVariants as ty
use Rattle.ss_core.specs.declared.expr.Operator.{Operator}
use Rattle.ss_core.specs.declared.expr.Operator.TheVariants as op
use Rattle.ss_core.specs.declared.expr.Quantifier.{Quantifier}
use Rattle.ss_core.specs.declared.expr.Quantifier.TheVariants as quantifier
use Rattle.ss_core.specs.Tree.{ClassTree, WordTree, Consistent, Committed, New, Level, Packed, Unowned, OwnersTree, SameOwner, OwnedAt, DefaultTree, AtLevel, Unpacked, ThisUnowned, Defaults, OwnedFull, Full, ConsistentArgument, FullArgument, Captured, ExprTree, IntExpr, BoolExpr, NullExpr, LocalExpr, FieldExpr, ElementExpr, LengthExpr, NegateExpr, NotExpr, BinaryExpr, ImpliesExpr, IffExpr, IsExpr, AsExpr, CastExpr, OldExpr, QuantifiedExpr, StateExpr, OwnersExpr, DefaultExpr}
use Rattle.ss_core.specs.Chain.{sub, levels, DeclaredField, all_fields}
use Rattle.ss_store_rules.specs.Types.{is_bool, element_of, type_of}
use Rattle.ss_store_rules.specs.Values.{subject}
use Rattle.ss_logic.specs.declared.Sort.{Sort}
use Rattle.ss_logic.specs.declared.Sort.TheVariants as sort
use Rattle.ss_logic.specs.Terms.{Term, Bound, app, sort_of_type}
use Rattle.ss_logic.specs.Terms as term
use Rattle.ss_logic.specs.Formulas.{Formula, And, Or, Forall, Exists, formulas_from, formula_list, neg}
use Rattle.ss_logic.specs.Shapes.{number, null_term, class_term, level_of, owner_of, pair_of, equal, differ, at_most, sub_atom, allocated, committed, group}
use Rattle.ss_logic.specs.Shapes as shape

-- ---- shapes

abbrev pub and_of : List Formula → Formula
and_of fs = And (formulas_from fs)

abbrev pub or_of : List Formula → Formula
or_of fs = Or (formulas_from fs)

-- each implies the other
abbrev pub iff : Formula → Formula → Formula
iff f g = and_of (or_of (neg f ∷ g ∷ []) ∷ or_of (f ∷ neg g ∷ []) ∷ [])

-- both of them, or either; a chain is one `and` or one `or`
abbrev pub and_more : Formula → Formula → Formula
and_more (And fs) g = And (formulas_from (formula_list fs ++ g ∷ []))
and_more f g = and_of (f ∷ g ∷ [])

abbrev pub or_more : Formula → Formula → Formula
or_more (Or fs) g = Or (formulas_from (formula_list fs ++ g ∷ []))
or_more f g = or_of (f ∷ g ∷ [])

abbrev pub truth_term : Bool → Term
truth_term b = app (term.Fixed b) []

-- ---- what an expression means

-- a term, under a condition
pub record Choice : Type 0 where
  pub condition : Formula
  pub value : Term

-- One term; one of several, by conditions of which exactly one is true; or what a formula says.
pub data Meant : Type 0 where
  One : Term → Meant
  Either : List Choice → Meant
  Says : Formula → Meant

abbrev pub choice : Formula → Term → Choice
choice f t = record { condition = f; value = t }

abbrev pub choices : Meant → List Choice
choices (One t) = choice (and_of []) t ∷ []
choices (Either cs) = cs
choices (Says f) = choice f (truth_term true) ∷ choice (neg f) (truth_term false) ∷ []

-- this is so of the term
abbrev pub over : Meant → (Term → Formula) → Formula
over (One t) f = f t
over m f = or_of (map (λ c. and_of (c.condition ∷ f c.value ∷ [])) (choices m))

abbrev pub over_two : Meant → Meant → (Term → Term → Formula) → Formula
over_two a b f = over a (λ x. over b (λ y. f x y))

-- the function of the term
abbrev pub mapped : (Term → Term) → Meant → Meant
mapped g (One t) = One (g t)
mapped g m = Either (map (λ c. choice c.condition (g c.value)) (choices m))

abbrev pub both : (Term → Term → Term) → Choice → Choice → Choice
both g a b = choice (and_of (a.condition ∷ b.condition ∷ [])) (g a.value b.value)

abbrev pub paired : (Term → Term → Term) → Meant → Meant → Meant
paired g (One a) (One b) = One (g a b)
paired g a b = Either (flat_map (λ x. map (both g x) (choices b)) (choices a))

-- that a truth value is true
abbrev pub said : Meant → Formula
said (Says f) = f
said m = over m (λ t. equal t (truth_term true))

-- ---- where it stands

-- The context of an expression: the classes, the store now and at the entry of the body, whether it stands inside `old`, the types and meanings of the locals, past which
-- stand those of the bound names, and how many of these there are.
pub record Context : Type 0 where
  pub classes : List ClassTree
  pub now : Term
  pub entry : Term
  pub inside_old : Bool
  pub types : List Ty
  pub locals : List Meant
  pub bound : ℕ

abbrev pub state : Context → Term
state c = if c.inside_old then c.entry else c.now

abbrev pub at_entry : Context → Context
at_entry c = record c { inside_old = true }

abbrev pub with_bound : Context → Context
with_bound c = record c { types = c.types ++ ty.Int ∷ []; locals = c.locals ++ One (Bound c.bound) ∷ []; bound = c.bound + 1 }

abbrev pub meant_or_null : Option Meant → Meant
meant_or_null (Some m) = m
meant_or_null None = One null_term

abbrev pub local_meant : Context → ℕ → Meant
local_meant c x = meant_or_null (slice_get c.locals x)

abbrev pub element_sort : Option Ty → Sort
element_sort (Some t) = sort_of_type t
element_sort None = sort.Rest

-- ---- classes and ranges

-- it is an object of the class t or below
abbrev pub is_of : ℕ → Term → Formula
is_of t x = and_of (differ x null_term ∷ sub_atom (shape.type_of x) (class_term t) ∷ [])

abbrev pub is_full : Term → Term → Formula
is_full s x = equal (level_of s x) (shape.type_of x)

-- a whole number of 32 bits
abbrev pub fits_int : Term → Formula
fits_int x = and_of (at_most (number (negsuc (2 ^ 31 - 1))) x ∷ at_most x (number (pos (2 ^ 31 - 1))) ∷ [])

abbrev pub less : Term → Term → Formula
less x y = neg (at_most y x)

-- ---- words

abbrev pub word_said : Context → WordTree → Term → Formula
word_said c Consistent x = and_of (is_full (state c) x ∷ neg (committed (state c) x) ∷ [])
word_said c Committed x = committed (state c) x
word_said c New x = neg (allocated c.entry x)
word_said c (Level t) x = equal (level_of (state c) x) (class_term t)
word_said c (Packed t) x = sub_atom (level_of (state c) x) (class_term t)
word_said c Unowned x = group (owner_of (state c) x)

abbrev pub owners_said : Context → OwnersTree → Term → Term → Formula
owners_said c SameOwner x y = equal (owner_of (state c) x) (owner_of (state c) y)
owners_said c (OwnedAt t) x y = equal (owner_of (state c) x) (pair_of y (class_term t))

-- ---- default conditions, which speak of the store now

abbrev pub default_of_sort : Sort → Term
default_of_sort sort.Whole = number (pos 0)
default_of_sort sort.Truth = truth_term false
default_of_sort s = null_term

-- the fields that t or a class above it declares, from this number on
abbrev pub defaults_from : Context → ℕ → Term → ℕ → List DeclaredField → List Formula
defaults_from c t x f [] = []
defaults_from c t x f (d ∷ ds) =
    if sub c.classes t d.class
    then equal (app (term.Field f) (c.now ∷ x ∷ [])) (default_of_sort (sort_of_type d.field.ty)) ∷ defaults_from c t x (f + 1) ds
    else defaults_from c t x (f + 1) ds

-- each object owned by x at t or a class above it is at its full level
abbrev pub owned_full : Context → ℕ → Term → Formula
owned_full c t x =
    let v = Bound c.bound in
    Forall (sort.Rest ∷ []) (or_of (
    neg (allocated c.now v)
    ∷ and_of (map (λ u. or_of (differ (owner_of c.now v) (pair_of x (class_term u)) ∷ is_full c.now v ∷ [])) (levels c.classes t))
    ∷ []))

-- the owner is a group, whose members are full; where it is asked for, `this` is no member
abbrev pub may_be_captured : Context → Bool → Term → List Formula
may_be_captured c apart x =
    let v = Bound c.bound in
    group (owner_of c.now x)
    ∷ Forall (sort.Rest ∷ []) (or_of (neg (allocated c.now v) ∷ differ (owner_of c.now v) (owner_of c.now x) ∷ is_full c.now v ∷ []))
    ∷ (if apart then over (local_meant c 0) (λ y. or_of (equal y null_term ∷ differ (owner_of c.now y) (owner_of c.now x) ∷ [])) ∷ [] else [])

abbrev pub met_by : Context → DefaultTree → Term → Formula
met_by c (AtLevel t) x = and_of (equal (level_of c.now x) (class_term t) ∷ neg (committed c.now x) ∷ [])
met_by c Unpacked x = equal (level_of c.now x) (class_term 0)
met_by c ThisUnowned x = group (owner_of c.now x)
met_by c (Defaults t) x = and_of (defaults_from c t x 0 (all_fields c.classes))
met_by c (OwnedFull t) x = owned_full c t x
met_by c Full x = is_full c.now x
met_by c (ConsistentArgument i) x = and_of (is_full c.now x ∷ neg (committed c.now x) ∷ [])
met_by c (FullArgument i) x = is_full c.now x
met_by c (Captured i apart) x = and_of (may_be_captured c apart x)

-- null meets each condition
abbrev pub default_said : Context → DefaultTree → Formula
default_said c d = over (local_meant c (subject d)) (λ x. or_of (equal x null_term ∷ met_by c d x ∷ []))

-- ---- operations

-- of truth values that are both terms an atom, else two implications
abbrev pub same_truths : Meant → Meant → Formula
same_truths (One x) (One y) = equal x y
same_truths a b = iff (said a) (said b)

abbrev pub equal_meant : Bool → Meant → Meant → Formula
equal_meant true a b = same_truths a b
equal_meant false a b = over_two a b equal

-- `bools` says that the operands are truth values
abbrev pub operated : Operator → Bool → Meant → Meant → Meant
operated op.And bools a b = Says (and_more (said a) (said b))
operated op.Or bools a b = Says (or_more (said a) (said b))
operated op.Equal bools a b = Says (equal_meant bools a b)
operated op.NotEqual bools a b = Says (neg (equal_meant bools a b))
operated op.Less bools a b = Says (over_two a b less)
operated op.LessEqual bools a b = Says (over_two a b at_most)
operated op.Greater bools a b = Says (over_two a b (λ x y. less y x))
operated op.GreaterEqual bools a b = Says (over_two a b (λ x y. at_most y x))
operated op.Add bools a b = paired (λ x y. app term.Add (x ∷ y ∷ [])) a b
operated op.Subtract bools a b = paired (λ x y. app term.Subtract (x ∷ y ∷ [])) a b
operated op.Multiply bools a b = paired (λ x y. app term.Multiply (x ∷ y ∷ [])) a b
operated op.Divide bools a b = paired (λ x y. app term.Quotient (x ∷ y ∷ [])) a b
operated op.Remainder bools a b = paired (λ x y. app term.Remainder (x ∷ y ∷ [])) a b

-- it is itself where it is of the class, and else null
abbrev pub as_class : ℕ → Choice → List Choice
as_class t c = choice (and_of (c.condition ∷ is_of t c.value ∷ [])) c.value ∷ choice (and_of (c.condition ∷ neg (is_of t c.value) ∷ [])) null_term ∷ []

-- the bound name isn't between these
abbrev pub out_of_range : Context → Meant → Meant → List Formula
out_of_range c low high = neg (over low (λ x. at_most x (Bound c.bound))) ∷ neg (over high (λ y. at_most (app term.Add (Bound c.bound ∷ number (pos 1) ∷ [])) y)) ∷ []

abbrev pub quantified_said : Context → Quantifier → Meant → Meant → Formula → Formula
quantified_said c quantifier.Forall low high f = Forall (sort.Whole ∷ []) (or_of (out_of_range c low high ++ f ∷ []))
quantified_said c quantifier.Exists low high f = Exists (sort.Whole ∷ []) (and_of (map neg (out_of_range c low high) ++ f ∷ []))

-- ---- expressions

abbrev pub meant : ExprTree → Context → Meant
meant (IntExpr p n) c = One (number n)
meant (BoolExpr p b) c = One (truth_term b)
meant (NullExpr p) c = One null_term
meant (LocalExpr p x) c = local_meant c x
meant (FieldExpr p e f) c = mapped (λ o. app (term.Field f) (state c ∷ o ∷ [])) (meant e c)
meant (ElementExpr p a i) c = paired (λ x y. app (term.Element (element_sort (element_of c.classes (type_of c.classes c.types a)))) (state c ∷ x ∷ y ∷ [])) (meant a c) (meant i c)
meant (LengthExpr p e) c = mapped (λ o. app term.Length (o ∷ [])) (meant e c)
meant (NegateExpr p e) c = mapped (λ x. app term.Subtract (number (pos 0) ∷ x ∷ [])) (meant e c)
meant (NotExpr p e) c = Says (neg (said (meant e c)))
meant (BinaryExpr p o a b) c = operated o (is_bool (type_of c.classes c.types a)) (meant a c) (meant b c)
meant (ImpliesExpr p a b) c = Says (or_of (neg (said (meant a c)) ∷ said (meant b c) ∷ []))
meant (IffExpr p a b) c = Says (same_truths (meant a c) (meant b c))
meant (IsExpr p e t) c = Says (over (meant e c) (is_of t))
meant (AsExpr p e t) c = Either (flat_map (as_class t) (choices (meant e c)))
meant (CastExpr p t non_null e) c = meant e c
meant (OldExpr p e) c = meant e (at_entry c)
meant (QuantifiedExpr p q name low high e) c = Says (quantified_said c q (meant low c) (meant high c) (said (meant e (with_bound c))))
meant (StateExpr p w e) c = Says (over (meant e c) (word_said c w))
meant (OwnersExpr p w a b) c = Says (over_two (meant a c) (meant b c) (owners_said c w))
meant (DefaultExpr p d) c = Says (default_said c d)

-- ---- when it is defined: each part

abbrev pub not_null : Meant → Formula
not_null m = over m (λ x. differ x null_term)

-- an object whose state may be read: inside `old` it was allocated at entry
abbrev pub readable : Context → Meant → List Formula
readable c m = not_null m ∷ (if c.inside_old then over m (allocated c.entry) ∷ [] else [])

-- each part under a condition
abbrev pub under : Formula → List Formula → List Formula
under f parts = map (λ p. or_of (neg f ∷ p ∷ [])) parts

abbrev pub not_zero : Meant → Formula
not_zero m = over m (λ y. differ y (number (pos 0)))

-- the array has an element at the index
abbrev pub index_fits : Meant → Meant → Formula
index_fits a i = over_two a i (λ x y. and_of (at_most (number (pos 0)) y ∷ less y (app term.Length (x ∷ [])) ∷ []))

abbrev pub operation_parts : Operator → Meant → Meant → List Formula → List Formula → List Formula
operation_parts op.And a b ps qs = ps ++ under (said a) qs
operation_parts op.Or a b ps qs = ps ++ under (neg (said a)) qs
operation_parts op.Add a b ps qs = ps ++ qs ++ over_two a b (λ x y. fits_int (app term.Add (x ∷ y ∷ []))) ∷ []
operation_parts op.Subtract a b ps qs = ps ++ qs ++ over_two a b (λ x y. fits_int (app term.Subtract (x ∷ y ∷ []))) ∷ []
operation_parts op.Multiply a b ps qs = ps ++ qs ++ over_two a b (λ x y. fits_int (app term.Multiply (x ∷ y ∷ []))) ∷ []
operation_parts op.Divide a b ps qs = ps ++ qs ++ not_zero b ∷ over_two a b (λ x y. fits_int (app term.Quotient (x ∷ y ∷ []))) ∷ []
operation_parts op.Remainder a b ps qs = ps ++ qs ++ not_zero b ∷ over_two a b (λ x y. fits_int (app term.Quotient (x ∷ y ∷ []))) ∷ []
operation_parts o a b ps qs = ps ++ qs

abbrev pub word_parts : Context → WordTree → Meant → List Formula
word_parts c New m = not_null m ∷ []
word_parts c w m = readable c m

abbrev pub defined : ExprTree → Context → List Formula
defined (IntExpr p n) c = []
defined (BoolExpr p b) c = []
defined (NullExpr p) c = []
defined (LocalExpr p x) c = []
defined (FieldExpr p e f) c = defined e c ++ readable c (meant e c)
defined (ElementExpr p a i) c = defined a c ++ defined i c ++ readable c (meant a c) ++ index_fits (meant a c) (meant i c) ∷ []
defined (LengthExpr p e) c = defined e c ++ not_null (meant e c) ∷ []
defined (NegateExpr p e) c = defined e c ++ over (meant e c) (λ x. fits_int (app term.Subtract (number (pos 0) ∷ x ∷ []))) ∷ []
defined (NotExpr p e) c = defined e c
defined (BinaryExpr p o a b) c = operation_parts o (meant a c) (meant b c) (defined a c) (defined b c)
defined (ImpliesExpr p a b) c = defined a c ++ under (said (meant a c)) (defined b c)
defined (IffExpr p a b) c = defined a c ++ defined b c
defined (IsExpr p e t) c = defined e c
defined (AsExpr p e t) c = defined e c
defined (CastExpr p t non_null e) c =
    defined e c ++ (if non_null then not_null (meant e c) ∷ [] else []) ++ over (meant e c) (λ x. or_of (equal x null_term ∷ sub_atom (shape.type_of x) (class_term t) ∷ [])) ∷ []
defined (OldExpr p e) c = defined e (at_entry c)
defined (QuantifiedExpr p q name low high e) c =
    defined low c ++ defined high c ++ map (λ part. Forall (sort.Whole ∷ []) (or_of (out_of_range c (meant low c) (meant high c) ++ part ∷ []))) (defined e (with_bound c))
defined (StateExpr p w e) c = defined e c ++ word_parts c w (meant e c)
defined (OwnersExpr p w a b) c = defined a c ++ defined b c ++ readable c (meant a c) ++ readable c (meant b c)
defined (DefaultExpr p d) c = []

-- it is defined, and it says so
abbrev pub holds_formula : ExprTree → Context → Formula
holds_formula e c = and_of (defined e c ++ said (meant e c) ∷ [])
