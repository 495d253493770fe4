-- The value of an expression, or the first cause why it has none: operands from the left, and then the operation's own check.
use Rattle.std.specs.Prelude.{ℕ, zero, suc, ℤ, pos, negsuc, ◌+ℤ◌, ◌-ℤ◌, ◌*ℤ◌, neg_ℤ, List, [], ◌∷◌, ◌++◌, length, Bool, true, false, not, ◌==◌, ◌&&◌, ◌||◌, nat_lt, int_lt, int_le, if◌then◌else◌, Result, Ok, Err, unwrap_or, slice_get}
use Rattle.std.specs.Bool.{beq}
use Rattle.std.specs.Int.{int_gap}
use Rattle.ss_core.specs.declared.names.Place.{Place}
use Rattle.ss_core.specs.declared.names.Kind.TheVariants as kind
use Rattle.ss_core.specs.declared.expr.Operator.{Operator}
use Rattle.ss_core.specs.declared.expr.Operator.TheVariants as op
use Rattle.ss_core.specs.declared.expr.Quantifier.{Quantifier}
use Rattle.ss_core.specs.declared.expr.Quantifier.TheVariants as quantifier
use Rattle.ss_core.specs.Tree.{ClassTree, WordTree, Consistent, Committed, New, Level, Packed, Unowned, OwnersTree, SameOwner, OwnedAt, DefaultTree, AtLevel, Unpacked, ThisUnowned, Defaults, OwnedFull, Full, ConsistentArgument, FullArgument, Captured, ExprTree, IntExpr, BoolExpr, NullExpr, LocalExpr, FieldExpr, ElementExpr, LengthExpr, NegateExpr, NotExpr, BinaryExpr, ImpliesExpr, IffExpr, IsExpr, AsExpr, CastExpr, OldExpr, QuantifiedExpr, StateExpr, OwnersExpr, DefaultExpr}
use Rattle.ss_core.specs.Chain.{sub}
use Rattle.ss_store_rules.specs.declared.Value.{Value}
use Rattle.ss_store_rules.specs.declared.Value.TheVariants as value
use Rattle.ss_store_rules.specs.declared.Undefined.{Undefined}
use Rattle.ss_store_rules.specs.declared.Owner.{Owner}
use Rattle.ss_store_rules.specs.declared.Owner.TheVariants as owner
use Rattle.ss_store_rules.specs.Store.{Object}
use Rattle.ss_store_rules.specs.Numbers.{Outcome, undefined, whole, quotient, remainder}
use Rattle.ss_store_rules.specs.Reads.{as_int, as_bool, same_value, is_object_with, is_null_or, same_owner, is_group, is_in_group, is_pair, object_at, is_allocated, field_read, element_read, is_full, at_defaults, owned_are_full, members_are_full}

-- What an expression is read in: the classes, the store now and at the entry of the body, whether it stands inside `old`, and the
-- values of the locals, past which stand those of the bound names, from the outermost inwards.
pub record Setting : Type 0 where
  pub classes : List ClassTree
  pub store : List Object
  pub entry : List Object
  pub inside_old : Bool
  pub locals : List Value

-- outside any `old`
abbrev pub setting : List ClassTree → List Object → List Object → List Value → Setting
setting cs s s0 locals = record {
  classes = cs;
  store = s;
  entry = s0;
  inside_old = false;
  locals = locals;
}

abbrev pub and_then : {X Y : Type 0} → Result X Undefined → (X → Result Y Undefined) → Result Y Undefined
and_then (Ok v) f = f v
and_then (Err u) f = Err u

abbrev pub truth : Bool → Outcome
truth b = Ok (value.Bool b)

abbrev pub local_value : Setting → ℕ → Value
local_value c x = unwrap_or (slice_get c.locals x) value.Null

-- with one more bound name
abbrev pub with_bound : Setting → ℤ → Setting
with_bound c i = record c { locals = c.locals ++ value.Int i ∷ [] }

abbrev pub at_entry : Setting → Setting
at_entry c = record c { inside_old = true }

-- ---- objects. A class and a length never change, so these are read now.

-- the object that the value refers to; a value that is no reference counts as null
abbrev pub object_of : Place → Value → Result ℕ Undefined
object_of p (value.Obj o) = Ok o
object_of p v = Err (undefined p kind.Null)

abbrev pub class_at : Setting → ℕ → ℕ
class_at c o = (object_at c.store o).class

abbrev pub length_at : Setting → ℕ → ℕ
length_at c o = length (object_at c.store o).elements

-- the object with its fields, elements, level and owner, inside `old` as it was at entry
abbrev pub state_at : Setting → ℕ → Object
state_at c o = object_at (if c.inside_old then c.entry else c.store) o

-- inside `old` an object has to be allocated at entry
abbrev pub is_readable : Setting → ℕ → Bool
is_readable c o = not c.inside_old || is_allocated c.entry o

-- the object that the value refers to, whose state may be read
abbrev pub readable_of : Setting → Place → Value → Result ℕ Undefined
readable_of c p v = and_then (object_of p v) (λ o. if is_readable c o then Ok o else Err (undefined p kind.Null))

abbrev pub field_value : Setting → Place → Value → ℕ → Outcome
field_value c p v f = and_then (readable_of c p v) (λ o. Ok (field_read (state_at c o) f))

abbrev pub is_index : Setting → ℕ → ℤ → Bool
is_index c a (pos i) = nat_lt i (length_at c a)
is_index c a (negsuc i) = false

abbrev pub index : ℤ → ℕ
index (pos i) = i
index (negsuc i) = 0

abbrev pub element_value : Setting → Place → Value → ℤ → Outcome
element_value c p v i = and_then (readable_of c p v) (λ a. if is_index c a i then Ok (element_read (state_at c a) (index i)) else Err (undefined p kind.Index))

abbrev pub length_value : Setting → Place → Value → Outcome
length_value c p v = and_then (object_of p v) (λ a. Ok (value.Int (pos (length_at c a))))

-- ---- classes

-- it is an object of class t or below
abbrev pub is_of : Setting → ℕ → Value → Bool
is_of c t v = is_object_with v (λ o. sub c.classes (class_at c o) t)

-- null passes unless it is asked for none
abbrev pub cast : Setting → Place → ℕ → Bool → Value → Outcome
cast c p t non_null (value.Obj o) = if sub c.classes (class_at c o) t then Ok (value.Obj o) else Err (undefined p kind.Cast)
cast c p t non_null v = if non_null then Err (undefined p kind.Null) else Ok v

-- ---- operations

-- the left operand alone gives the value
abbrev pub decides : Operator → Value → Bool
decides op.And v = not (as_bool v)
decides op.Or v = as_bool v
decides o v = false

abbrev pub applied : Operator → Place → Value → Value → Outcome
applied op.And p v w = truth (as_bool v && as_bool w)
applied op.Or p v w = truth (as_bool v || as_bool w)
applied op.Equal p v w = truth (same_value v w)
applied op.NotEqual p v w = truth (not (same_value v w))
applied op.Less p v w = truth (int_lt (as_int v) (as_int w))
applied op.LessEqual p v w = truth (int_le (as_int v) (as_int w))
applied op.Greater p v w = truth (int_lt (as_int w) (as_int v))
applied op.GreaterEqual p v w = truth (int_le (as_int w) (as_int v))
applied op.Add p v w = whole p (as_int v +ℤ as_int w)
applied op.Subtract p v w = whole p (as_int v -ℤ as_int w)
applied op.Multiply p v w = whole p (as_int v *ℤ as_int w)
applied op.Divide p v w = quotient p (as_int v) (as_int w)
applied op.Remainder p v w = remainder p (as_int v) (as_int w)

-- the right operand isn't evaluated where the left one decides
abbrev pub operation : Operator → Place → Outcome → Outcome → Outcome
operation o p a b = and_then a (λ v. if decides o v then truth (as_bool v) else and_then b (λ w. applied o p v w))

abbrev pub implication : Outcome → Outcome → Outcome
implication a b = and_then a (λ v. if as_bool v then and_then b (λ w. truth (as_bool w)) else truth true)

abbrev pub equivalence : Outcome → Outcome → Outcome
equivalence a b = and_then a (λ v. and_then b (λ w. truth (beq (as_bool v) (as_bool w))))

-- ---- quantifiers

abbrev pub of_none : Quantifier → Bool
of_none quantifier.Forall = true
of_none quantifier.Exists = false

abbrev pub joined : Quantifier → Bool → Bool → Bool
joined quantifier.Forall a b = a && b
joined quantifier.Exists a b = a || b

-- over the n members from i on; the least one without a value leaves the whole without one
abbrev pub quantified : Quantifier → (ℤ → Outcome) → ℕ → ℤ → Outcome
quantified q member zero i = truth (of_none q)
quantified q member (suc n) i = and_then (member i) (λ v. and_then (quantified q member n (i +ℤ pos 1)) (λ w. truth (joined q (as_bool v) (as_bool w))))

-- ---- state words

abbrev pub word_holds : Setting → WordTree → ℕ → Bool
word_holds c Consistent o = (state_at c o).level == class_at c o && not (state_at c o).committed
word_holds c Committed o = (state_at c o).committed
word_holds c New o = not (is_allocated c.entry o)
word_holds c (Level t) o = (state_at c o).level == t
word_holds c (Packed t) o = sub c.classes (state_at c o).level t
word_holds c Unowned o = is_group (state_at c o).owner

-- `IsNew` alone may be asked of an object that isn't allocated at entry
abbrev pub word_object : Setting → Place → WordTree → Value → Result ℕ Undefined
word_object c p New v = object_of p v
word_object c p w v = readable_of c p v

abbrev pub word_value : Setting → Place → WordTree → Value → Outcome
word_value c p w v = and_then (word_object c p w v) (λ o. truth (word_holds c w o))

abbrev pub owners_hold : Setting → OwnersTree → ℕ → ℕ → Bool
owners_hold c SameOwner o q = same_owner (state_at c o).owner (state_at c q).owner
owners_hold c (OwnedAt t) o q = is_pair q t (state_at c o).owner

abbrev pub owners_value : Setting → Place → OwnersTree → Value → Value → Outcome
owners_value c p t v w = and_then (readable_of c p v) (λ o. and_then (readable_of c p w) (λ q. truth (owners_hold c t o q)))

-- ---- conditions of default contracts. They speak of the store now, and always have a value.

abbrev pub object_now : Setting → ℕ → Object
object_now c o = object_at c.store o

-- the local of which a condition speaks: `this`, or an argument
abbrev pub subject : DefaultTree → ℕ
subject (ConsistentArgument x) = x
subject (FullArgument x) = x
subject (Captured x apart) = x
subject d = 0

abbrev pub is_this_in : Setting → ℕ → Bool
is_this_in c g = is_object_with (local_value c 0) (λ o. is_in_group g (object_now c o).owner)

-- the owner is a group, whose members are full; where it is asked for, `this` is no member
abbrev pub may_be_captured : Setting → Bool → Owner → Bool
may_be_captured c apart (owner.Group g) = members_are_full c.store g && not (apart && is_this_in c g)
may_be_captured c apart (owner.Owned o t) = false

abbrev pub is_met_by : Setting → DefaultTree → ℕ → Bool
is_met_by c (AtLevel t) o = (object_now c o).level == t && not (object_now c o).committed
is_met_by c Unpacked o = (object_now c o).level == 0
is_met_by c ThisUnowned o = is_group (object_now c o).owner
is_met_by c (Defaults t) o = at_defaults c.classes t (object_now c o)
is_met_by c (OwnedFull t) o = owned_are_full c.classes c.store o t
is_met_by c Full o = is_full (object_now c o)
is_met_by c (ConsistentArgument x) o = is_full (object_now c o) && not (object_now c o).committed
is_met_by c (FullArgument x) o = is_full (object_now c o)
is_met_by c (Captured x apart) o = may_be_captured c apart (object_now c o).owner

-- null meets each condition
abbrev pub default_holds : Setting → DefaultTree → Bool
default_holds c d = is_null_or (local_value c (subject d)) (is_met_by c d)

-- ---- expressions

abbrev pub value_of : ExprTree → Setting → Outcome
value_of (IntExpr p n) c = Ok (value.Int n)
value_of (BoolExpr p b) c = truth b
value_of (NullExpr p) c = Ok value.Null
value_of (LocalExpr p x) c = Ok (local_value c x)
value_of (FieldExpr p e f) c = and_then (value_of e c) (λ v. field_value c p v f)
value_of (ElementExpr p a i) c = and_then (value_of a c) (λ v. and_then (value_of i c) (λ w. element_value c p v (as_int w)))
value_of (LengthExpr p e) c = and_then (value_of e c) (λ v. length_value c p v)
value_of (NegateExpr p e) c = and_then (value_of e c) (λ v. whole p (neg_ℤ (as_int v)))
value_of (NotExpr p e) c = and_then (value_of e c) (λ v. truth (not (as_bool v)))
value_of (BinaryExpr p o a b) c = operation o p (value_of a c) (value_of b c)
value_of (ImpliesExpr p a b) c = implication (value_of a c) (value_of b c)
value_of (IffExpr p a b) c = equivalence (value_of a c) (value_of b c)
value_of (IsExpr p e t) c = and_then (value_of e c) (λ v. truth (is_of c t v))
value_of (AsExpr p e t) c = and_then (value_of e c) (λ v. Ok (if is_of c t v then v else value.Null))
value_of (CastExpr p t non_null e) c = and_then (value_of e c) (λ v. cast c p t non_null v)
value_of (OldExpr p e) c = value_of e (at_entry c)
value_of (QuantifiedExpr p q name low high e) c =
    and_then (value_of low c) (λ v. and_then (value_of high c) (λ w. quantified q (λ i. value_of e (with_bound c i)) (int_gap (as_int v) (as_int w)) (as_int v)))
value_of (StateExpr p w e) c = and_then (value_of e c) (λ v. word_value c p w v)
value_of (OwnersExpr p t a b) c = and_then (value_of a c) (λ v. and_then (value_of b c) (λ w. owners_value c p t v w))
value_of (DefaultExpr p d) c = truth (default_holds c d)

-- it has a value, and that is true
abbrev pub is_true : Outcome → Bool
is_true (Ok v) = as_bool v
is_true (Err u) = false

abbrev pub holds : ExprTree → Setting → Bool
holds e c = is_true (value_of e c)
