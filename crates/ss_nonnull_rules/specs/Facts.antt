-- The locals that are known not to be null, and what a test says of them (OOPSLA 2003).
use Rattle.std.specs.Prelude.{ℕ, ◌++◌, Bool, true, false, not, ◌&&◌, if◌then◌else◌, Option, Some, None}
use Rattle.ss_core.specs.declared.expr.Operator.{Operator}
use Rattle.ss_core.specs.declared.expr.Operator.TheVariants as op
use Rattle.ss_typed.specs.Tree.{ExprTree, NullOf, NotOf, BinaryOf, IsOf, SimpleTree, StmtTree}
use Rattle.ss_typed.specs.Shapes.{local_of}
use Rattle.ss_typed.specs.Assigned.{assigned, step_locals}
use Rattle.ss_paths.specs.Sets.{Set, none, only, either, without, among}

-- ---- what a test says

abbrev pub is_null : ExprTree → Bool
is_null (NullOf p) = true
is_null e = false

abbrev pub the_one : Option ℕ → Set
the_one None = none
the_one (Some x) = only x

-- the local that the expression is, if it is one
abbrev pub the_local : ExprTree → Set
the_local e = the_one (local_of e)

-- the left side isn't null, where it differs from the right one and that is `null`
abbrev pub compared : Bool → ExprTree → ExprTree → Set
compared differs a b = if differs && is_null b then the_local a else none

-- what an operation says where it has this truth value, from what its operands say
abbrev pub operation_says : Operator → Bool → ExprTree → ExprTree → (Bool → Set) → (Bool → Set) → Set
operation_says op.And v a b f g = if v then either (f true) (g true) else none
operation_says op.Or v a b f g = if v then none else either (f false) (g false)
operation_says op.NotEqual v a b f g = compared v a b
operation_says op.Equal v a b f g = compared (not v) a b
operation_says o v a b f g = none

-- The locals that aren't null where the expression has this truth value: by `x != null`, `x == null`, `x is T`, `&&`, `||` and `!`.
abbrev pub says : ExprTree → Bool → Set
says (NotOf p e) v = says e (not v)
says (BinaryOf p o a b) v = operation_says o v a b (says a) (says b)
says (IsOf p e t) v = if v then the_local e else none
says e v = none

-- at the head of a loop nothing is known of the locals that it assigns
abbrev pub forgotten : StmtTree → Option SimpleTree → Set → Set
forgotten s step f = without f (among (assigned s ++ step_locals step))
