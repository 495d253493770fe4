-- Lazy operations, and receivers of calls.
use Rattle.std.specs.Prelude.{List, [], Bool, true, false, ◌||◌, if◌then◌else◌}
use Rattle.ss_core.specs.declared.names.Place.{Place}
use Rattle.ss_core.specs.declared.names.Ty.{Ty}
use Rattle.ss_core.specs.declared.expr.Operator.{Operator}
use Rattle.ss_core.specs.declared.expr.Operator.TheVariants as op
use Rattle.ss_core.specs.Tree as core
use Rattle.ss_typed.specs.Tree.{ExprTree, Arguments}
use Rattle.ss_expand_rules.specs.Numbers.{plain, plain_arguments}
use Rattle.ss_expand_rules.specs.Calls.{has_call}
use Rattle.ss_expand_rules.specs.Lifting.{ElaborationContext, Valued, Listed, operand, lifted, in_temporaries, any_object, holds, fails}

abbrev pub is_and : Operator → Bool
is_and op.And = true
is_and o = false

-- a lazy operation goes on where its left side holds, or where it fails
abbrev pub test_of : Place → Bool → core.ExprTree → core.ExprTree
test_of p true t = holds t
test_of p false t = fails p t

-- the receiver of a call, where a call stands in the arguments or not
abbrev pub receiver_of : ElaborationContext → Bool → ExprTree → List Ty → Valued
receiver_of s in_arguments e made =
    if has_call e || in_arguments then operand s.numbers any_object e (lifted s e) made
    else record { code = []; value = plain s.numbers e; made = made }

-- the size of a new array
abbrev pub size_of : ElaborationContext → ExprTree → List Ty → Valued
size_of s e made =
    if has_call e then operand s.numbers any_object e (lifted s e) made
    else record { code = []; value = plain s.numbers e; made = made }

-- arguments of these types, all of them in temporaries or as they are
abbrev pub values_of : ElaborationContext → List Ty → Bool → Arguments → List Ty → Listed
values_of s ts kept es made = if kept then in_temporaries s ts es made else record { code = []; values = plain_arguments s.numbers es; made = made }
