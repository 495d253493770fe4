-- The value of a return.
use Rattle.std.specs.Prelude.{List, [], ◌∷◌}
use Rattle.ss_core.specs.declared.names.Ty.{Ty}
use Rattle.ss_typed.specs.Tree.{ExprTree}
use Rattle.ss_expand_rules.specs.Lifting.{Opened, ElaborationContext, Valued, right_side, value}
use Rattle.ss_expand_rules.specs.Statements.{kept_result}

-- where these exposes stand around it, it is in a temporary
abbrev pub returned_in : List Opened → ElaborationContext → ExprTree → List Ty → Valued
returned_in [] s e made = value s e made
returned_in (o ∷ os) s e made = kept_result s e (right_side s e made)

abbrev pub returned_value : ElaborationContext → ExprTree → List Ty → Valued
returned_value s e made = returned_in s.exposes s e made
