-- The beginning of an `expose`.
use Rattle.std.specs.Prelude.{ℕ, List, [], ◌∷◌, ◌++◌, Option}
use Rattle.ss_core.specs.declared.names.Place.{Place}
use Rattle.ss_core.specs.declared.names.Ty.{Ty}
use Rattle.ss_core.specs.Tree.{UnpackStmt}
use Rattle.ss_typed.specs.Tree.{ExprTree}
use Rattle.ss_typed.specs.Types.{type_of}
use Rattle.ss_typed.specs.Shapes.{place_of}
use Rattle.ss_expand_rules.specs.Code.{Coded}
use Rattle.ss_expand_rules.specs.Lifting.{Opened, ElaborationContext, Lifted, Valued, next, temporary_type, any_object, in_temporary, right_side}
use Rattle.ss_expand_rules.specs.Statements.{exposed_class, opened}

-- the `expose` of the object that is lifted so
abbrev pub opened_with : ElaborationContext → Place → ℕ → Lifted → Opened
opened_with s p t l = opened p (next s.numbers l.made) t

abbrev pub opened_by : ElaborationContext → Place → ExprTree → Option ℕ → List Ty → Opened
opened_by s p e t made = opened_with s p (exposed_class e t) (right_side s e made)

-- the object in its temporary
abbrev pub object_with : ElaborationContext → ExprTree → Lifted → Valued
object_with s e l = in_temporary s.numbers (place_of e) (temporary_type any_object (type_of e)) l

abbrev pub object_of : ElaborationContext → ExprTree → List Ty → Valued
object_of s e made = object_with s e (right_side s e made)

abbrev pub unpacked : Opened → Valued → Coded
unpacked o v = record { code = v.code ++ UnpackStmt o.place o.local o.class ∷ []; made = v.made }

-- what stands before the block
abbrev pub opening : ElaborationContext → Place → ExprTree → Option ℕ → List Ty → Coded
opening s p e t made = unpacked (opened_by s p e t made) (object_of s e made)
