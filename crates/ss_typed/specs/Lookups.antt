-- What is looked up in a resolved program.
use Rattle.std.specs.Prelude.{ℕ, ◌-◌, ◌/◌, List, [], map, Option, Some, None, option_and_then, slice_get}
use Rattle.ss_core.specs.declared.names.Ty.{Ty}
use Rattle.ss_core.specs.Tree as core
pub use Rattle.ss_core.specs.Kinds.{class_place}
use Rattle.ss_core.specs.Chain.{declared}
use Rattle.ss_typed.specs.Tree.{ParamTree, BodyTree, MembersTree, TypedTree}
use Rattle.ss_typed.specs.Constructors.{written_constructor}

-- the written body of this number
abbrev pub body_at : TypedTree → ℕ → Option BodyTree
body_at p n = slice_get p.bodies n

-- what a declared class has beside its entry in the table of classes
abbrev pub members_of : TypedTree → ℕ → Option MembersTree
members_of p t = option_and_then (λ (c : core.ClassTree). slice_get p.members (class_place t)) (declared p.classes t)

abbrev pub constructor_in : TypedTree → Option MembersTree → Option BodyTree
constructor_in p m = option_and_then (body_at p) (written_constructor m)

-- the constructor that the class writes
abbrev pub constructor_of : TypedTree → ℕ → Option BodyTree
constructor_of p t = constructor_in p (members_of p t)

-- the types of the parameters of a body
abbrev pub param_types_in : Option BodyTree → List Ty
param_types_in None = []
param_types_in (Some b) = map (λ (q : ParamTree). q.ty) b.params
