-- The environment of a place, and what an expression is along a path.
use Rattle.std.specs.Prelude.{ℕ, List, Option, Some, None, map, option_map}
use Rattle.ss_core.specs.declared.names.Place.{Place}
use Rattle.ss_core.specs.declared.names.ClassId.{ClassId}
use Rattle.ss_core.specs.declared.names.Ty.{Ty}
use Rattle.ss_tables_lookup.specs.Views.{type_of}
use Rattle.ss_tables_scopes.specs.Views.{scope_of, receiver_of}
use Rattle.ss_tables.specs.Classes.{Declared}
use Rattle.ss_tables.specs.Statics.{Receiver, TheBase, AValue, Callee, ABase, NoCallee, static, receiver, name_receiver, name_type, read_type, name_callee, member_callee}
use Rattle.ss_ast.specs.Expressions as text
use Rattle.ss_typed.specs.declared.expr.TypedExpr.{TypedExpr}
use Rattle.ss_typed.specs.Tree.{ExprTree, NullOf}
use Rattle.ss_typed.specs.Tree as typed
use Rattle.ss_typed.specs.View as view
use Rattle.ss_resolver_rules.specs.Names.{Env}
use Rattle.ss_resolver_expressions.specs.LocalContext.{LocalContext}
use Rattle.ss_resolver_rules.specs.Numbers.{class_id, class_in}
use Rattle.ss_resolver_rules.specs.Expressions.{expr, this, bare_name, member, called_bare, called_after}
use Rattle.ss_resolver_expressions.specs.declared.context.ResolutionContext.{ResolutionContext}
use Rattle.ss_resolver_expressions.specs.declared.parts.Part.{Part as CodePart}
use Rattle.ss_resolver_expressions.specs.declared.parts.Part.TheVariants as code

-- the environment of a place with these locals
abbrev pub env_of : ResolutionContext → LocalContext → Env
env_of s a = record { scope = scope_of s.within a.names; inner = a.numbered.inner; outer = a.numbered.outer; next = a.next; bound = a.bound }

-- resolved arguments
abbrev pub given : List TypedExpr → typed.Arguments
given es = typed.arguments (view.exprs es)

-- An expression before what may stand after it.
pub data Part : Type 0 where
  ABareName : Place → List ℕ → Part
  -- the word `base`
  ABaseWord : Place → Part
  -- a member after a dot: what stands before it, with its static type and its tree
  AMember : Place → Receiver → Option Ty → ExprTree → List ℕ → Part
  -- any other, with its static type and its tree
  AnOther : Option Ty → ExprTree → Part

abbrev pub part : Env → text.ExprTree → Part
part e (text.NameOf p n) = ABareName p n
part e (text.BaseOf p) = ABaseWord p
part e (text.MemberOf p a n) = AMember p (receiver e.scope a (static e.scope a)) (static e.scope a) (expr e a) n.text
part e a = AnOther (static e.scope a) (expr e a)

abbrev pub part_value : Env → Part → ExprTree
part_value e (ABareName p n) = bare_name e p n
part_value e (ABaseWord p) = this e p
part_value e (AMember p r t o n) = member e p o n (class_in t)
part_value e (AnOther t x) = x

abbrev pub part_type : Env → Part → Option Ty
part_type e (ABareName p n) = name_type e.scope n
part_type e (ABaseWord p) = None
part_type e (AMember p r t o n) = read_type e.scope.classes n r
part_type e (AnOther t x) = t

abbrev pub part_receiver : Env → Part → Receiver
part_receiver e (ABareName p n) = name_receiver e.scope n (name_type e.scope n)
part_receiver e (ABaseWord p) = TheBase
part_receiver e (AMember p r t o n) = AValue (read_type e.scope.classes n r)
part_receiver e (AnOther t x) = AValue t

abbrev pub part_callee : Env → Part → Callee
part_callee e (ABareName p n) = name_callee e.scope n
part_callee e (ABaseWord p) = ABase
part_callee e (AMember p r t o n) = member_callee e.scope n r
part_callee e (AnOther t x) = NoCallee

-- a call of it, with the written and the resolved arguments
abbrev pub part_called : Env → Place → text.Arguments → typed.Arguments → Part → ExprTree
part_called e p es args (ABareName q n) = called_bare e p q args (name_callee e.scope n)
part_called e p es args (ABaseWord q) = NullOf p
part_called e p es args (AMember q r t o n) = called_after e p r o n es args (member_callee e.scope n r)
part_called e p es args (AnOther t x) = NullOf p

abbrev pub part_view : CodePart → Part
part_view (code.Name p n) = ABareName p n.now
part_view (code.Base p) = ABaseWord p
part_view (code.Member p r t o n) = AMember p (receiver_of r) (option_map type_of t) (view.expr o.value) n.now
part_view (code.Other t x) = AnOther (option_map type_of t) (view.expr x.value)

-- the class that it names
abbrev pub part_class : Env → Part → ℕ
part_class e (ABareName p n) = class_id e.scope.classes n
part_class e (ABaseWord p) = 0
part_class e (AMember p r t o n) = 0
part_class e (AnOther t x) = 0

-- the numbers of classes
abbrev pub numbers_of : List ClassId → List ℕ
numbers_of ts = map (λ (t : ClassId). t.0) ts
