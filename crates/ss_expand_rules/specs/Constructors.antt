-- What a constructor has beside its block: the beginnings of fields, and a call of the constructor of the class above.
use Rattle.std.specs.Prelude.{ℕ, ◌+◌, List, [], ◌∷◌, true, false, if◌then◌else◌, Option, Some, None}
use Rattle.ss_core.specs.declared.names.Place.{Place}
use Rattle.ss_ast.specs.declared.stmt.AssignOperator.TheVariants as operator
use Rattle.ss_core.specs.Tree as core
use Rattle.ss_core.specs.Chain.{DeclaredField}
use Rattle.ss_typed.specs.declared.body.TypedFlags.{TypedFlags}
use Rattle.ss_typed.specs.Tree.{ExprTree, ThisOf, FieldOf, Arguments, SimpleTree, AssignOf, BaseCallOf, BlockOf, StmtTree, SimpleOf, StmtTrees, BaseTree, BodyTree, FieldTree, MembersTree, TypedTree}
use Rattle.ss_typed.specs.Tree as typed
use Rattle.ss_expand_rules.specs.Program.{field_at}
use Rattle.ss_typed.specs.Lookups.{members_of}
use Rattle.ss_typed.specs.Shapes.{has_base, in_block}
use Rattle.ss_paths.specs.Fields.{field_numbers}
use Rattle.ss_paths.specs.Opening.{is_first}

-- ---- lists of statements

abbrev pub before_all : StmtTrees → StmtTrees → StmtTrees
before_all typed.NoMore more = more
before_all (typed.Before s ss) more = typed.Before s (before_all ss more)

-- ---- field initializers

-- `this.f = e`, at the name of the field
abbrev pub initial_assignment : ℕ → ℕ → Place → core.FieldTree → ExprTree → StmtTree
initial_assignment t f p field e = SimpleOf (AssignOf (FieldOf p (ThisOf p t) f field.ty) operator.Set e)

abbrev pub initialize : ℕ → ℕ → FieldTree → Option ExprTree → Option DeclaredField → StmtTrees → StmtTrees
initialize t f m None d more = more
initialize t f m (Some e) None more = more
initialize t f m (Some e) (Some d) more = typed.Before (initial_assignment t f m.place d.field e) more

-- the fields of the class t that begin with a value, of which the first has the number f
abbrev pub initializers_from : TypedTree → ℕ → ℕ → List FieldTree → StmtTrees
initializers_from p t f [] = typed.NoMore
initializers_from p t f (m ∷ ms) = initialize t f m m.initial (field_at p f) (initializers_from p t (f + 1) ms)

abbrev pub initializers_in : TypedTree → ℕ → Option MembersTree → StmtTrees
initializers_in p t None = typed.NoMore
initializers_in p t (Some m) = initializers_from p t (field_numbers p t).first m.fields

-- Field initializers: initial assignments at the front of the constructor, in order.
abbrev pub initializers : TypedTree → ℕ → StmtTrees
initializers p t = initializers_in p t (members_of p t)

-- ---- the implicit base call

-- after the longest run of assignments to fields of the class at the front
abbrev pub after_initial : TypedTree → ℕ → StmtTree → StmtTrees → StmtTrees
after_initial p t s typed.NoMore = typed.Before s typed.NoMore
after_initial p t s (typed.Before first ss) = if is_first p t first then typed.Before first (after_initial p t s ss) else typed.Before s (typed.Before first ss)

-- `base()`, at the constructor's name
abbrev pub base_alone : BodyTree → StmtTree
base_alone b = SimpleOf (BaseCallOf b.place typed.NoMore)

abbrev pub base_above : BaseTree → StmtTree
base_above base = SimpleOf (BaseCallOf base.place base.arguments)

-- Implicit base call: one that the heading writes stands first, and so does one that nothing writes; but in a constructor that isn't delayed
-- that one stands after the assignments with which the block begins.
abbrev pub with_base : TypedTree → BodyTree → Option BaseTree → StmtTrees → StmtTrees
with_base p b (Some base) ss = typed.Before (base_above base) ss
with_base p b None ss =
    if has_base ss then ss
    else if b.flags.delayed then typed.Before (base_alone b) ss
    else after_initial p b.class (base_alone b) ss

-- the statements of a constructor
abbrev pub constructor_stmts : TypedTree → BodyTree → StmtTrees
constructor_stmts p b = before_all (initializers p b.class) (with_base p b b.base (in_block b.block))

abbrev pub implicit_flags : TypedFlags
implicit_flags = record { is_static = false; ctor = true; delayed = true; pure = false; no_default_contract = false }

-- Implicit constructor: a class without one has the delayed `C() { }`, all of which stands at the class's name.
abbrev pub implicit_constructor : ℕ → List ℕ → Place → BodyTree
implicit_constructor t name p = record {
  class = t;
  name = name;
  place = p;
  flags = implicit_flags;
  attributes = [];
  params = [];
  locals = [];
  result = None;
  entry = [];
  exit = [];
  modifies = None;
  base = None;
  block = BlockOf p typed.NoMore p;
}
