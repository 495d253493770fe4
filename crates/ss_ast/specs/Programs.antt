-- Classes and programs as plain trees.
use Rattle.std.specs.Prelude.{List, Option, map, option_map}
use Rattle.ss_core.specs.declared.names.Place.{Place}
use Rattle.ss_ast.specs.declared.class.Modifier.{Modifier}
use Rattle.ss_ast.specs.declared.class.Param.{Param}
use Rattle.ss_ast.specs.declared.class.Modified.{Modified}
use Rattle.ss_ast.specs.declared.class.Modified.TheVariants as modified
use Rattle.ss_ast.specs.declared.class.Clause.{Clause}
use Rattle.ss_ast.specs.declared.class.Clause.TheVariants as clause
use Rattle.ss_ast.specs.declared.class.BaseCall.{BaseCall}
use Rattle.ss_ast.specs.declared.class.MemberKind.{MemberKind}
use Rattle.ss_ast.specs.declared.class.MemberKind.TheVariants as member
use Rattle.ss_ast.specs.declared.class.Member.{Member}
use Rattle.ss_ast.specs.declared.class.ClassDecl.{ClassDecl}
use Rattle.ss_ast.specs.declared.class.Program.{Program}
use Rattle.ss_ast.specs.Expressions.{NameTree, TypeTree, ExprTree, name_tree, type_tree, expr_tree}
use Rattle.ss_ast.specs.Statements.{DeclarationTree, BlockTree, declaration_tree, block_tree}

-- a parameter with its attributes, each a name at the place of its `[`
pub record ParamTree : Type 0 where
  pub attributes : List NameTree
  pub ty : TypeTree
  pub name : NameTree

-- a term of a `modifies` clause: `o.*`, `a[*]` and `o.f`
pub data ModifiedTree : Type 0 where
  AllOf : ExprTree → ModifiedTree
  ElementsOf : ExprTree → ModifiedTree
  OneOf : ExprTree → ModifiedTree

pub data ClauseTree : Type 0 where
  RequiresOf : ExprTree → ClauseTree
  EnsuresOf : ExprTree → ClauseTree
  ModifiesOf : List ModifiedTree → ClauseTree

-- `: base(..)`, with the place of `base`
pub record BaseCallTree : Type 0 where
  pub place : Place
  pub arguments : List ExprTree

-- a method without a result is `void`
pub data MemberKindTree : Type 0 where
  FieldsOf : DeclarationTree → MemberKindTree
  InvariantOf : ExprTree → MemberKindTree
  MethodOf : Option TypeTree → NameTree → List ParamTree → List ClauseTree → BlockTree → MemberKindTree
  ConstructorOf : NameTree → List ParamTree → Option BaseCallTree → List ClauseTree → BlockTree → MemberKindTree

-- a member with its attributes, each a name at the place of its `[`, and its words `static`, `virtual` and `override`
pub record MemberTree : Type 0 where
  pub attributes : List NameTree
  pub modifiers : List Modifier
  pub kind : MemberKindTree

pub record ClassTree : Type 0 where
  pub name : NameTree
  pub above : Option NameTree
  pub members : List MemberTree

-- a program, with the place of the end of its text
pub record ProgramTree : Type 0 where
  pub classes : List ClassTree
  pub last : Place

-- ---- the trees that values of the code stand for

abbrev pub param_tree : Param → ParamTree
param_tree p = record { attributes = map name_tree p.attributes.items; ty = type_tree p.ty; name = name_tree p.name }

abbrev pub modified_tree : Modified → ModifiedTree
modified_tree (modified.All e) = AllOf (expr_tree e)
modified_tree (modified.Elements e) = ElementsOf (expr_tree e)
modified_tree (modified.One e) = OneOf (expr_tree e)

abbrev pub clause_tree : Clause → ClauseTree
clause_tree (clause.Requires e) = RequiresOf (expr_tree e)
clause_tree (clause.Ensures e) = EnsuresOf (expr_tree e)
clause_tree (clause.Modifies ms) = ModifiesOf (map modified_tree ms.items)

abbrev pub base_call_tree : BaseCall → BaseCallTree
base_call_tree b = record { place = b.place; arguments = map expr_tree b.arguments.items }

abbrev pub member_kind_tree : MemberKind → MemberKindTree
member_kind_tree (member.Fields d) = FieldsOf (declaration_tree d)
member_kind_tree (member.Invariant e) = InvariantOf (expr_tree e)
member_kind_tree (member.Method m) = MethodOf (option_map type_tree m.returns) (name_tree m.name) (map param_tree m.params.items) (map clause_tree m.clauses.items) (block_tree m.body)
member_kind_tree (member.Constructor c) = ConstructorOf (name_tree c.name) (map param_tree c.params.items) (option_map base_call_tree c.base) (map clause_tree c.clauses.items) (block_tree c.body)

abbrev pub member_tree : Member → MemberTree
member_tree m = record { attributes = map name_tree m.attributes.items; modifiers = m.modifiers.items; kind = member_kind_tree m.kind }

abbrev pub class_tree : ClassDecl → ClassTree
class_tree c = record { name = name_tree c.name; above = option_map name_tree c.above; members = map member_tree c.members.items }

abbrev pub program_tree : Program → ProgramTree
program_tree p = record { classes = map class_tree p.classes.items; last = p.last }
