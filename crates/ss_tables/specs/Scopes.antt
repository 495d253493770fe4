-- Which locals are in scope. The parameters have a scope, and so has each block, each `for` with its heading, each governed
-- statement and each quantifier; an inner scope may have a name again.
use Rattle.std.specs.Prelude.{ℕ, Bool, true, false, List, [], ◌∷◌, Option, Some, None}
use Rattle.std.specs.Option.{option_or}
use Rattle.ss_core.specs.declared.names.Ty.{Ty}
use Rattle.ss_core.specs.declared.names.Ty.TheVariants as ty
use Rattle.ss_ast.specs.Expressions.{NameTree, TypeTree}
use Rattle.ss_ast.specs.Statements.{DeclaratorTree, DeclarationTree, ForInitTree, DeclareFirst, SimpleFirst, StmtTree, InBlock, DeclareOf, SimpleOf, IfOf, IfElseOf, WhileOf, ForOf, ReturnOf, AssertOf, AssumeOf, ExposeOf, EmptyOf}
use Rattle.ss_ast.specs.Programs.{ParamTree, ClassTree}
use Rattle.ss_tables.specs.Named.{Named, named_in, named_among, with_named}
use Rattle.ss_tables.specs.Types.{written_type}

-- a local variable, parameter or bound name: its type, where that is written with a class of the program, and whether it is
-- a parameter
pub record Local : Type 0 where
  pub ty : Option Ty
  pub is_param : Bool

-- the locals of one scope by name, in order of declaration
abbrev pub Locals : Type 0
Locals = Named Local

-- what names mean at a place
pub record Scope : Type 0 where
  pub classes : List ClassTree
  -- the class in which the place is
  pub class : ℕ
  -- members of `this` by their bare names and methods of `base` are refused, as in a static method, and have no type
  pub refuses_members : Bool
  -- so is `this`; while names are looked up it counts, so that a member that its class hasn't is unknown also there
  pub refuses_this : Bool
  -- the type of `result`, where there is one
  pub outcome : Option Ty
  -- the innermost scope, and those around it from the inside out
  pub inner : Locals
  pub outer : List Locals

-- the local that a name means: that of the innermost scope that has one
abbrev pub local_named : Scope → List ℕ → Option Local
local_named s n = option_or (named_in s.inner n) (named_among s.outer n)

-- the scope of a member of a class, in which no local stands
abbrev pub class_scope : List ClassTree → ℕ → Scope
class_scope cs k = record { classes = cs; class = k; refuses_members = false; refuses_this = false; outcome = None; inner = []; outer = [] }

-- a scope within another one
abbrev pub enter : Scope → Scope
enter s = record s { inner = []; outer = s.inner ∷ s.outer }

-- one more local; a second one of a name in one scope isn't meant by it
abbrev pub declare : Scope → List ℕ → Local → Scope
declare s n l = record s { inner = with_named s.inner n l }

abbrev pub declare_local : Scope → TypeTree → NameTree → Scope
declare_local s t n = declare s n.text (record { ty = written_type s.classes t; is_param = false })

-- each declared name is in scope from the end of its declarator on
abbrev pub declare_all : Scope → TypeTree → List DeclaratorTree → Scope
declare_all s t [] = s
declare_all s t (d ∷ ds) = declare_all (declare_local s t d.name) t ds

abbrev pub after_declaration : Scope → DeclarationTree → Scope
after_declaration s d = declare_all s d.ty d.declarators

-- the scope after a statement: a declaration alone changes it
abbrev pub behind : Scope → StmtTree → Scope
behind s (DeclareOf d) = after_declaration s d
behind s (InBlock b) = s
behind s (SimpleOf x) = s
behind s (IfOf p e a) = s
behind s (IfElseOf p e a b) = s
behind s (WhileOf p e es a) = s
behind s (ForOf p i e x es a) = s
behind s (ReturnOf p e) = s
behind s (AssertOf p e) = s
behind s (AssumeOf p e) = s
behind s (ExposeOf p e n b) = s
behind s (EmptyOf p) = s

-- after what a `for` begins with
abbrev pub after_init : Scope → Option ForInitTree → Scope
after_init s None = s
after_init s (Some (DeclareFirst d)) = after_declaration s d
after_init s (Some (SimpleFirst x)) = s

abbrev pub declare_params : Scope → List ParamTree → Scope
declare_params s [] = s
declare_params s (p ∷ ps) = declare_params (declare s p.name.text (record { ty = written_type s.classes p.ty; is_param = true })) ps

-- the scope of a method's contract: its parameters
abbrev pub param_scope : List ClassTree → ℕ → List ParamTree → Scope
param_scope cs k ps = declare_params (class_scope cs k) ps

-- the scope of a quantifier's member: the bound name is an `int`
abbrev pub within_quantifier : Scope → NameTree → Scope
within_quantifier s n = declare (enter s) n.text (record { ty = Some ty.Int; is_param = false })
