-- The resolved tree of a statement. The locals of a body are numbered in order of declaration, those of inner scopes included.
use Rattle.std.specs.Prelude.{ℕ, ◌+◌, Bool, true, false, List, [], ◌∷◌, ◌++◌, length, map, Option, Some, None, option_map, codes, if◌then◌else◌}
use Rattle.std.specs.Str.{bytes_eq}
use Rattle.ss_core.specs.declared.names.Place.{Place}
use Rattle.ss_ast.specs.Expressions.{NameTree, TypeTree, Arguments, NoMore, Argument}
use Rattle.ss_ast.specs.Expressions as text
use Rattle.ss_ast.specs.Statements.{DeclarationTree}
use Rattle.ss_ast.specs.Statements as written
use Rattle.ss_core.specs.Tree.{LocalTree}
use Rattle.ss_tables.specs.Statics.{Receiver, TheConsole, TheOwner, TheBase, AClass, AValue, receiver, static}
use Rattle.ss_typed.specs.Tree.{ExprTree, DeclaratorTree, SimpleTree, AssignOf, StepOf, AloneOf, PrintOf, PrintTextOf, BaseCallOf, InitTree, DeclareFirst, SimpleFirst, BlockTree, BlockOf, StmtTree, InBlock, DeclareOf, SimpleOf, IfOf, IfElseOf, WhileOf, ForOf, ReturnOf, AssertOf, AssumeOf, ExposeOf, EmptyOf, StmtTrees, NoMore as NoStmt, Before}
use Rattle.ss_resolver_rules.specs.Numbers.{class_id, type_id}
use Rattle.ss_resolver_rules.specs.Names.{Env, enter, declare, after_declaration}
use Rattle.ss_resolver_rules.specs.Expressions.{expr, args}

-- ---- the locals that are declared

-- a declared local: its name and its written type
pub record Declared : Type 0 where
  pub name : NameTree
  pub ty : TypeTree

abbrev pub declared_by : DeclarationTree → List Declared
declared_by d = map (λ (x : written.DeclaratorTree). record { name = x.name; ty = d.ty }) d.declarators

abbrev pub declared_first : Option written.ForInitTree → List Declared
declared_first None = []
declared_first (Some (written.DeclareFirst d)) = declared_by d
declared_first (Some (written.SimpleFirst x)) = []

-- the locals that a statement declares, in order
abbrev mutual
  pub declared_in_block : written.BlockTree → List Declared
  declared_in_block (written.BlockOf p ss q) = declared_in_all ss

  pub declared_in : written.StmtTree → List Declared
  declared_in (written.InBlock b) = declared_in_block b
  declared_in (written.DeclareOf d) = declared_by d
  declared_in (written.SimpleOf x) = []
  declared_in (written.IfOf p c a) = declared_in a
  declared_in (written.IfElseOf p c a b) = declared_in a ++ declared_in b
  declared_in (written.WhileOf p c es a) = declared_in a
  declared_in (written.ForOf p i c x es a) = declared_first i ++ declared_in a
  declared_in (written.ReturnOf p c) = []
  declared_in (written.AssertOf p c) = []
  declared_in (written.AssumeOf p c) = []
  declared_in (written.ExposeOf p c n b) = declared_in_block b
  declared_in (written.EmptyOf p) = []

  pub declared_in_all : written.StmtTrees → List Declared
  declared_in_all written.NoMore = []
  declared_in_all (written.Before s ss) = declared_in s ++ declared_in_all ss

-- past the locals of a statement that declares them in scopes of its own
abbrev pub past : Env → List Declared → Env
past e ds = record e { next = e.next + length ds }

-- after a statement: a declaration alone leaves its names in scope
abbrev pub behind : Env → written.StmtTree → Env
behind e (written.DeclareOf d) = after_declaration e d
behind e (written.InBlock b) = past e (declared_in_block b)
behind e (written.SimpleOf x) = e
behind e (written.IfOf p c a) = past e (declared_in a)
behind e (written.IfElseOf p c a b) = past e (declared_in a ++ declared_in b)
behind e (written.WhileOf p c es a) = past e (declared_in a)
behind e (written.ForOf p i c x es a) = past e (declared_first i ++ declared_in a)
behind e (written.ReturnOf p c) = e
behind e (written.AssertOf p c) = e
behind e (written.AssumeOf p c) = e
behind e (written.ExposeOf p c n b) = past e (declared_in_block b)
behind e (written.EmptyOf p) = e

-- ---- declarations

abbrev pub declarator : Env → TypeTree → written.DeclaratorTree → DeclaratorTree
declarator e t d = record { place = d.name.place; local = e.next; ty = type_id e.scope.classes t; initial = option_map (expr e) d.initial }

-- each declared name is in scope from the end of its declarator on
abbrev pub declarators : Env → TypeTree → List written.DeclaratorTree → List DeclaratorTree
declarators e t [] = []
declarators e t (d ∷ ds) = declarator e t d ∷ declarators (declare e t d.name) t ds

abbrev pub declaration : Env → DeclarationTree → List DeclaratorTree
declaration e d = declarators e d.ty d.declarators

-- ---- simple statements

abbrev pub is_line : List ℕ → Bool
is_line n = bytes_eq n (codes "WriteLine")

-- what is printed: a string by its bytes, else a value; parentheses leave no trace
abbrev pub printed : Env → Place → Bool → text.ExprTree → SimpleTree
printed e p line (text.ParenOf q a) = printed e p line a
printed e p line (text.TextOf q x) = PrintTextOf p x line
printed e p line a = PrintOf p (Some (expr e a)) line

abbrev pub print : Env → Place → Bool → Arguments → SimpleTree
print e p line text.NoMore = PrintOf p None line
print e p line (text.Argument a more) = printed e p line a

-- a call by what stands before the dot: a print, or any other, which has this tree
abbrev pub call_alone : Env → Place → List ℕ → Arguments → Receiver → ExprTree → SimpleTree
call_alone e p n es TheConsole whole = print e p (is_line n) es
call_alone e p n es TheOwner whole = AloneOf whole
call_alone e p n es TheBase whole = AloneOf whole
call_alone e p n es (AClass k) whole = AloneOf whole
call_alone e p n es (AValue t) whole = AloneOf whole

-- a call or a `new` alone
abbrev pub alone : Env → text.ExprTree → SimpleTree
alone e (text.CallOf p (text.BaseOf q) es) = BaseCallOf p (args e es)
alone e (text.CallOf p (text.MemberOf q a n) es) = call_alone e p n.text es (receiver e.scope a (static e.scope a)) (expr e (text.CallOf p (text.MemberOf q a n) es))
alone e a = AloneOf (expr e a)

abbrev pub simple : Env → written.SimpleTree → SimpleTree
simple e (written.AssignOf a o b) = AssignOf (expr e a) o (expr e b)
simple e (written.StepOf a o) = StepOf (expr e a) o
simple e (written.AloneOf a) = alone e a

abbrev pub first : Env → Option written.ForInitTree → Option InitTree
first e None = None
first e (Some (written.DeclareFirst d)) = Some (DeclareFirst (declaration e d))
first e (Some (written.SimpleFirst x)) = Some (SimpleFirst (simple e x))

abbrev pub behind_first : Env → Option written.ForInitTree → Env
behind_first e None = e
behind_first e (Some (written.DeclareFirst d)) = after_declaration e d
behind_first e (Some (written.SimpleFirst x)) = e

-- ---- statements

-- a block, a `for` with its heading, and a governed statement each have a scope of their own
abbrev mutual
  pub block : Env → written.BlockTree → BlockTree
  block e (written.BlockOf p ss q) = BlockOf p (stmts (enter e) ss) q

  pub stmt : Env → written.StmtTree → StmtTree
  stmt e (written.InBlock b) = InBlock (block e b)
  stmt e (written.DeclareOf d) = DeclareOf (declaration e d)
  stmt e (written.SimpleOf x) = SimpleOf (simple e x)
  stmt e (written.IfOf p c a) = IfOf p (expr e c) (stmt (enter e) a)
  stmt e (written.IfElseOf p c a b) = IfElseOf p (expr e c) (stmt (enter e) a) (stmt (enter (past e (declared_in a))) b)
  stmt e (written.WhileOf p c es a) = WhileOf p (expr e c) (map (expr e) es) (stmt (enter e) a)
  stmt e (written.ForOf p i c x es a) =
      ForOf p (first (enter e) i) (option_map (expr (behind_first (enter e) i)) c) (option_map (simple (behind_first (enter e) i)) x)
      (map (expr (behind_first (enter e) i)) es) (stmt (enter (behind_first (enter e) i)) a)
  stmt e (written.ReturnOf p c) = ReturnOf p (option_map (expr e) c)
  stmt e (written.AssertOf p c) = AssertOf p (expr e c)
  stmt e (written.AssumeOf p c) = AssumeOf p (expr e c)
  stmt e (written.ExposeOf p c n b) = ExposeOf p (expr e c) (option_map (λ (x : NameTree). class_id e.scope.classes x.text) n) (block e b)
  stmt e (written.EmptyOf p) = EmptyOf p

  pub stmts : Env → written.StmtTrees → StmtTrees
  stmts e written.NoMore = NoStmt
  stmts e (written.Before s ss) = Before (stmt e s) (stmts (behind e s) ss)

abbrev pub local : Env → Declared → LocalTree
local e d = record { name = d.name.text; ty = type_id e.scope.classes d.ty; captured = false }
