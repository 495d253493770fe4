-- Operands that have been lifted, and lazy operations.
use Rattle.std.specs.Prelude.{◌≡◌, ℕ, Bool, List, [], ◌∷◌, ◌++◌, Option}
use Rattle.std.specs.Global.{Vec}
use Rattle.ss_core.specs.declared.names.Place.{Place}
use Rattle.ss_core.specs.declared.names.Ty.{Ty}
use Rattle.ss_core.specs.declared.names.Ty.TheVariants as ty
use Rattle.ss_core.specs.declared.stmt.Stmt.{Stmt}
use Rattle.ss_core.specs.Tree as core
use Rattle.ss_core.specs.Tree.{LocalExpr, IfStmt, NoCode}
use Rattle.ss_core.specs.View.{code_of}
use Rattle.ss_typed.specs.Tree.{ExprTree}
use Rattle.ss_typed.specs.Types.{type_of}
use Rattle.ss_expand_rules.specs.Numbers.{Numbers}
use Rattle.ss_expand_rules.specs.Calls.{has_call, is_lazy}
use Rattle.ss_typed.specs.Shapes.{place_of}
use Rattle.ss_expand_rules.specs.Lifting as lifting
use Rattle.ss_expand_rules.specs.Lifting.{ElaborationContext, Lifted, Valued, right_side, in_temporary, next, put}
use Rattle.ss_expand_expressions.specs.declared.operands.Operand.{Operand}
use Rattle.ss_expand_expressions.specs.Sources.{lifted_by, lifted_after}

-- the expression has been lifted after this code, where temporaries of these types were made, and this is known of it
pub record IsOperand (s : ElaborationContext) (e : ExprTree) (before : List core.StmtTree) (types : List Ty) (code : Vec Stmt) (made : Vec Ty) (o : Operand) : Type 0 where
  pub lifted : lifted_by code made o.source ≡ lifted_after before (right_side s e types)
  pub place : o.place ≡ place_of e
  pub ty : o.ty ≡ type_of e
  pub calls : o.has_call ≡ has_call e
  pub lazy : o.is_lazy ≡ is_lazy e

abbrev pub valued_as : List core.StmtTree → core.ExprTree → List Ty → Valued
valued_as code e made = record { code = code; value = e; made = made }

-- the left side of a lazy operation has been put into the temporary x
pub record IsBegun (ns : Numbers) (p : Place) (l : Lifted) (x : ℕ) (code : List core.StmtTree) (made : List Ty) : Type 0 where
  pub number : x ≡ next ns l.made
  pub kept : valued_as code (LocalExpr p x) made ≡ in_temporary ns p ty.Bool l

-- a lazy operation whose right side stands at its own place has been added to the code
pub record IsEnded (p : Place) (test : core.ExprTree) (x : ℕ) (right : Place) (inner : List core.StmtTree) (second : lifting.Source) (before : List core.StmtTree) (now : List core.StmtTree) (r : lifting.Source) : Type 0 where
  pub code : now ≡ before ++ IfStmt p test (code_of (inner ++ put right x second ∷ [])) NoCode ∷ []
  pub value : r ≡ lifting.Pure (LocalExpr p x)
