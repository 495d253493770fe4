-- Which faults of types stand in a statement, form by form.
use Rattle.std.specs.Prelude.{ℕ, ◌&&◌, not, Bool, true, false, List, [], ◌∷◌, ◌++◌, Option, Some, None, option_and_then}
use Rattle.ss_core.specs.declared.names.Place.{Place}
use Rattle.ss_core.specs.declared.names.Ty.{Ty}
use Rattle.ss_ast.specs.declared.stmt.AssignOperator.{AssignOperator}
use Rattle.ss_ast.specs.declared.stmt.AssignOperator.TheVariants as operator
use Rattle.ss_ast.specs.Expressions.{NameTree, TypeTree, ExprTree, MemberOf, ElementOf, CallOf, NameOf, NewOf, NewArrayOf}
use Rattle.ss_ast.specs.Statements as tree
use Rattle.ss_ast.specs.Programs.{ClassTree}
use Rattle.ss_tables.specs.Words.{is_state_word, is_length}
use Rattle.ss_tables.specs.Classes.{class_named, class_number, is_array_number}
use Rattle.ss_tables.specs.Types.{written_type, class_of}
use Rattle.ss_tables.specs.Scopes.{Scope, enter, declare_local, behind, after_init}
use Rattle.ss_tables.specs.Statics.{callee, static}
use Rattle.ss_faults.specs.declared.Fault.{Fault}
use Rattle.ss_resolver_types_heads.specs.Faults.{bad_type, fault_where}
use Rattle.ss_resolver_types_heads.specs.Wants.{Want, AnInt, ABool, AnyValue, OfType, OfDeclared, OfClass, place_of, place_within, wrong}
use Rattle.ss_resolver_types_heads.specs.Calls.{ExprContext}
use Rattle.ss_resolver_types_heads.specs.Expressions.{AsValue, faults, faults_as, mark_faults, is_question}

-- what a body gives: nothing, or a value of a type, which may be unknown
pub data Outcome : Type 0 where
  Nothing : Outcome
  Gives : Option Ty → Outcome

-- what surrounds a statement
pub record Body : Type 0 where
  pub is_static : Bool
  pub outcome : Outcome

abbrev pub in_code : Body → Scope → ExprContext
in_code b s = record { scope = s; is_static = b.is_static; in_condition = false; lacks_result = false }

abbrev pub in_condition : Body → Scope → ExprContext
in_condition b s = record { scope = s; is_static = b.is_static; in_condition = true; lacks_result = false }

-- `assert`, `assume` and the invariants of a loop
abbrev pub condition : Body → Scope → ExprTree → List Fault
condition b s e = faults_as (in_condition b s) ABool e

abbrev pub conditions : Body → Scope → List ExprTree → List Fault
conditions b s [] = []
conditions b s (e ∷ es) = condition b s e ++ conditions b s es

abbrev pub test : Body → Scope → ExprTree → List Fault
test b s e = faults_as (in_code b s) ABool e

-- ---- declarations

-- what a local or a field begins with is of its type
abbrev pub initial_faults : ExprContext → TypeTree → Option ExprTree → List Fault
initial_faults a t None = []
initial_faults a t (Some e) = faults_as a (OfType (written_type a.scope.classes t)) e

abbrev pub declarator_faults : Body → Scope → TypeTree → List tree.DeclaratorTree → List Fault
declarator_faults b s t [] = []
declarator_faults b s t (d ∷ ds) = initial_faults (in_code b s) t d.initial ++ declarator_faults b (declare_local s t d.name) t ds

abbrev pub declaration_faults : Body → Scope → tree.DeclarationTree → List Fault
declaration_faults b s d = mark_faults d.ty ++ declarator_faults b s d.ty d.declarators

-- ---- assignments and calls alone

abbrev pub is_length_of : List ℕ → Option ℕ → Bool
is_length_of n None = false
is_length_of n (Some c) = is_array_number c && is_length n

-- what is assigned is a name, a field or an element
abbrev pub is_target : Scope → ExprTree → Bool
is_target s (NameOf p n) = true
is_target s (MemberOf p e n) = not (is_state_word n.text) && not (is_length_of n.text (option_and_then class_of (static s e)))
is_target s (ElementOf p e i) = true
is_target s e = false

abbrev pub target_faults : ExprContext → ExprTree → List Fault
target_faults a e = faults a AsValue e ++ fault_where (not (is_target a.scope e)) (bad_type (place_of e))

-- `=` wants a value of the target's type; the other operators want numbers
abbrev pub assigned_faults : ExprContext → AssignOperator → ExprTree → ExprTree → List Fault
assigned_faults a operator.Set e f = faults_as a (OfType (static a.scope e)) f
assigned_faults a operator.Add e f = wrong a.scope AnInt e ++ faults_as a AnInt f
assigned_faults a operator.Subtract e f = wrong a.scope AnInt e ++ faults_as a AnInt f
assigned_faults a operator.Multiply e f = wrong a.scope AnInt e ++ faults_as a AnInt f

-- what stands alone is a call or a `new`
abbrev pub may_stand_alone : Scope → ExprTree → Bool
may_stand_alone s (CallOf p f es) = not (is_question (callee s f))
may_stand_alone s (NewOf p n es) = true
may_stand_alone s (NewArrayOf p q t e) = true
may_stand_alone s e = false

abbrev pub simple_faults : ExprContext → tree.SimpleTree → List Fault
simple_faults a (tree.AssignOf e o f) = target_faults a e ++ assigned_faults a o e f
simple_faults a (tree.StepOf e o) = target_faults a e ++ wrong a.scope AnInt e
simple_faults a (tree.AloneOf e) = faults a AsValue e ++ fault_where (not (may_stand_alone a.scope e)) (bad_type (place_of e))

-- ---- `for`

abbrev pub init_faults : Body → Scope → Option tree.ForInitTree → List Fault
init_faults b s None = []
init_faults b s (Some (tree.DeclareFirst d)) = declaration_faults b s d
init_faults b s (Some (tree.SimpleFirst x)) = simple_faults (in_code b s) x

abbrev pub test_faults : Body → Scope → Option ExprTree → List Fault
test_faults b s None = []
test_faults b s (Some e) = test b s e

abbrev pub step_faults : Body → Scope → Option tree.SimpleTree → List Fault
step_faults b s None = []
step_faults b s (Some x) = simple_faults (in_code b s) x

-- ---- `return` and `expose`

-- a value exactly where the body gives one
abbrev pub return_faults : Body → Scope → Place → Option ExprTree → List Fault
return_faults b s p e = returned b.outcome e
  where
    returned : Outcome → Option ExprTree → List Fault
    returned Nothing None = []
    returned Nothing (Some e) = faults (in_code b s) AsValue e ++ bad_type (place_within e) ∷ []
    returned (Gives t) None = bad_type p ∷ []
    returned (Gives t) (Some e) = faults_as (in_code b s) (OfType t) e

-- without `at` an object of a declared class is exposed, with it one of the class that is named or of one below
abbrev pub exposed_want : List ClassTree → Option NameTree → Want
exposed_want cs None = OfDeclared
exposed_want cs (Some n) = named_want (class_named cs n.text)
  where
    named_want : Option ℕ → Want
    named_want None = AnyValue
    named_want (Some k) = OfClass (class_number k)

-- ---- statements

abbrev mutual
  pub stmt_faults : Body → Scope → tree.StmtTree → List Fault
  stmt_faults b s (tree.InBlock x) = block_faults b s x
  stmt_faults b s (tree.DeclareOf d) = declaration_faults b s d
  stmt_faults b s (tree.SimpleOf x) = simple_faults (in_code b s) x
  stmt_faults b s (tree.IfOf p e x) = test b s e ++ stmt_faults b (enter s) x
  stmt_faults b s (tree.IfElseOf p e x y) = test b s e ++ stmt_faults b (enter s) x ++ stmt_faults b (enter s) y
  stmt_faults b s (tree.WhileOf p e es x) = test b s e ++ conditions b s es ++ stmt_faults b (enter s) x
  stmt_faults b s (tree.ForOf p i e x es y) =
      init_faults b (enter s) i ++ test_faults b (after_init (enter s) i) e ++ step_faults b (after_init (enter s) i) x
      ++ conditions b (after_init (enter s) i) es ++ stmt_faults b (enter (after_init (enter s) i)) y
  stmt_faults b s (tree.ReturnOf p e) = return_faults b s p e
  stmt_faults b s (tree.AssertOf p e) = condition b s e
  stmt_faults b s (tree.AssumeOf p e) = condition b s e
  stmt_faults b s (tree.ExposeOf p e n x) = faults_as (in_code b s) (exposed_want s.classes n) e ++ block_faults b s x
  stmt_faults b s (tree.EmptyOf p) = []

  pub block_faults : Body → Scope → tree.BlockTree → List Fault
  block_faults b s (tree.BlockOf p xs q) = stmts_faults b (enter s) xs

  pub stmts_faults : Body → Scope → tree.StmtTrees → List Fault
  stmts_faults b s tree.NoMore = []
  stmts_faults b s (tree.Before x xs) = stmt_faults b s x ++ stmts_faults b (behind s x) xs
