-- What surrounds statements, as the values of the code hold it.
use Rattle.std.specs.Prelude.{◌&&◌, not, Bool, true, false, List, ◌++◌, ℕ, ◌||◌, Option, Some, None, is_none, is_some, option_and_then, option_map}
use Rattle.ss_ast.specs.declared.stmt.AssignOperator.{AssignOperator}
use Rattle.ss_ast.specs.declared.stmt.AssignOperator.TheVariants as operator
use Rattle.ss_core.specs.declared.names.Place.{Place}
use Rattle.ss_ast.specs.Expressions.{NameTree, ExprTree, Arguments, CallOf, BaseOf}
use Rattle.ss_ast.specs.Statements.{SimpleTree, ForInitTree, StmtTree, BlockTree}
use Rattle.ss_ast.specs.Programs.{ClauseTree, BaseCallTree, ClassTree}
use Rattle.ss_tables.specs.Words.{is_state_word}
use Rattle.ss_tables.specs.Types.{class_of}
use Rattle.ss_tables.specs.Scopes.{Scope, local_named, enter, after_init}
use Rattle.ss_tables_lookup.specs.Views.{type_of}
use Rattle.ss_faults.specs.declared.Fault.{Fault}
use Rattle.ss_resolver_types_heads.specs.declared.heads.Form.TheVariants as form
use Rattle.ss_resolver_types.specs.declared.body.Outcome.{Outcome as CodeOutcome}
use Rattle.ss_resolver_types.specs.declared.body.Outcome.TheVariants as outcome
use Rattle.ss_resolver_types.specs.declared.body.Body.{Body as CodeBody}
use Rattle.ss_resolver_types_heads.specs.Wants.{AnInt, OfType, Known, misfit}
use Rattle.ss_resolver_types_heads.specs.Calls.{ExprContext}
use Rattle.ss_resolver_types_heads.specs.Expressions.{faults_as}
use Rattle.ss_resolver_types_expressions.specs.Statements.{Outcome, Nothing, Gives, Body, is_length_of, conditions, init_faults, test_faults, step_faults, stmt_faults}
use Rattle.ss_resolver_types_expressions.specs.Members.{written_base, implied_base, block_calls_base, clauses_faults, constructor_body, constructor_block}
use Rattle.ss_resolver_types_heads.specs.Heads.{Head, ABareName, ABaseWord, AMember, AValueOf}

abbrev pub outcome_of : CodeOutcome → Outcome
outcome_of outcome.Nothing = Nothing
outcome_of (outcome.Gives t) = Gives (option_map type_of t)

abbrev pub body_of : CodeBody → Body
body_of b = record { is_static = b.is_static; outcome = outcome_of b.outcome }

-- ---- what may be done with an expression that ends like this

-- it may be assigned
abbrev pub target_at : Head → Bool
target_at (ABareName p n) = true
target_at (ABaseWord p) = false
target_at (AMember p r v n) = not (is_state_word n.text) && not (is_length_of n.text (option_and_then class_of v.ty))
target_at (AValueOf form.Element v) = true
target_at (AValueOf (form.Call b) v) = false
target_at (AValueOf form.New v) = false
target_at (AValueOf form.Other v) = false

-- it may stand alone
abbrev pub alone_at : Head → Bool
alone_at (ABareName p n) = false
alone_at (ABaseWord p) = false
alone_at (AMember p r v n) = false
alone_at (AValueOf form.Element v) = false
alone_at (AValueOf (form.Call b) v) = not b
alone_at (AValueOf form.New v) = true
alone_at (AValueOf form.Other v) = false

-- it is a field that `modifies` may name
abbrev pub field_term_at : Scope → Head → Bool
field_term_at s (ABareName p n) = is_none (local_named s n)
field_term_at s (ABaseWord p) = false
field_term_at s (AMember p r v n) = target_at (AMember p r v n)
field_term_at s (AValueOf f v) = false

-- what is assigned, to a target of which as much is known
abbrev pub assigned_at : ExprContext → AssignOperator → Known → ExprTree → List Fault
assigned_at a operator.Set v f = faults_as a (OfType v.ty) f
assigned_at a operator.Add v f = misfit a.scope.classes AnInt v ++ faults_as a AnInt f
assigned_at a operator.Subtract v f = misfit a.scope.classes AnInt v ++ faults_as a AnInt f
assigned_at a operator.Multiply v f = misfit a.scope.classes AnInt v ++ faults_as a AnInt f

-- ---- `for`

-- the test, the step and the invariants
abbrev pub heading_faults : Body → Scope → Option ExprTree → Option SimpleTree → List ExprTree → List Fault
heading_faults b s e x es = test_faults b s e ++ step_faults b s x ++ conditions b s es

-- the whole, in the scope of its heading
abbrev pub for_faults : Body → Scope → Option ForInitTree → Option ExprTree → Option SimpleTree → List ExprTree → StmtTree → List Fault
for_faults b s i e x es y =
    init_faults b s i ++ test_faults b (after_init s i) e ++ step_faults b (after_init s i) x ++ conditions b (after_init s i) es
    ++ stmt_faults b (enter (after_init s i)) y

-- ---- `base(..)`

abbrev pub is_base : ExprTree → Bool
is_base (BaseOf p) = true
is_base e = false

-- the arguments of `base(..)`, with its place
abbrev pub base_arguments : ExprTree → Option (Place × Arguments)
base_arguments (CallOf p (BaseOf q) es) = Some (p, es)
base_arguments e = None

-- ---- constructors

-- what calls the constructor of the class above
abbrev pub bases_faults : List ClassTree → ℕ → Scope → NameTree → Option BaseCallTree → BlockTree → List Fault
bases_faults cs k s n base x = written_base k s base ++ implied_base cs k (is_some base || block_calls_base x) n.place

-- the contract and the body
abbrev pub built_faults : ℕ → Scope → Option BaseCallTree → List ClauseTree → BlockTree → List Fault
built_faults k s base clauses x = clauses_faults constructor_body s clauses ++ constructor_block k s (is_none base) x
