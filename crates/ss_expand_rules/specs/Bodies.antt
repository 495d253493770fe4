-- Bodies of the core program: written ones, and wrappers.
use Rattle.std.specs.Prelude.{ℕ, ◌+◌, List, [], ◌∷◌, ◌++◌, map, length, codes, decimal, Bool, true, false, if◌then◌else◌, Option, Some, None}
use Rattle.ss_core.specs.declared.names.Place.{Place}
use Rattle.ss_core.specs.declared.names.Ty.{Ty}
use Rattle.ss_core.specs.declared.body.BodyFlags.{BodyFlags}
use Rattle.ss_core.specs.Tree as core
use Rattle.ss_core.specs.Tree.{LocalExpr, Base, AssignStmt, CallStmt, UnpackStmt, PackStmt, ReturnStmt, LocalTree}
use Rattle.ss_core.specs.View.{code_of}
use Rattle.ss_typed.specs.declared.body.TypedFlags.{TypedFlags}
use Rattle.ss_typed.specs.Tree.{BlockTree, ReturnOf, StmtTrees, ParamTree, BodyTree, TypedTree}
use Rattle.ss_typed.specs.Tree as typed
use Rattle.ss_typed.specs.Types.{class_type}
use Rattle.ss_typed.specs.Assigned.{assigned_in}
use Rattle.ss_paths.specs.Sets.{among}
use Rattle.ss_expand_rules.specs.Program.{above_of, number_in_table}
use Rattle.ss_expand_rules.specs.Numbers.{Numbers, uncopied}
use Rattle.ss_expand_rules.specs.Lifting.{ElaborationContext}
use Rattle.ss_expand_rules.specs.Code.{Coded}
use Rattle.ss_expand_rules.specs.Statements.{stmts}
use Rattle.ss_expand_rules.specs.Constructors.{before_all, constructor_stmts}
use Rattle.ss_typed.specs.Shapes.{closing_brace, in_block}
use Rattle.ss_expand_rules.specs.Contracts.{first_param, entry_conditions, exit_conditions, named_terms}

-- ---- which parameters a body assigns, in statements that are dropped too

abbrev pub block_assigns : ℕ → BlockTree → Bool
block_assigns x b = among (assigned_in b) x

-- the parameters that the block assigns; the first has the number x
abbrev pub assigned_from : BlockTree → ℕ → List ParamTree → List ParamTree
assigned_from b x [] = []
assigned_from b x (q ∷ qs) = if block_assigns x b then q ∷ assigned_from b (x + 1) qs else assigned_from b (x + 1) qs

abbrev pub assigned_params : BodyTree → List ParamTree
assigned_params b = assigned_from b.block (first_param b) b.params

-- ---- numbers

-- what these parameters are meant by, of which the first has the number x; the next copy has the number `copy`
abbrev pub meant_from : BlockTree → ℕ → ℕ → List ParamTree → List ℕ
meant_from b copy x [] = []
meant_from b copy x (q ∷ qs) = if block_assigns x b then copy ∷ meant_from b (copy + 1) (x + 1) qs else x ∷ meant_from b copy (x + 1) qs

-- `this` is never assigned
abbrev pub this_meant : BodyTree → List ℕ
this_meant b = if b.flags.is_static then [] else 0 ∷ []

abbrev pub first_copy : BodyTree → ℕ
first_copy b = first_param b + length b.params + length b.locals

abbrev pub meant : BodyTree → List ℕ
meant b = this_meant b ++ meant_from b.block (first_copy b) (first_param b) b.params

abbrev pub results : Option Ty → ℕ
results None = 0
results (Some t) = 1

abbrev pub numbers_from : List ℕ → ℕ → ℕ → Option Ty → Numbers
numbers_from meant first temporaries result = record {
  meant = meant;
  first_temporary = first;
  outcome = first + temporaries;
  first_bound = first + temporaries + results result;
}

-- of a body with so many temporaries
abbrev pub numbers : BodyTree → ℕ → Numbers
numbers b temporaries = numbers_from (meant b) (first_copy b + length (assigned_params b)) temporaries b.result

-- ---- locals

abbrev pub param_of : ParamTree → LocalTree
param_of q = record { name = q.name; ty = q.ty; captured = q.captured }

-- a copy has the name and the type of its parameter
abbrev pub copy_of : ParamTree → LocalTree
copy_of q = record { name = q.name; ty = q.ty; captured = false }

abbrev pub copies : BodyTree → List LocalTree
copies b = map copy_of (assigned_params b)

-- temporaries are named t0, t1 and so on
abbrev pub temporary_of : ℕ → Ty → LocalTree
temporary_of i t = record { name = codes "t" ++ decimal i; ty = t; captured = false }

abbrev pub temporaries_from : ℕ → List Ty → List LocalTree
temporaries_from i [] = []
temporaries_from i (t ∷ ts) = temporary_of i t ∷ temporaries_from (i + 1) ts

-- ---- code

-- Copied parameters: each assigned one is copied at the beginning.
abbrev pub copying_from : BlockTree → ℕ → ℕ → List ParamTree → List core.StmtTree
copying_from b copy x [] = []
copying_from b copy x (q ∷ qs) =
    if block_assigns x b then AssignStmt q.place copy (LocalExpr q.place x) ∷ copying_from b (copy + 1) (x + 1) qs
    else copying_from b copy (x + 1) qs

abbrev pub copying : BodyTree → List core.StmtTree
copying b = copying_from b.block (first_copy b) (first_param b) b.params

-- Added return: a body without a result returns at its closing brace.
abbrev pub with_return : BodyTree → Option Ty → StmtTrees → StmtTrees
with_return b None ss = before_all ss (typed.Before (ReturnOf (closing_brace b.block) None) typed.NoMore)
with_return b (Some t) ss = ss

abbrev pub statements : TypedTree → BodyTree → StmtTrees
statements p b = with_return b b.result (if b.flags.ctor then constructor_stmts p b else in_block b.block)

abbrev pub elaboration_context : TypedTree → BodyTree → ℕ → ElaborationContext
elaboration_context p b temporaries = record { program = p; body = b; numbers = numbers b temporaries; exposes = [] }

abbrev pub code_with : TypedTree → BodyTree → ℕ → Coded
code_with p b temporaries = stmts (elaboration_context p b temporaries) (statements p b) []

-- The names of quantifiers come after all temporaries, so these are counted first; how many there are doesn't depend on it.
abbrev pub temporary_types : TypedTree → BodyTree → List Ty
temporary_types p b = (code_with p b 0).made

abbrev pub temporary_count : TypedTree → BodyTree → ℕ
temporary_count p b = length (temporary_types p b)

abbrev pub code : TypedTree → BodyTree → List core.StmtTree
code p b = copying b ++ (code_with p b (temporary_count p b)).code

-- ---- bodies

abbrev pub core_flags : TypedFlags → BodyFlags
core_flags f = record { is_static = f.is_static; pure = f.pure; ctor = f.ctor; delayed = f.delayed; wrapper = false }

-- the numbers in its contract
abbrev pub contract_numbers : TypedTree → BodyTree → Numbers
contract_numbers p b = uncopied (numbers b (temporary_count p b))

-- a constructor, or a method with these declarations in its class and those above
abbrev pub written_body : TypedTree → BodyTree → List BodyTree → core.BodyTree
written_body p b bs = record {
  class = b.class;
  name = b.name;
  params = map param_of b.params;
  locals = b.locals ++ copies b ++ temporaries_from 0 (temporary_types p b);
  result = b.result;
  entry = entry_conditions (contract_numbers p b) b.place b b.class bs;
  exit = exit_conditions (contract_numbers p b) b.place b b.class bs;
  named = named_terms (contract_numbers p b) b.place b b.class bs;
  flags = core_flags b.flags;
  code = code_of (code p b);
  place = b.place;
}

-- ---- wrappers

abbrev pub wrapper_flags : BodyFlags
wrapper_flags = record { is_static = false; pure = false; ctor = false; delayed = false; wrapper = true }

-- the parameters from number x on
abbrev pub own_params : Place → ℕ → List ParamTree → List core.ExprTree
own_params p x [] = []
own_params p x (q ∷ qs) = LocalExpr p x ∷ own_params p (x + 1) qs

-- the object, and the result where there is one
abbrev pub wrapper_types : ℕ → Option Ty → List Ty
wrapper_types t None = class_type t false ∷ []
wrapper_types t (Some result) = class_type t false ∷ result ∷ []

abbrev pub wrapper_result : Option Ty → ℕ → Option ℕ
wrapper_result None x = None
wrapper_result (Some t) x = Some x

abbrev pub returned : Place → Option ℕ → Option core.ExprTree
returned p None = None
returned p (Some x) = Some (LocalExpr p x)

-- `expose (this at D) { base.M(args); }`, with `return base.M(args)` where there is a result; x is the first temporary
abbrev pub wrapper_code : Place → ℕ → ℕ → ℕ → List core.ExprTree → Option ℕ → List core.StmtTree
wrapper_code p t n x args result =
    AssignStmt p x (LocalExpr p 0) ∷ UnpackStmt p x t ∷ CallStmt p result (Base n) args ∷ PackStmt p x t ∷ ReturnStmt p (returned p result) ∷ []

abbrev pub first_of_wrapper : BodyTree → ℕ
first_of_wrapper b = 1 + length b.params

abbrev pub wrapper_numbers : BodyTree → ℕ → Numbers
wrapper_numbers b t = numbers_from [] (first_of_wrapper b) (length (wrapper_types t b.result)) b.result

-- Wrappers: the class t, whose name stands at place p, inherits the method b, which stands at place m of its table.
abbrev pub wrapper_body : TypedTree → Place → ℕ → ℕ → BodyTree → List BodyTree → core.BodyTree
wrapper_body program p t m b bs = record {
  class = t;
  name = b.name;
  params = map param_of b.params;
  locals = temporaries_from 0 (wrapper_types t b.result);
  result = b.result;
  entry = entry_conditions (wrapper_numbers b t) p b t bs;
  exit = exit_conditions (wrapper_numbers b t) p b t bs;
  named = named_terms (wrapper_numbers b t) p b t bs;
  flags = wrapper_flags;
  code = code_of (wrapper_code p t (number_in_table program (above_of program t) m) (first_of_wrapper b) (own_params p 1 b.params) (wrapper_result b.result (first_of_wrapper b + 1)));
  place = p;
}
