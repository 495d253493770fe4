-- Which faults of types stand in a member of a class.
use Rattle.std.specs.Prelude.{ℕ, ◌&&◌, ◌||◌, not, Bool, true, false, List, [], ◌∷◌, ◌++◌, map, drop, Option, Some, None, is_some, is_none}
use Rattle.std.specs.Str.{bytes_eq}
use Rattle.ss_core.specs.declared.names.Place.{Place}
use Rattle.ss_core.specs.declared.names.Ty.{Ty}
use Rattle.ss_ast.specs.declared.class.Modifier.{Modifier}
use Rattle.ss_ast.specs.Expressions.{NameTree, TypeTree, ExprTree, Arguments, arguments, MemberOf, CallOf, ThisOf, ParenOf, BaseOf, NameOf}
use Rattle.ss_ast.specs.Statements as tree
use Rattle.ss_ast.specs.Programs as ast
use Rattle.ss_ast.specs.Programs.{ParamTree, ClassTree}
use Rattle.ss_tables.specs.Members.{field_in, is_static_word, word_of}
use Rattle.ss_tables.specs.Classes.{members_at}
use Rattle.ss_tables.specs.Types.{written_type}
use Rattle.ss_tables.specs.Scopes.{Scope, local_named, class_scope, declare_params, param_scope, enter, behind}
use Rattle.ss_tables.specs.Statics.{count}
use Rattle.ss_faults.specs.declared.Fault.{Fault}
use Rattle.ss_resolver_types_heads.specs.Faults.{bad_type, no_return, fault_where}
use Rattle.ss_resolver_types_heads.specs.Wants.{ABool, AnArray, OfClass, place_of}
use Rattle.ss_resolver_types_heads.specs.Calls.{ExprContext, Taking, base_wants, takes_nothing, argument_wants, whole_call}
use Rattle.ss_resolver_types_heads.specs.Expressions.{AsValue, faults, faults_as, argument_faults, mark_faults}
use Rattle.ss_resolver_types_expressions.specs.Ends.{block_reaches_end}
use Rattle.ss_resolver_types_expressions.specs.Statements.{Outcome, Nothing, Gives, Body, in_code, is_target, initial_faults, stmt_faults, block_faults}

-- ---- words

-- a method has at most one of the words `static`, `virtual` and `override`, any other member none
abbrev pub allowed_words : ast.MemberKindTree → ℕ
allowed_words (ast.MethodOf r n ps cs b) = 1
allowed_words (ast.FieldsOf d) = 0
allowed_words (ast.InvariantOf e) = 0
allowed_words (ast.ConstructorOf n ps base cs b) = 0

-- each word past these
abbrev pub surplus_words : ast.MemberTree → List Fault
surplus_words m = map (λ (w : Modifier). bad_type w.place) (drop (allowed_words m.kind) m.modifiers)

-- ---- contracts

-- a bare name in `modifies` means a field, not a local
abbrev pub is_field_term : Scope → ExprTree → Bool
is_field_term s (NameOf p n) = is_none (local_named s n)
is_field_term s (MemberOf p e n) = is_target s (MemberOf p e n)
is_field_term s e = false

-- all fields of an object, which null isn't; all elements of an array; or a field
abbrev pub term_faults : ExprContext → ast.ModifiedTree → List Fault
term_faults a (ast.AllOf e) = faults_as a (OfClass 0) e
term_faults a (ast.ElementsOf e) = faults_as a AnArray e
term_faults a (ast.OneOf e) = faults a AsValue e ++ fault_where (not (is_field_term a.scope e)) (bad_type (place_of e))

abbrev pub terms_faults : ExprContext → List ast.ModifiedTree → List Fault
terms_faults a [] = []
terms_faults a (m ∷ ms) = term_faults a m ++ terms_faults a ms

abbrev pub type_of_result : Outcome → Option Ty
type_of_result Nothing = None
type_of_result (Gives t) = t

abbrev pub gives_none : Outcome → Bool
gives_none Nothing = true
gives_none (Gives t) = false

-- every clause is a condition; where a body has no result, `result` is a fault of types in `ensures` alone
abbrev pub before : Body → Scope → ExprContext
before b s = record { scope = s; is_static = b.is_static; in_condition = true; lacks_result = false }

abbrev pub after : Body → Scope → ExprContext
after b s = record { scope = s; is_static = b.is_static; in_condition = true; lacks_result = gives_none b.outcome }

abbrev pub clause_faults : Body → Scope → ast.ClauseTree → List Fault
clause_faults b s (ast.RequiresOf e) = faults_as (before b s) ABool e
clause_faults b s (ast.EnsuresOf e) = faults_as (after b s) ABool e
clause_faults b s (ast.ModifiesOf ms) = terms_faults (before b s) ms

abbrev pub clauses_faults : Body → Scope → List ast.ClauseTree → List Fault
clauses_faults b s [] = []
clauses_faults b s (c ∷ cs) = clause_faults b s c ++ clauses_faults b s cs

abbrev pub params_faults : List ParamTree → List Fault
params_faults [] = []
params_faults (p ∷ ps) = mark_faults p.ty ++ params_faults ps

-- ---- methods

abbrev pub outcome_of : List ClassTree → Option TypeTree → Outcome
outcome_of cs None = Nothing
outcome_of cs (Some t) = Gives (written_type cs t)

abbrev pub result_faults : Option TypeTree → List Fault
result_faults None = []
result_faults (Some t) = mark_faults t

abbrev pub closing_brace : tree.BlockTree → Place
closing_brace (tree.BlockOf p ss q) = q

-- a body with a result doesn't reach its end
abbrev pub end_faults : Option TypeTree → tree.BlockTree → List Fault
end_faults r x = fault_where (is_some r && block_reaches_end x) (no_return (closing_brace x))

abbrev pub method_body : List ClassTree → List Modifier → Option TypeTree → Body
method_body cs words r = record { is_static = is_static_word (word_of words); outcome = outcome_of cs r }

-- the parameters are in scope in the contract and in the body, and `result` has its type
abbrev pub method_scope : List ClassTree → ℕ → Body → List ParamTree → Scope
method_scope cs k b ps =
    declare_params (record (class_scope cs k) { refuses_members = b.is_static; refuses_this = b.is_static; outcome = type_of_result b.outcome }) ps

abbrev pub method_faults : List ClassTree → ℕ → Body → Option TypeTree → List ParamTree → List ast.ClauseTree → tree.BlockTree → List Fault
method_faults cs k b r ps clauses x =
    result_faults r ++ params_faults ps ++ clauses_faults b (method_scope cs k b ps) clauses
    ++ block_faults b (method_scope cs k b ps) x ++ end_faults r x

-- ---- constructors

abbrev pub constructor_body : Body
constructor_body = record { is_static = false; outcome = Nothing }

-- the arguments of `base(..)`, which stands at this place
abbrev pub base_faults : ℕ → Scope → Place → Arguments → List Fault
base_faults k s p es =
    whole_call p (count es) (Taking (base_wants s.classes k))
    ++ argument_faults (in_code constructor_body s) (argument_wants (count es) (Taking (base_wants s.classes k))) es

-- the arguments of a statement `base(..)`, with its place
abbrev pub base_call : tree.StmtTree → Option (Place × Arguments)
base_call (tree.SimpleOf (tree.AloneOf (CallOf p (BaseOf q) es))) = Some (p, es)
base_call x = None

abbrev pub is_this : ExprTree → Bool
is_this (ThisOf p) = true
is_this (ParenOf p e) = is_this e
is_this e = false

abbrev pub has_field : List ClassTree → ℕ → List ℕ → Bool
has_field cs k n = is_some (field_in (members_at cs k) n)

-- a field that the class itself declares, as `f` or `this.f`
abbrev pub is_own_field : ℕ → Scope → ExprTree → Bool
is_own_field k s (NameOf p n) = is_none (local_named s n) && has_field s.classes k n
is_own_field k s (MemberOf p e n) = is_this e && has_field s.classes k n.text
is_own_field k s e = false

-- an assignment to such a field, by any operator
abbrev pub is_first_assignment : ℕ → Scope → tree.StmtTree → Bool
is_first_assignment k s (tree.SimpleOf (tree.AssignOf e o f)) = is_own_field k s e
is_first_assignment k s (tree.SimpleOf (tree.StepOf e o)) = is_own_field k s e
is_first_assignment k s x = false

-- a statement, where `base(..)` may stand, or not
abbrev pub outermost_faults : ℕ → Scope → tree.StmtTree → Bool → Option (Place × Arguments) → List Fault
outermost_faults k s x true (Some call) = base_faults k s call.0 call.1
outermost_faults k s x true None = stmt_faults constructor_body s x
outermost_faults k s x false call = stmt_faults constructor_body s x

-- `base(..)` stands in the outermost block, with nothing before it but such assignments
abbrev pub constructor_stmts : ℕ → Scope → Bool → tree.StmtTrees → List Fault
constructor_stmts k s may tree.NoMore = []
constructor_stmts k s may (tree.Before x xs) =
    outermost_faults k s x may (base_call x) ++ constructor_stmts k (behind s x) (may && is_first_assignment k s x) xs

abbrev pub constructor_block : ℕ → Scope → Bool → tree.BlockTree → List Fault
constructor_block k s may (tree.BlockOf p xs q) = constructor_stmts k (enter s) may xs

abbrev pub calls_base : tree.StmtTrees → Bool
calls_base tree.NoMore = false
calls_base (tree.Before x xs) = is_some (base_call x) || calls_base xs

abbrev pub block_calls_base : tree.BlockTree → Bool
block_calls_base (tree.BlockOf p xs q) = calls_base xs

-- where no `base(..)` is written, the constructor of the class above is called without arguments, at this place
abbrev pub implied_base : List ClassTree → ℕ → Bool → Place → List Fault
implied_base cs k is_written p = fault_where (not is_written && not (takes_nothing (base_wants cs k))) (bad_type p)

abbrev pub written_base : ℕ → Scope → Option ast.BaseCallTree → List Fault
written_base k s None = []
written_base k s (Some b) = base_faults k s b.place (arguments b.arguments)

-- a constructor has its class's name
abbrev pub title_faults : ClassTree → NameTree → List Fault
title_faults c n = fault_where (not (bytes_eq n.text c.name.text)) (bad_type n.place)

abbrev pub constructor_faults : List ClassTree → ℕ → ClassTree → NameTree → List ParamTree → Option ast.BaseCallTree → List ast.ClauseTree → tree.BlockTree → List Fault
constructor_faults cs k c n ps base clauses x =
    title_faults c n ++ params_faults ps ++ written_base k (param_scope cs k ps) base
    ++ implied_base cs k (is_some base || block_calls_base x) n.place
    ++ clauses_faults constructor_body (param_scope cs k ps) clauses ++ constructor_block k (param_scope cs k ps) (is_none base) x

-- ---- members

-- a field and an invariant stand outside every body
abbrev pub in_class : List ClassTree → ℕ → Bool → ExprContext
in_class cs k is_condition = record { scope = class_scope cs k; is_static = false; in_condition = is_condition; lacks_result = false }

abbrev pub fields_faults : ExprContext → TypeTree → List tree.DeclaratorTree → List Fault
fields_faults a t [] = []
fields_faults a t (d ∷ ds) = initial_faults a t d.initial ++ fields_faults a t ds

abbrev pub kind_faults : List ClassTree → ℕ → ClassTree → List Modifier → ast.MemberKindTree → List Fault
kind_faults cs k c words (ast.FieldsOf d) = mark_faults d.ty ++ fields_faults (in_class cs k false) d.ty d.declarators
kind_faults cs k c words (ast.InvariantOf e) = faults_as (in_class cs k true) ABool e
kind_faults cs k c words (ast.MethodOf r n ps clauses x) = method_faults cs k (method_body cs words r) r ps clauses x
kind_faults cs k c words (ast.ConstructorOf n ps base clauses x) = constructor_faults cs k c n ps base clauses x

abbrev pub member_faults : List ClassTree → ℕ → ClassTree → ast.MemberTree → List Fault
member_faults cs k c m = surplus_words m ++ kind_faults cs k c m.modifiers m.kind
