-- Faults of the members of a class.
use Rattle.std.specs.Prelude.{ℕ, ◌&&◌, not, Bool, true, false, List, [], ◌∷◌, ◌++◌, map, Option, Some, None, codes, if◌then◌else◌}
use Rattle.std.specs.Str.{bytes_eq}
use Rattle.ss_core.specs.declared.names.Ty.{Ty}
use Rattle.ss_ast.specs.declared.class.Modifier.{Modifier}
use Rattle.ss_ast.specs.Expressions.{NameTree, TypeNameTree, IntType, BoolType, ObjectType, ClassType, TypeTree, ExprTree}
use Rattle.ss_ast.specs.Statements.{DeclaratorTree, BlockTree}
use Rattle.ss_ast.specs.Programs.{ParamTree, ModifiedTree, AllOf, ElementsOf, OneOf, ClauseTree, RequiresOf, EnsuresOf, ModifiesOf, BaseCallTree, MemberKindTree, FieldsOf, InvariantOf, MethodOf, ConstructorOf, MemberTree, ClassTree}
use Rattle.ss_tables.specs.Members.{MethodTree, ConstructorTree, is_static_word, word_of, is_override, is_open, has_attribute}
use Rattle.ss_tables.specs.Classes.{Declared, inherited_method}
use Rattle.ss_tables.specs.Types.{written_type}
use Rattle.ss_tables.specs.Scopes.{Scope, declare, declare_params}
use Rattle.ss_tables.specs.Statics.{result_type}
use Rattle.ss_core.specs.declared.rules.Rule.{Rule}
use Rattle.ss_core.specs.declared.rules.Rule.TheVariants as rule
use Rattle.ss_resolver_names_rules.specs.Faults.{Faults, fault, unless, twice_in, type_faults}
use Rattle.ss_resolver_names_rules.specs.Expressions.{expr_faults}
use Rattle.ss_resolver_names_rules.specs.Statements.{faults_of_all, faults_of_any, block_faults}

-- ---- parameters, contracts and bodies

abbrev pub params_faults : Scope → List ParamTree → Faults
params_faults s [] = []
params_faults s (p ∷ ps) =
    type_faults s.classes p.ty ++ twice_in s.inner p.name
    ++ params_faults (declare s p.name.text (record { ty = written_type s.classes p.ty; is_param = true })) ps

abbrev pub modified_expr : ModifiedTree → ExprTree
modified_expr (AllOf e) = e
modified_expr (ElementsOf e) = e
modified_expr (OneOf e) = e

abbrev pub modified_faults : Scope → List ModifiedTree → Faults
modified_faults s [] = []
modified_faults s (m ∷ ms) = expr_faults s (modified_expr m) ++ modified_faults s ms

abbrev pub clause_faults : Scope → ClauseTree → Faults
clause_faults s (RequiresOf e) = expr_faults s e
clause_faults s (EnsuresOf e) = expr_faults s e
clause_faults s (ModifiesOf ms) = modified_faults s ms

abbrev pub clauses_faults : Scope → List ClauseTree → Faults
clauses_faults s [] = []
clauses_faults s (c ∷ cs) = clause_faults s c ++ clauses_faults s cs

abbrev pub written_type_faults : List ClassTree → Option TypeTree → Faults
written_type_faults cs None = []
written_type_faults cs (Some t) = type_faults cs t

abbrev pub base_faults : Scope → Option BaseCallTree → Faults
base_faults s None = []
base_faults s (Some b) = faults_of_all s b.arguments

abbrev pub initials_faults : Scope → List DeclaratorTree → Faults
initials_faults s [] = []
initials_faults s (d ∷ ds) = faults_of_any s d.initial ++ initials_faults s ds

-- in a method, static or not, where `result` has this type
abbrev pub in_method : Scope → Bool → Option Ty → Scope
in_method s static t = record s { refuses_members = static; outcome = t }

-- the parameters are in scope in the contract, in `: base(..)` and in the body
abbrev pub body_faults : Scope → List ParamTree → Option BaseCallTree → List ClauseTree → BlockTree → Faults
body_faults s ps base cs b =
    params_faults s ps ++ base_faults (declare_params s ps) base
    ++ clauses_faults (declare_params s ps) cs ++ block_faults (declare_params s ps) b

-- a member of this kind with these words before it
abbrev pub kind_faults : Scope → List Modifier → MemberKindTree → Faults
kind_faults s words (FieldsOf d) = type_faults s.classes d.ty ++ initials_faults s d.declarators
kind_faults s words (InvariantOf e) = expr_faults s e
kind_faults s words (MethodOf r n ps cs b) =
    written_type_faults s.classes r ++ body_faults (in_method s (is_static_word (word_of words)) (result_type s.classes r)) ps None cs b
kind_faults s words (ConstructorOf n ps base cs b) = body_faults s ps base cs b

abbrev pub members_faults : Scope → List MemberTree → Faults
members_faults s [] = []
members_faults s (m ∷ ms) = kind_faults s m.modifiers m.kind ++ members_faults s ms

-- ---- names of members: fields and methods share them, and a class has one constructor

abbrev pub declarator_names : List DeclaratorTree → List NameTree
declarator_names ds = map (λ (d : DeclaratorTree). d.name) ds

abbrev pub kind_names : MemberKindTree → List NameTree
kind_names (FieldsOf d) = declarator_names d.declarators
kind_names (MethodOf r n ps cs b) = n ∷ []
kind_names (InvariantOf e) = []
kind_names (ConstructorOf n ps base cs b) = []

abbrev pub member_names : List MemberTree → List NameTree
member_names [] = []
member_names (m ∷ ms) = kind_names m.kind ++ member_names ms

abbrev pub faults_at : Rule → List NameTree → Faults
faults_at r [] = []
faults_at r (n ∷ ns) = fault r n.place ++ faults_at r ns

-- each constructor but the first
abbrev pub constructor_faults : List ConstructorTree → Faults
constructor_faults [] = []
constructor_faults (c ∷ cs) = faults_at rule.Twice (map (λ (d : ConstructorTree). d.name) cs)

-- ---- overrides

-- types as they are written, `!` aside
abbrev pub same_type_name : TypeNameTree → TypeNameTree → Bool
same_type_name IntType IntType = true
same_type_name BoolType BoolType = true
same_type_name ObjectType ObjectType = true
same_type_name (ClassType m) (ClassType n) = bytes_eq m n
same_type_name IntType BoolType = false
same_type_name IntType ObjectType = false
same_type_name IntType (ClassType n) = false
same_type_name BoolType IntType = false
same_type_name BoolType ObjectType = false
same_type_name BoolType (ClassType n) = false
same_type_name ObjectType IntType = false
same_type_name ObjectType BoolType = false
same_type_name ObjectType (ClassType n) = false
same_type_name (ClassType m) IntType = false
same_type_name (ClassType m) BoolType = false
same_type_name (ClassType m) ObjectType = false

abbrev pub agree : Bool → Bool → Bool
agree true b = b
agree false b = not b

abbrev pub same_type : TypeTree → TypeTree → Bool
same_type t u = same_type_name t.name u.name && agree t.is_array u.is_array

abbrev pub same_result : Option TypeTree → Option TypeTree → Bool
same_result None None = true
same_result (Some t) (Some u) = same_type t u
same_result None (Some u) = false
same_result (Some t) None = false

abbrev pub same_mark : List ℕ → List NameTree → List NameTree → Bool
same_mark n xs ys = agree (has_attribute n xs) (has_attribute n ys)

-- parameters of one type, both with the mark `[Captured]` or both without it
abbrev pub same_params : List ParamTree → List ParamTree → Bool
same_params [] [] = true
same_params (p ∷ ps) (q ∷ qs) =
    same_type p.ty q.ty && same_mark (codes "Captured") p.attributes q.attributes && same_params ps qs
same_params [] (q ∷ qs) = false
same_params (p ∷ ps) [] = false

abbrev pub same_marks : List NameTree → List NameTree → Bool
same_marks xs ys = same_mark (codes "Pure") xs ys && same_mark (codes "NoDefaultContract") xs ys

-- an override has no `requires` and no `modifies`
abbrev pub only_ensures : List ClauseTree → Bool
only_ensures [] = true
only_ensures (EnsuresOf e ∷ cs) = only_ensures cs
only_ensures (RequiresOf e ∷ cs) = false
only_ensures (ModifiesOf ms ∷ cs) = false

abbrev pub may_override : MethodTree → MethodTree → Bool
may_override m inherited =
    is_open inherited && same_params m.params inherited.params && same_result m.result inherited.result
    && same_marks m.attributes inherited.attributes && only_ensures m.clauses

-- a method with the word `override` needs an inherited method that it may override; any other has a name of its own
abbrev pub fits_inherited : MethodTree → Option (Declared MethodTree) → Bool
fits_inherited m None = not (is_override m)
fits_inherited m (Some inherited) = if is_override m then may_override m inherited.member else false

abbrev pub override_faults : List ClassTree → ℕ → List MethodTree → Faults
override_faults cs k [] = []
override_faults cs k (m ∷ ms) =
    unless (fits_inherited m (inherited_method cs k m.name.text)) (fault rule.BadOverride m.name.place) ++ override_faults cs k ms
