-- The members of a class: its fields, methods and constructors, in order.
use Rattle.std.specs.Prelude.{ℕ, Bool, true, false, List, [], ◌∷◌, ◌++◌, map, Option, Some, None, find}
use Rattle.std.specs.List.{list_any}
use Rattle.std.specs.Str.{bytes_eq}
use Rattle.ss_ast.specs.declared.class.Modifier.{Modifier}
use Rattle.ss_ast.specs.declared.class.ModifierWord.{ModifierWord}
use Rattle.ss_ast.specs.declared.class.ModifierWord.TheVariants as word
use Rattle.ss_ast.specs.Expressions.{NameTree, TypeTree, ExprTree}
use Rattle.ss_ast.specs.Statements.{DeclaratorTree, BlockTree}
use Rattle.ss_ast.specs.Programs.{ParamTree, ClauseTree, BaseCallTree, MemberKindTree, FieldsOf, InvariantOf, MethodOf, ConstructorOf, MemberTree}

-- a field that a declaration declares
pub record FieldTree : Type 0 where
  pub attributes : List NameTree
  pub ty : TypeTree
  pub name : NameTree
  pub initial : Option ExprTree

-- a method; without a result it is `void`
pub record MethodTree : Type 0 where
  pub attributes : List NameTree
  pub modifiers : List Modifier
  pub result : Option TypeTree
  pub name : NameTree
  pub params : List ParamTree
  pub clauses : List ClauseTree
  pub body : BlockTree

pub record ConstructorTree : Type 0 where
  pub attributes : List NameTree
  pub name : NameTree
  pub params : List ParamTree
  pub base : Option BaseCallTree
  pub clauses : List ClauseTree
  pub body : BlockTree

abbrev pub declared_field : List NameTree → TypeTree → DeclaratorTree → FieldTree
declared_field attributes t d = record { attributes = attributes; ty = t; name = d.name; initial = d.initial }

abbrev pub fields_of_kind : List NameTree → MemberKindTree → List FieldTree
fields_of_kind attributes (FieldsOf d) = map (declared_field attributes d.ty) d.declarators
fields_of_kind attributes (InvariantOf e) = []
fields_of_kind attributes (MethodOf r n ps cs b) = []
fields_of_kind attributes (ConstructorOf n ps base cs b) = []

abbrev pub methods_of_kind : List NameTree → List Modifier → MemberKindTree → List MethodTree
methods_of_kind attributes modifiers (MethodOf r n ps cs b) =
    record { attributes = attributes; modifiers = modifiers; result = r; name = n; params = ps; clauses = cs; body = b } ∷ []
methods_of_kind attributes modifiers (FieldsOf d) = []
methods_of_kind attributes modifiers (InvariantOf e) = []
methods_of_kind attributes modifiers (ConstructorOf n ps base cs b) = []

abbrev pub constructors_of_kind : List NameTree → MemberKindTree → List ConstructorTree
constructors_of_kind attributes (ConstructorOf n ps base cs b) =
    record { attributes = attributes; name = n; params = ps; base = base; clauses = cs; body = b } ∷ []
constructors_of_kind attributes (FieldsOf d) = []
constructors_of_kind attributes (InvariantOf e) = []
constructors_of_kind attributes (MethodOf r n ps cs b) = []

abbrev pub fields_in : List MemberTree → List FieldTree
fields_in [] = []
fields_in (m ∷ ms) = fields_of_kind m.attributes m.kind ++ fields_in ms

abbrev pub methods_in : List MemberTree → List MethodTree
methods_in [] = []
methods_in (m ∷ ms) = methods_of_kind m.attributes m.modifiers m.kind ++ methods_in ms

abbrev pub constructors_in : List MemberTree → List ConstructorTree
constructors_in [] = []
constructors_in (m ∷ ms) = constructors_of_kind m.attributes m.kind ++ constructors_in ms

-- ---- members by name: of two of one name the first is meant

abbrev pub field_in : List MemberTree → List ℕ → Option FieldTree
field_in ms n = find (λ (f : FieldTree). bytes_eq n f.name.text) (fields_in ms)

abbrev pub method_in : List MemberTree → List ℕ → Option MethodTree
method_in ms n = find (λ (m : MethodTree). bytes_eq n m.name.text) (methods_in ms)

-- ---- what a method is

-- the word `static`, `virtual` or `override` of a method, or none; of several words the first counts
abbrev pub word_of : List Modifier → Option ModifierWord
word_of [] = None
word_of (m ∷ ms) = Some m.word

abbrev pub is_static_word : Option ModifierWord → Bool
is_static_word None = false
is_static_word (Some word.Static) = true
is_static_word (Some word.Virtual) = false
is_static_word (Some word.Override) = false

abbrev pub is_override_word : Option ModifierWord → Bool
is_override_word None = false
is_override_word (Some word.Static) = false
is_override_word (Some word.Virtual) = false
is_override_word (Some word.Override) = true

-- a method that may be overridden
abbrev pub is_open_word : Option ModifierWord → Bool
is_open_word None = false
is_open_word (Some word.Static) = false
is_open_word (Some word.Virtual) = true
is_open_word (Some word.Override) = true

abbrev pub is_static : MethodTree → Bool
is_static m = is_static_word (word_of m.modifiers)

abbrev pub is_override : MethodTree → Bool
is_override m = is_override_word (word_of m.modifiers)

abbrev pub is_open : MethodTree → Bool
is_open m = is_open_word (word_of m.modifiers)

abbrev pub has_attribute : List ℕ → List NameTree → Bool
has_attribute n attributes = list_any (λ (a : NameTree). bytes_eq n a.text) attributes
