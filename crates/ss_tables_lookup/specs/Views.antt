-- The definitions' words for what the code holds.
use Rattle.std.specs.Prelude.{ℕ, List, map, option_map, String, string_bytes}
use Rattle.std.specs.declared.alloc.Global.{Global}
use Rattle.ss_core.specs.declared.names.Ty.{Ty}
use Rattle.ss_core.specs.declared.names.Ty.TheVariants as ty
use Rattle.ss_ast.specs.Expressions.{name_tree, type_tree, expr_tree}
use Rattle.ss_ast.specs.Statements.{block_tree}
use Rattle.ss_ast.specs.Programs.{param_tree, clause_tree, base_call_tree}
use Rattle.ss_tables.specs.Named.{Named}
use Rattle.ss_tables.specs.Members.{FieldTree, MethodTree, ConstructorTree}
use Rattle.ss_tables.specs.Classes.{Declared}
use Rattle.ss_tables_lookup.specs.declared.members.FieldRef.{FieldRef}
use Rattle.ss_tables_lookup.specs.declared.members.MethodRef.{MethodRef}
use Rattle.ss_tables_lookup.specs.declared.members.ConstructorRef.{ConstructorRef}
use Rattle.ss_tables_lookup.specs.declared.types.StaticType.{StaticType}
use Rattle.ss_tables_lookup.specs.declared.types.StaticType.TheVariants as static

abbrev pub names_in : {A : Type 0} → List (String Global × A) → Named A
names_in {A} es = map (λ (e : String Global × A). (string_bytes e.0, e.1)) es

abbrev pub type_of : StaticType → Ty
type_of static.Int = ty.Int
type_of static.Bool = ty.Bool
type_of static.Null = ty.Null
type_of (static.Ref t non_null) = ty.Ref (record { 0 = t }) non_null

abbrev pub field_tree : FieldRef → FieldTree
field_tree f = record {
  attributes = map name_tree f.attributes.now;
  ty = type_tree f.ty.now;
  name = name_tree f.declarator.now.name;
  initial = option_map expr_tree f.declarator.now.initial;
}

abbrev pub method_tree : MethodRef → MethodTree
method_tree m = record {
  attributes = map name_tree m.member.now.attributes.items;
  modifiers = m.member.now.modifiers.items;
  result = option_map type_tree m.method.now.returns;
  name = name_tree m.method.now.name;
  params = map param_tree m.method.now.params.items;
  clauses = map clause_tree m.method.now.clauses.items;
  body = block_tree m.method.now.body;
}

abbrev pub constructor_tree : ConstructorRef → ConstructorTree
constructor_tree c = record {
  attributes = map name_tree c.attributes.now;
  name = name_tree c.constructor.now.name;
  params = map param_tree c.constructor.now.params.items;
  base = option_map base_call_tree c.constructor.now.base;
  clauses = map clause_tree c.constructor.now.clauses.items;
  body = block_tree c.constructor.now.body;
}

-- a member, with the place of the class that declares it
abbrev pub declared_field : (ℕ × FieldRef) → Declared FieldTree
declared_field r = record { class = r.0; member = field_tree r.1 }

abbrev pub declared_method : (ℕ × MethodRef) → Declared MethodTree
declared_method r = record { class = r.0; member = method_tree r.1 }
