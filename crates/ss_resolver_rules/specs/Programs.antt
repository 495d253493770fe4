-- The resolved tree of a program.
use Rattle.std.specs.Prelude.{ℕ, zero, suc, ◌+◌, Bool, true, false, not, ◌&&◌, List, [], ◌∷◌, ◌++◌, length, map, flat_map, Option, Some, None, option_map, find, position, unwrap_or, codes, if◌then◌else◌}
use Rattle.std.specs.Str.{bytes_eq}
use Rattle.ss_core.specs.declared.names.Ty.{Ty}
use Rattle.ss_core.specs.declared.names.Mark.{Mark}
use Rattle.ss_core.specs.declared.names.Mark.TheVariants as mark
use Rattle.ss_core.specs.Tree as core
use Rattle.ss_ast.specs.Expressions.{NameTree, TypeTree}
use Rattle.ss_ast.specs.Statements.{BlockTree}
use Rattle.ss_ast.specs.Programs.{ParamTree, ModifiedTree, ClauseTree, RequiresOf, EnsuresOf, ModifiesOf, BaseCallTree, MemberKindTree, FieldsOf, InvariantOf, MethodOf, ConstructorOf, MemberTree, ClassTree, ProgramTree}
use Rattle.ss_ast.specs.Programs as written
use Rattle.ss_tables.specs.Members.{FieldTree, MethodTree, ConstructorTree, fields_in, methods_in, constructors_in, is_static, has_attribute}
use Rattle.ss_tables.specs.Classes.{above, class_number}
use Rattle.ss_resolver_names_rules.specs.Programs.{is_main}
use Rattle.ss_typed.specs.declared.body.TypedFlags.{TypedFlags}
use Rattle.ss_typed.specs.Tree.{ExprTree, FieldOf, ModifiedTree as Modified, OneOf, AllOf, ElementsOf, BaseTree, BodyTree, MembersTree, TypedTree, InvariantTree, arguments}
use Rattle.ss_typed.specs.Tree as typed
use Rattle.ss_resolver_rules.specs.Numbers.{number_or_object, type_id, constructor_id, method_id, table}
use Rattle.ss_resolver_rules.specs.Names.{Env, class_env, declare_params, enter}
use Rattle.ss_resolver_rules.specs.Expressions.{expr}
use Rattle.ss_resolver_rules.specs.Statements.{Declared, declared_in_block, block, local}

abbrev pub rep : List ℕ
rep = codes "Rep"

abbrev pub peer : List ℕ
peer = codes "Peer"

-- ---- contracts

-- `o.f`, where the read is one of a field
abbrev pub one_of : ExprTree → Modified
one_of (FieldOf p o f t) = OneOf o f
one_of o = AllOf o

abbrev pub modified : Env → ModifiedTree → Modified
modified e (written.AllOf a) = AllOf (expr e a)
modified e (written.ElementsOf a) = ElementsOf (expr e a)
modified e (written.OneOf a) = one_of (expr e a)

abbrev pub entry_in : Env → List ClauseTree → List ExprTree
entry_in e [] = []
entry_in e (RequiresOf a ∷ cs) = expr e a ∷ entry_in e cs
entry_in e (EnsuresOf a ∷ cs) = entry_in e cs
entry_in e (ModifiesOf ms ∷ cs) = entry_in e cs

abbrev pub exit_in : Env → List ClauseTree → List ExprTree
exit_in e [] = []
exit_in e (RequiresOf a ∷ cs) = exit_in e cs
exit_in e (EnsuresOf a ∷ cs) = expr e a ∷ exit_in e cs
exit_in e (ModifiesOf ms ∷ cs) = exit_in e cs

abbrev pub with_terms : List Modified → Option (List Modified) → Option (List Modified)
with_terms ms None = Some ms
with_terms ms (Some more) = Some (ms ++ more)

-- the terms of all `modifies` clauses, where there is one
abbrev pub modifies_in : Env → List ClauseTree → Option (List Modified)
modifies_in e [] = None
modifies_in e (RequiresOf a ∷ cs) = modifies_in e cs
modifies_in e (EnsuresOf a ∷ cs) = modifies_in e cs
modifies_in e (ModifiesOf ms ∷ cs) = with_terms (map (modified e) ms) (modifies_in e cs)

-- ---- bodies

abbrev pub param : Env → ParamTree → typed.ParamTree
param e p = record {
  name = p.name.text;
  place = p.name.place;
  ty = type_id e.scope.classes p.ty;
  captured = has_attribute (codes "Captured") p.attributes;
  attributes = p.attributes;
}

-- where the parameters are in scope; a static method has no `this`, so its first parameter is the local 0
abbrev pub param_env : List ClassTree → ℕ → Bool → List ParamTree → Env
param_env cs k static ps = declare_params (record (class_env cs k) { next = if static then 0 else 1 }) ps

-- where `result` has this type
abbrev pub result_env : Env → Option Ty → Env
result_env e t = record e { scope = record (e.scope) { outcome = t } }

-- a method's body and contract: the parameters are in scope, and `result` has its type
abbrev pub method_env : List ClassTree → ℕ → MethodTree → Env
method_env cs k m = result_env (param_env cs k (is_static m) m.params) (option_map (type_id cs) m.result)

abbrev pub locals : Env → BlockTree → List core.LocalTree
locals e b = map (local e) (declared_in_block b)

abbrev pub method_flags : MethodTree → TypedFlags
method_flags m = record {
  is_static = is_static m;
  ctor = false;
  delayed = false;
  pure = has_attribute (codes "Pure") m.attributes;
  no_default_contract = has_attribute (codes "NoDefaultContract") m.attributes;
}

abbrev pub method_body : List ClassTree → ℕ → MethodTree → BodyTree
method_body cs k m =
    let e = method_env cs k m in
    record {
      class = class_number k;
      name = m.name.text;
      place = m.name.place;
      flags = method_flags m;
      attributes = m.attributes;
      params = map (param e) m.params;
      locals = locals e m.body;
      result = option_map (type_id cs) m.result;
      entry = entry_in e m.clauses;
      exit = exit_in e m.clauses;
      modifies = modifies_in e m.clauses;
      base = None;
      block = block e m.body;
    }

abbrev pub constructor_flags : ConstructorTree → TypedFlags
constructor_flags c = record {
  is_static = false;
  ctor = true;
  delayed = not (has_attribute (codes "NotDelayed") c.attributes);
  pure = has_attribute (codes "Pure") c.attributes;
  no_default_contract = has_attribute (codes "NoDefaultContract") c.attributes;
}

abbrev pub base_of : Env → BaseCallTree → BaseTree
base_of e b = record { place = b.place; arguments = arguments (map (expr e) b.arguments) }

abbrev pub constructor_body : List ClassTree → ℕ → ConstructorTree → BodyTree
constructor_body cs k c =
    let e = param_env cs k false c.params in
    record {
      class = class_number k;
      name = c.name.text;
      place = c.name.place;
      flags = constructor_flags c;
      attributes = c.attributes;
      params = map (param e) c.params;
      locals = locals e c.body;
      result = None;
      entry = entry_in e c.clauses;
      exit = exit_in e c.clauses;
      modifies = modifies_in e c.clauses;
      base = option_map (base_of e) c.base;
      block = block e c.body;
    }

abbrev pub bodies_of : List ClassTree → ℕ → ClassTree → List BodyTree
bodies_of cs k c = map (constructor_body cs k) (constructors_in c.members) ++ map (method_body cs k) (methods_in c.members)

-- ---- classes

-- the first of the two marks that stands among the attributes
abbrev pub mark_of : List NameTree → Mark
mark_of [] = mark.Plain
mark_of (a ∷ more) = if bytes_eq a.text rep then mark.Rep else if bytes_eq a.text peer then mark.Peer else mark_of more

abbrev pub field : List ClassTree → FieldTree → core.FieldTree
field cs f = record { name = f.name.text; ty = type_id cs f.ty; mark = mark_of f.attributes }

abbrev pub class : List ClassTree → ℕ → ClassTree → core.ClassTree
class cs k c = record {
  name = c.name.text;
  above = number_or_object (above cs k);
  also = [];
  fields = map (field cs) (fields_in c.members);
  invariants = [];
  table = table cs k;
}

abbrev pub invariants_of_kind : Env → List NameTree → MemberKindTree → List InvariantTree
invariants_of_kind e attributes (InvariantOf a) = record { attributes = attributes; condition = expr e a } ∷ []
invariants_of_kind e attributes (FieldsOf d) = []
invariants_of_kind e attributes (MethodOf r n ps cs b) = []
invariants_of_kind e attributes (ConstructorOf n ps base cs b) = []

abbrev pub invariants_in : Env → List MemberTree → List InvariantTree
invariants_in e ms = flat_map (λ (m : MemberTree). invariants_of_kind e m.attributes m.kind) ms

abbrev pub field_member : Env → FieldTree → typed.FieldTree
field_member e f = record { place = f.name.place; attributes = f.attributes; initial = option_map (expr e) f.initial }

abbrev pub written_constructor : List ClassTree → ℕ → List ConstructorTree → Option ℕ
written_constructor cs k [] = None
written_constructor cs k (c ∷ ds) = Some (constructor_id cs k)

abbrev pub members : List ClassTree → ℕ → ClassTree → MembersTree
members cs k c = record {
  place = c.name.place;
  constructor = written_constructor cs k (constructors_in c.members);
  fields = map (field_member (class_env cs k)) (fields_in c.members);
  invariants = invariants_in (class_env cs k) c.members;
}

-- ---- programs

-- what is made of each of these classes, of which the first stands at place k
abbrev pub each : {A : Type 0} → (ℕ → ClassTree → A) → ℕ → List ClassTree → List A
each f k [] = []
each f k (c ∷ cs) = f k c ∷ each f (k + 1) cs

abbrev pub bodies_from : List ClassTree → ℕ → List ClassTree → List BodyTree
bodies_from all k [] = []
bodies_from all k (c ∷ cs) = bodies_of all k c ++ bodies_from all (k + 1) cs

abbrev pub number_or : List ClassTree → ℕ → Option MethodTree → ℕ → ℕ
number_or all k None other = other
number_or all k (Some m) other = method_id all k m.name.text

-- the number of the method with which the program begins, where class k is the first of these
abbrev pub main_from : List ClassTree → ℕ → List ClassTree → ℕ
main_from all k [] = 0
main_from all k (c ∷ cs) = number_or all k (find is_main (methods_in c.members)) (main_from all (k + 1) cs)

abbrev pub resolved : ProgramTree → TypedTree
resolved p = record {
  classes = each (class p.classes) 0 p.classes;
  members = each (members p.classes) 0 p.classes;
  bodies = bodies_from p.classes 0 p.classes;
  main = main_from p.classes 0 p.classes;
}
