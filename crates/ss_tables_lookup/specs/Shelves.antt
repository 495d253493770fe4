-- What is kept of each class so that its members are found by name at once.
use Rattle.std.specs.Prelude.{ℕ, ◌≡◌, List, Option, map}
use Rattle.ss_ast.specs.Programs.{ClassTree}
use Rattle.ss_tables.specs.Members.{FieldTree, MethodTree, ConstructorTree, fields_in, methods_in, constructors_in}
use Rattle.ss_tables.specs.Classes.{above_written}
use Rattle.ss_tables_lookup.specs.Places.{Places, places_of}

pub record Shelf : Type 0 where
  pub above : Option ℕ
  pub fields : List FieldTree
  pub field_places : Places
  pub methods : List MethodTree
  pub method_places : Places
  pub constructors : List ConstructorTree

abbrev pub field_names : List FieldTree → List (List ℕ)
field_names fs = map (λ (f : FieldTree). f.name.text) fs

abbrev pub method_names : List MethodTree → List (List ℕ)
method_names ms = map (λ (m : MethodTree). m.name.text) ms

abbrev pub class_names : List ClassTree → List (List ℕ)
class_names cs = map (λ (c : ClassTree). c.name.text) cs

-- the shelf of a class of the program
abbrev pub shelf : List ClassTree → ClassTree → Shelf
shelf cs c = record {
  above = above_written cs c.above;
  fields = fields_in c.members;
  field_places = places_of (field_names (fields_in c.members));
  methods = methods_in c.members;
  method_places = places_of (method_names (methods_in c.members));
  constructors = constructors_in c.members;
}

abbrev pub shelves : List ClassTree → List Shelf
shelves cs = map (shelf cs) cs

-- names and shelves are those of the classes
pub record IsShelved (cs : List ClassTree) (places : Places) (kept : List Shelf) : Type 0 where
  pub names : places ≡ places_of (class_names cs)
  pub shelves : kept ≡ shelves cs
