-- A shelf of the code as the definitions see it.
use Rattle.std.specs.Prelude.{map}
use Rattle.ss_tables_lookup.specs.declared.shelves.Shelf.{Shelf as CodeShelf}
use Rattle.ss_tables_lookup.specs.Shelves.{Shelf}
use Rattle.ss_tables_lookup.specs.Views.{field_tree, method_tree, constructor_tree}

abbrev pub shelf_of : CodeShelf → Shelf
shelf_of s = record {
  above = s.above;
  fields = map field_tree s.fields.items;
  field_places = s.field_places;
  methods = map method_tree s.methods.items;
  method_places = s.method_places;
  constructors = map constructor_tree s.constructors.items;
}
