use Rattle.std.proofs.Common.{◌≡◌, ◌++◌, ℕ, List, map, drop}
use Rattle.ss_core.specs.Tree.{EntryTree}
use Rattle.ss_tables_lookup.specs.Classes.{trees}
use Rattle.ss_tables_lookup.specs.Places.{places_of}
use Rattle.ss_tables_lookup.specs.Shelves.{method_names}
use Rattle.ss_tables_lookup.specs.Views.{method_tree}
use Rattle.ss_resolver_rules.specs.Numbers.{names_of, declared_entry}
use Rattle.ss_resolver_tables.specs.Slots.{slots_of, new_among}
use Rattle.ss_resolver_tables.proofs.slots.add_methods.Given as goal

abbrev pub invariant-loop-method : goal.invariant-loop-method
invariant-loop-method l = (es : List EntryTree) → l.fn.above ≡ places_of (names_of es) →
    slots_of l.slots.items ++ map (declared_entry (trees l.tables) l.class) (new_among es (method_names (map method_tree (drop l.method-index l.methods))))
    ≡ slots_of l.fn.slots.items ++ map (declared_entry (trees l.tables) l.class) (new_among es (method_names (map method_tree l.methods)))
