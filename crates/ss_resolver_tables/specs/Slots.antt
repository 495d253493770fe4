-- The numbers and the tables of methods of the code as the definitions see them.
use Rattle.std.specs.Prelude.{ℕ, ◌≡◌, List, [], ◌∷◌, ◌++◌, length, map, filter, not, sum_by, slice_get, Some}
use Rattle.ss_core.specs.Tree.{EntryTree}
use Rattle.ss_ast.specs.Programs.{ClassTree}
use Rattle.ss_tables_lookup.specs.Places.{Places, places_of}
use Rattle.ss_resolver_tables.specs.declared.starts.Starts.{Starts}
use Rattle.ss_resolver_tables.specs.declared.slots.Slot.{Slot}
use Rattle.ss_resolver_tables.specs.declared.slots.MethodTable.{MethodTable}
use Rattle.ss_resolver_names_rules.specs.Faults.{is_listed}
use Rattle.ss_resolver_rules.specs.Numbers.{field_count, body_count, names_of, declared_entry, table}
use Rattle.ss_resolver_tables.specs.Starts.{starts_from}

-- how many the classes before each have, and how many all have
pub record AreStarts (f : ClassTree → ℕ) (cs : List ClassTree) (s : Starts) : Type 0 where
  pub starts : s.starts.items ≡ starts_from f 0 cs
  pub all : s.all ≡ sum_by f cs

abbrev pub slot_of : Slot → EntryTree
slot_of s = record { name = s.name.now; body = s.body.0 }

abbrev pub slots_of : List Slot → List EntryTree
slots_of ss = map slot_of ss

-- a table has these entries, and the place of each name
pub record IsTable (es : List EntryTree) (t : MethodTable) : Type 0 where
  pub slots : slots_of t.slots.items ≡ es
  pub places : t.places ≡ places_of (names_of es)

-- of these names, those that a table doesn't have
abbrev pub new_among : List EntryTree → List (List ℕ) → List (List ℕ)
new_among es ns = filter (λ (n : List ℕ). not (is_listed (names_of es) n)) ns

-- at the place of each class stands its table
pub record AreTables (cs : List ClassTree) (ts : List MethodTable) : Type 0 where
  pub places : length ts ≡ length cs
  pub each : (k : ℕ) (t : MethodTable) → slice_get ts k ≡ Some t → IsTable (table cs k) t
