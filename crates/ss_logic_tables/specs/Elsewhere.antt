-- Where a heap has what no object of its list has.
use Rattle.std.specs.Prelude.{◌≡◌, ℕ, ℤ, pos, negsuc, List, Bool, true, false, ◌&&◌, nat_lt}
use Rattle.ss_core.specs.Tree.{ClassTree}
use Rattle.ss_core.specs.Chain.{below}
use Rattle.ss_store_rules.specs.Changes.{is_array, element_type, field_class}
use Rattle.ss_logic.specs.declared.Sort.{Sort}
use Rattle.ss_logic.specs.Values.{Thing, Heap, Table, is_allocated}
use Rattle.ss_logic.specs.Terms.{field_sort, sort_of_type, same_sort, cell}

-- an index below n
abbrev pub is_index : ℕ → ℤ → Bool
is_index n (pos i) = nat_lt i n
is_index n (negsuc i) = false

-- the thing is an array with an element of this sort at the index
abbrev pub has_element : List ClassTree → Table → Thing → Sort → ℤ → Bool
has_element cs table w s i = is_array cs (table.class_of w) && is_index (table.length_of w) i && same_sort s (sort_of_type (element_type (table.class_of w)))

-- What is allocated in the first heap has the same in both, in the fields that its class doesn't have and where it has no element.
pub record SameElsewhere (cs : List ClassTree) (table : Table) (before after : Heap) : Type 0 where
  pub fields : (w : Thing) (f : ℕ) → is_allocated before w ≡ true → below cs (table.class_of w) (field_class cs f) ≡ false →
      cell (field_sort cs f) (after.at w).fields f ≡ cell (field_sort cs f) (before.at w).fields f
  pub elements : (w : Thing) (s : Sort) (i : ℤ) → is_allocated before w ≡ true → has_element cs table w s i ≡ false →
      cell s (after.at w).elements i ≡ cell s (before.at w).elements i
