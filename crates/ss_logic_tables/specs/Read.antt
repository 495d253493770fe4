-- What is read of a heap at the position of an object.
use Rattle.std.specs.Prelude.{◌≡◌, ℕ, pos, List, length, true, Some, nat_lt, slice_get}
use Rattle.ss_core.specs.declared.names.Ty.TheVariants as ty
use Rattle.ss_core.specs.Tree.{ClassTree}
use Rattle.ss_store_rules.specs.declared.Value.{Value as ObjectValue}
use Rattle.ss_store_rules.specs.Store.{Object, field_value}
use Rattle.ss_store_rules.specs.Changes.{is_array, element_type, field_type}
use Rattle.ss_logic.specs.Values.{reference, Heap, Table}
use Rattle.ss_logic.specs.Terms.{field_sort, sort_of_type, cell}
use Rattle.ss_logic_means.specs.Means.{standing}
use Rattle.ss_logic_tables.specs.Tabled.{thing_of_owner}

-- The heap has the object x at the position o.
pub record HasObject (cs : List ClassTree) (table : Table) (h : Heap) (o : ℕ) (x : Object) : Type 0 where
  pub allocated : nat_lt o h.next ≡ true
  pub class : table.class_of (reference o) ≡ x.class
  pub size : is_array cs x.class ≡ true → table.length_of (reference o) ≡ length x.elements
  pub level : (h.at (reference o)).level ≡ x.level
  pub committed : (h.at (reference o)).committed ≡ x.committed
  pub owner : (h.at (reference o)).owner ≡ thing_of_owner x.owner
  pub ready : (h.at (reference o)).ready ≡ x.ready
  -- of its fields and elements, each has its value in the cells of its sort
  pub fields : (f : ℕ) (v : ObjectValue) → (field_type cs f ≡ ty.Null → ⊥) → field_value x f ≡ Some v → cell (field_sort cs f) (h.at (reference o)).fields f ≡ standing v
  pub elements : (i : ℕ) (v : ObjectValue) → slice_get x.elements i ≡ Some v → cell (sort_of_type (element_type x.class)) (h.at (reference o)).elements (pos i) ≡ standing v
