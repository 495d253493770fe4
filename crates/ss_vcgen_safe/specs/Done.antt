-- Terms for values and stores, and changes of stores whose checks hold.
use Rattle.std.specs.Prelude.{◌≡◌, List, Result, Ok}
use Rattle.ss_core.specs.declared.names.Kind.{Kind}
use Rattle.ss_core.specs.Tree.{ClassTree}
use Rattle.ss_store_rules.specs.Store.{Object}
use Rattle.ss_logic.specs.Values.{Heap, Value, store, Structure}
use Rattle.ss_logic.specs.Terms.{Term, value_of}
use Rattle.ss_logic_tables.specs.Tabled.{IsStoreOf}

-- the term has the value, whatever the bound names stand for
abbrev pub StandsFor : List ClassTree → Structure → Term → Value → Type 0
StandsFor cs m t v = (e : List Value) → value_of cs m e t ≡ v

-- The term stands for a good store with these objects.
pub record HasStore (cs : List ClassTree) (m : Structure) (t : Term) (s : List Object) : Type 0 where
  pub heap : Heap
  pub stands : StandsFor cs m t (store heap)
  pub is : IsStoreOf cs m.table heap s

-- the checks of the change hold: there is a store after
abbrev pub IsDone : Result (List Object) Kind → Type 0
IsDone r = (z : List Object) × (r ≡ Ok z)
