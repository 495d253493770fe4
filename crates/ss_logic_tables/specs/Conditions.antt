-- The conditions of a contract between two heaps, and what their terms stand for.
use Rattle.std.specs.Prelude.{List, ◌++◌}
use Rattle.ss_core.specs.Tree.{ClassTree, BodyTree}
use Rattle.ss_core.specs.Chain.{IsChain, NoAlso}
use Rattle.ss_store_rules.specs.declared.Value.{Value as ObjectValue}
use Rattle.ss_store_rules.specs.Good.{IsGood}
use Rattle.ss_store_rules.specs.Admissible.{invariants_hold}
use Rattle.ss_store_rules.specs.States.{AreGoodLocals}
use Rattle.ss_store_rules.specs.Values.{Setting, setting}
use Rattle.ss_store_rules.specs.Locals.{types_of, local_types}
use Rattle.ss_machine_typed.specs.Older.{IsOlder}
use Rattle.ss_logic.specs.Values.{Heap, Structure}
use Rattle.ss_logic.specs.Terms.{Term}
use Rattle.ss_logic.specs.Objects.{objects_of}
use Rattle.ss_logic.specs.Express.{Meant, Context}
use Rattle.ss_logic_means.specs.Scenes.{IsStoreTerm}
use Rattle.ss_vcgen_heaps.specs.Contracts.{defaults_meant, contract_context}
use Rattle.ss_logic_tables.specs.Spans.{AreArguments}

-- the stores, and what the arguments and the result mean
pub record ContractTerms : Type 0 where
  pub now : Term
  pub entry : Term
  pub arguments : List Meant
  pub result : List Meant

-- and what these stand for: all locals of the body have values
pub record ContractValues : Type 0 where
  pub now : Heap
  pub entry : Heap
  pub locals : List ObjectValue

abbrev pub contract_of : List ClassTree → BodyTree → ContractTerms → Context
contract_of cs b t = contract_context cs b t.now t.entry t.arguments t.result

abbrev pub contract_setting_of : List ClassTree → Structure → ContractValues → Setting
contract_setting_of cs m v = setting cs (objects_of cs m.table v.now) (objects_of cs m.table v.entry) v.locals

-- The terms stand for the values: two good stores, of which the one at the entry is older, and the locals of the body.
pub record IsContract (cs : List ClassTree) (m : Structure) (b : BodyTree) (t : ContractTerms) (v : ContractValues) : Type 0 where
  pub chain : IsChain cs
  pub beside : NoAlso cs
  pub now : IsStoreTerm cs m t.now v.now
  pub entry : IsStoreTerm cs m t.entry v.entry
  pub good_now : IsGood cs (invariants_hold cs) (objects_of cs m.table v.now)
  pub good_entry : IsGood cs (invariants_hold cs) (objects_of cs m.table v.entry)
  pub older : IsOlder (objects_of cs m.table v.entry) (objects_of cs m.table v.now)
  pub locals : AreGoodLocals cs (objects_of cs m.table v.now) b v.locals
  pub meant : AreArguments cs m (local_types b) (t.arguments ++ defaults_meant (types_of b.locals) ++ t.result) v.locals
