-- What the expressions of a body may rely on.
use Rattle.std.specs.Prelude.{◌≡◌, ℕ, List, length, Bool, true, false, ◌==◌, ◌&&◌, Some, slice_get}
use Rattle.ss_core.specs.declared.names.Ty.{Ty}
use Rattle.ss_core.specs.Tree.{ClassTree, BodyTree}
use Rattle.ss_core.specs.Chain.{IsChain, NoAlso}
use Rattle.ss_store_rules.specs.declared.Value.{Value}
use Rattle.ss_store_rules.specs.Store.{Object}
use Rattle.ss_store_rules.specs.Locals.{argument_types, argument_count}
use Rattle.ss_store_rules.specs.States.{is_this_of_constructor}
use Rattle.ss_store_rules.specs.Good.{has_type, IsReady, IsGood}
use Rattle.ss_store_rules.specs.Admissible.{invariants_hold}
use Rattle.ss_store_rules.specs.Values.{Setting}
use Rattle.ss_machine_typed.specs.Older.{IsOlder}

-- The stores now and at the entry are good, and the locals have values of these types. In a constructor the first local need not be ready.
pub record IsGoodSetting (c : Setting) (tys : List Ty) (constructs : Bool) : Type 0 where
  pub chain : IsChain c.classes
  pub beside : NoAlso c.classes
  pub store : IsGood c.classes (invariants_hold c.classes) c.store
  pub entry : IsGood c.classes (invariants_hold c.classes) c.entry
  pub older : IsOlder c.entry c.store
  pub count : length c.locals ≡ length tys
  pub types : (x : ℕ) (t : Ty) (v : Value) → slice_get tys x ≡ Some t → slice_get c.locals x ≡ Some v → has_type c.classes c.store t v ≡ true
  pub ready : (x : ℕ) (v : Value) → (constructs && x == 0) ≡ false → slice_get c.locals x ≡ Some v → IsReady c.store v

-- The arguments with which a body is entered: one for each, of its type and ready, but for the `this` of a constructor.
pub record AreGoodArguments (cs : List ClassTree) (s : List Object) (b : BodyTree) (arguments : List Value) : Type 0 where
  pub count : length arguments ≡ argument_count b
  pub types : (x : ℕ) (t : Ty) (v : Value) → slice_get (argument_types b) x ≡ Some t → slice_get arguments x ≡ Some v → has_type cs s t v ≡ true
  pub ready : (x : ℕ) (v : Value) → is_this_of_constructor b x ≡ false → slice_get arguments x ≡ Some v → IsReady s v
