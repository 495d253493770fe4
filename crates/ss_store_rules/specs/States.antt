-- What holds of the locals of a body that runs, beside the good store.
use Rattle.std.specs.Prelude.{◌≡◌, ℕ, List, length, Bool, true, false, ◌==◌, ◌&&◌, Some, slice_get}
use Rattle.ss_core.specs.declared.names.Ty.{Ty}
use Rattle.ss_core.specs.Tree.{ClassTree, BodyTree}
use Rattle.ss_store_rules.specs.declared.Value.{Value}
use Rattle.ss_store_rules.specs.Store.{Object}
use Rattle.ss_store_rules.specs.Good.{has_type, IsReady}
use Rattle.ss_store_rules.specs.Locals.{local_types}

-- the `this` of a constructor, which need not be ready
abbrev pub is_this_of_constructor : BodyTree → ℕ → Bool
is_this_of_constructor b x = b.flags.ctor && x == 0

-- The values of the locals of the body b, in the store s.
pub record AreGoodLocals (cs : List ClassTree) (s : List Object) (b : BodyTree) (locals : List Value) : Type 0 where
  -- there is one for each local, so that the bound names stand after them
  pub count : length locals ≡ length (local_types b)
  -- each is of its local's type, and a reference is allocated
  pub types : (x : ℕ) (t : Ty) (v : Value) → slice_get (local_types b) x ≡ Some t → slice_get locals x ≡ Some v → has_type cs s t v ≡ true
  -- what they refer to is ready
  pub ready : (x : ℕ) (v : Value) → is_this_of_constructor b x ≡ false → slice_get locals x ≡ Some v → IsReady s v
