-- Contracts at the two ends of a call: which method serves a call of another, and which locals are still the arguments.
use Rattle.std.specs.Prelude.{◌≡◌, ◌⊎◌, ℕ, List, length, true, false, Some, slice_get}
use Rattle.ss_core.specs.Tree.{BodyTree, CoreTree}
use Rattle.ss_core.specs.Chain.{below}
use Rattle.ss_store_rules.specs.declared.Value.{Value}
use Rattle.ss_store_rules.specs.declared.Value.TheVariants as value
use Rattle.ss_store_rules.specs.Store.{Object}
use Rattle.ss_store_rules.specs.Locals.{local_types, argument_count, is_argument}
use Rattle.ss_store_rules.specs.Tables.{StandsFor, is_shared}
use Rattle.ss_store_rules.specs.Formed.{IsFormedBody}
use Rattle.ss_machine_rules.specs.Frame.{this_of}

-- Where a text names the method `from`, the method `to` is entered in objects of the class d.
pub record Serves (c : CoreTree) (d : ℕ) (from to : BodyTree) : Type 0 where
  pub from_formed : IsFormedBody c from
  pub to_formed : IsFormedBody c to
  pub instance : from.flags.is_static ≡ false
  pub from_plain : from.flags.ctor ≡ false
  pub to_plain : to.flags.ctor ≡ false
  -- it is of d or of a class above it
  pub class : below c.classes d to.class ≡ true
  pub stands : StandsFor from to
  -- it is of d itself, or says nothing of level 1
  pub own : (to.class ≡ d) ⊎ (is_shared to ≡ true)

-- The first of the arguments is an object of exactly the class d.
pub record IsCalledOn (s : List Object) (d : ℕ) (arguments : List Value) : Type 0 where
  pub position : ℕ
  pub this : this_of arguments ≡ value.Obj position
  pub object : Object
  pub there : slice_get s position ≡ Some object
  pub class : object.class ≡ d

-- The first locals of the body are these arguments.
pub record HasArguments (b : BodyTree) (arguments locals : List Value) : Type 0 where
  pub passed : length arguments ≡ argument_count b
  pub count : length locals ≡ length (local_types b)
  pub same : (x : ℕ) → is_argument b x ≡ true → slice_get locals x ≡ slice_get arguments x
