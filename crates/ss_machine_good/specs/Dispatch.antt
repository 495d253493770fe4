-- What a dispatched call enters.
use Rattle.std.specs.Prelude.{◌≡◌, ℕ, true, false, Some}
use Rattle.ss_core.specs.Tree.{BodyTree, CoreTree}
use Rattle.ss_core.specs.Chain.{below}
use Rattle.ss_store_rules.specs.Locals.{types_of}
use Rattle.ss_store_rules.specs.Typed.{method_at}

-- The class d has at the place m of its table a method that is called like this one.
pub record IsFound (c : CoreTree) (d m : ℕ) (from : BodyTree) : Type 0 where
  pub to : BodyTree
  pub at : method_at c d m ≡ Some to
  pub params : types_of to.params ≡ types_of from.params
  pub result : to.result ≡ from.result
  pub static : to.flags.is_static ≡ from.flags.is_static
  pub plain : to.flags.ctor ≡ false
  -- it is of d or of a class above it
  pub class : below c.classes d to.class ≡ true
