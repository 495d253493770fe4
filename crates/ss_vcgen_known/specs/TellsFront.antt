-- What the front of a chain tells.
use Rattle.std.specs.Prelude.{◌≡◌, true, false}
use Rattle.ss_core.specs.Tree.{ExprTree}
use Rattle.ss_vcgen_known.specs.declared.fronts.FrontTold.{FrontTold}
use Rattle.ss_vcgen_types.specs.Told.{local_of, told_by}

-- what it tells is what this expression tells, and it is a local exactly where this is
pub record TellsFront (t : FrontTold) (e : ExprTree) : Type 0 where
  pub holds : t.holds.items ≡ told_by e true
  pub fails : t.fails.items ≡ told_by e false
  pub local : t.local ≡ local_of e
