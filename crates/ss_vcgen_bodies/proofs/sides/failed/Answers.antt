use Rattle.std.proofs.Common.{false}
use Rattle.ss_core.specs.View.{expr}
use Rattle.ss_store_rules.specs.NonNull.{known_tested}
use Rattle.ss_vcgen_bodies.proofs.Spots.{spot_known}
use Rattle.ss_vcgen_bodies.proofs.sides.failed.Goals as goal

pub returns : goal.returns
returns c = λ a says h. spot_known a c.args.spot says h c.test.new.self (known_tested (expr c.args.e.now) false) c.in_ok-test.ensures
