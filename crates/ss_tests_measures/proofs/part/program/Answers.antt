use Rattle.std.proofs.Common.{refl, arith}
use Rattle.ss_core.proofs.Single.{one_class}
use Rattle.ss_tests_measures.proofs.part.program.Goals as goal

pub returns : goal.returns
returns c = rw c.in_ok-vec-2.ensures.items (one_class _ refl (rw c.in_ok-vec.ensures.items (omega arith)))
