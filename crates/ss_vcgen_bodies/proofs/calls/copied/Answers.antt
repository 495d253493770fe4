use Rattle.std.proofs.Common.{ap}
use Rattle.ss_vcgen_contracts.specs.Views.{ones_at}
use Rattle.ss_vcgen_bodies.proofs.calls.copied.Goals as goal

pub returns-clause-at : goal.returns-clause-at
returns-clause-at c = record { has = rw c.in_ok-all.ensures.items c.requires.arguments; are = λ b k. ap (ones_at b) c.in_ok-all.ensures.items }
