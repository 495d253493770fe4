use Rattle.ss_logic.specs.Express.{said}
use Rattle.ss_vcgen_express.specs.Chains.{conjuncts}
use Rattle.ss_vcgen_express.specs.Numbers.{meant_at}
use Rattle.ss_vcgen_express.proofs.Chaining.{parts_are}
use Rattle.ss_vcgen_express.proofs.operators.conjuncts_of.Goals as goal

pub returns-clause-at : goal.returns-clause-at
returns-clause-at c =
    parts_are c.conjuncts.result c.said.new.bank c.in_ok-f.f (λ b. said (meant_at b c.args.x.now)) conjuncts c.in_ok-f.ensures.at c.conjuncts.ensures.in_bank c.conjuncts.ensures.at
