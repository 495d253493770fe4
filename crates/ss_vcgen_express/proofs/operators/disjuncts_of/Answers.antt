use Rattle.ss_logic.specs.Express.{said}
use Rattle.ss_vcgen_express.specs.Chains.{disjuncts}
use Rattle.ss_vcgen_express.specs.Numbers.{meant_at}
use Rattle.ss_vcgen_express.proofs.Chaining.{parts_are}
use Rattle.ss_vcgen_express.proofs.operators.disjuncts_of.Goals as goal

pub returns-clause-at : goal.returns-clause-at
returns-clause-at c =
    parts_are c.disjuncts.result c.said.new.bank c.in_ok-f.f (λ b. said (meant_at b c.args.x.now)) disjuncts c.in_ok-f.ensures.at c.disjuncts.ensures.in_bank c.disjuncts.ensures.at
