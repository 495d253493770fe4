use Rattle.ss_logic.specs.Express.{said}
use Rattle.ss_vcgen_express.specs.Numbers.{meant_at}
use Rattle.ss_vcgen_express.proofs.Chaining.{all_more}
use Rattle.ss_vcgen_express.proofs.Grown.{HasMeant-grown}
use Rattle.ss_vcgen_express.proofs.operators.and.Goals as goal

pub all_of-requires : goal.all_of-requires
all_of-requires c = HasMeant-grown c.said.ensures.grown c.args.x c.requires.first

pub returns-clause-at : goal.returns-clause-at
returns-clause-at c =
    all_more c.said.new.bank c.all_of.new.bank c.all_of.ensures.grown (λ b. said (meant_at b c.args.x)) (λ b. said (meant_at b c.args.y.now)) c.in_ok-parts.parts c.push.new.self c.in_ok-last.last
    c.in_ok-last.ensures.at c.in_ok-push.ensures.items c.in_ok-parts.ensures.at
