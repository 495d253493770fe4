use Rattle.ss_logic.specs.Express.{said}
use Rattle.ss_vcgen_express.specs.Numbers.{meant_at}
use Rattle.ss_vcgen_express.proofs.Chaining.{any_more}
use Rattle.ss_vcgen_express.proofs.Grown.{HasMeant-grown}
use Rattle.ss_vcgen_express.proofs.operators.or.Goals as goal

pub any_of-requires : goal.any_of-requires
any_of-requires c = HasMeant-grown c.said.ensures.grown c.args.x c.requires.first

pub returns-clause-at : goal.returns-clause-at
returns-clause-at c =
    any_more c.said.new.bank c.any_of.new.bank c.any_of.ensures.grown (λ b. said (meant_at b c.args.x)) (λ b. said (meant_at b c.args.y.now)) c.in_ok-parts.parts c.push.new.self c.in_ok-last.last
    c.in_ok-last.ensures.at c.in_ok-push.ensures.items c.in_ok-parts.ensures.at
