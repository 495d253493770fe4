use Rattle.ss_linear.proofs.Glue.{flipped}
use Rattle.ss_linear.proofs.ends.either_ends.Goals as goal

pub returns-in-None-clause-some : goal.returns-in-None-clause-some
returns-in-None-clause-some c = λ b h. flipped b c.args.p c.args.q c.two_ends-in-None.result (c.two_ends-in-None.ensures.some b (h.1.0, (h.0, tt)))
