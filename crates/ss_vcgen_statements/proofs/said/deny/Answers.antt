use Rattle.ss_terms.specs.Forms.{term_at}
use Rattle.ss_vcgen_statements.proofs.Steps.{negated}
use Rattle.ss_vcgen_express.specs.Sayings.{said_so}
use Rattle.ss_vcgen_statements.proofs.said.deny.Goals as goal

pub returns-clause-at : goal.returns-clause-at
returns-clause-at c = negated c.say.new.builder.bank c.in_ok-f.f c.negation.result (λ b. said_so (term_at b) c.args.saying (term_at b c.args.x)) c.in_ok-f.ensures.at c.negation.ensures.in_bank c.negation.ensures.negation
