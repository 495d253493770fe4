use Rattle.std.proofs.Common.{ap}
use Rattle.ss_core.specs.View.{word_tree}
use Rattle.ss_logic.specs.Express as spec
use Rattle.ss_terms.specs.Forms.{term_at}
use Rattle.ss_vcgen_express.specs.Numbers.{meant_at}
use Rattle.ss_vcgen_express.specs.Sayings.{said_so}
use Rattle.ss_vcgen_express.specs.Contexts.{context_at}
use Rattle.ss_vcgen_express.proofs.Grown.{formula_so}
use Rattle.ss_vcgen_express.proofs.words.word_said.Goals as goal

pub returns-clause-at : goal.returns-clause-at
returns-clause-at c =
    formula_so c.over.result c.over.new.bank (λ b. spec.over (meant_at b c.args.m.now) (said_so (term_at b) c.asked-saying.result))
    (λ b. spec.over (meant_at b c.args.m.now) (spec.word_said (context_at b c.args.context.now) (word_tree c.args.word)))
    (λ b k. ap (spec.over (meant_at b c.args.m.now)) (c.asked-saying.ensures.says b)) c.over.ensures.at
