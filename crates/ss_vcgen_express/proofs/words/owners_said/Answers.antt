use Rattle.std.proofs.Common.{ap}
use Rattle.ss_core.specs.View.{owners_tree}
use Rattle.ss_logic.specs.Express as spec
use Rattle.ss_terms.specs.Forms.{term_at}
use Rattle.ss_vcgen_express.specs.Numbers.{meant_at}
use Rattle.ss_vcgen_express.specs.Sayings.{related}
use Rattle.ss_vcgen_express.specs.Contexts.{context_at}
use Rattle.ss_vcgen_express.proofs.Grown.{formula_so}
use Rattle.ss_vcgen_express.proofs.words.owners_said.Goals as goal

pub returns-clause-at : goal.returns-clause-at
returns-clause-at c =
    formula_so c.over_two.result c.over_two.new.bank (λ b. spec.over_two (meant_at b c.args.x.now) (meant_at b c.args.y.now) (related (term_at b) c.asked_of_two-relation.result))
    (λ b. spec.over_two (meant_at b c.args.x.now) (meant_at b c.args.y.now) (spec.owners_said (context_at b c.args.context.now) (owners_tree c.args.test)))
    (λ b k. ap (spec.over_two (meant_at b c.args.x.now) (meant_at b c.args.y.now)) (c.asked_of_two-relation.ensures.says b)) c.over_two.ensures.at
