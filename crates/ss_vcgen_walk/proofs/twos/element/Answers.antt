use Rattle.std.proofs.Common.{[], ◌∷◌, ◌∙◌, ap}
use Rattle.ss_logic.specs.Terms.{Term, app}
use Rattle.ss_logic.specs.Terms as term
use Rattle.ss_logic.specs.Express as spec
use Rattle.ss_terms.specs.Forms.{Forms, term_at}
use Rattle.ss_vcgen_express.specs.Numbers.{meant_at}
use Rattle.ss_vcgen_express.specs.Contexts.{context_at}
use Rattle.ss_vcgen_walk.proofs.Composing.{meant_so}
use Rattle.ss_vcgen_walk.proofs.Growing.{state_is}
use Rattle.ss_vcgen_walk.proofs.twos.element.Goals as goal

pub returns-clause-at : goal.returns-clause-at
returns-clause-at c =
    let a = c.args in
    let read = λ (b : Forms) (s : Term). spec.paired (λ u v. app (term.Element a.sort) (s ∷ u ∷ v ∷ [])) (meant_at b a.x.now) (meant_at b a.y.now) in
    meant_so c.paired.result c.paired.new.bank (λ (b : Forms). read b (term_at b c.state.result)) (λ (b : Forms). read b (spec.state (context_at b a.context.now.expression.now)))
    (λ b k. ap (read b) (ap (term_at b) c.state.ensures ∙ state_is b a.context.now.expression.now)) c.paired.ensures.at
