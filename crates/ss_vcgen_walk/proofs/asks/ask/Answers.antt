use Rattle.std.proofs.lemmas.Result.{on_ok_weaker}
use Rattle.ss_logic.specs.Express.{over}
use Rattle.ss_terms.specs.Forms.{Forms, term_at}
use Rattle.ss_vcgen_express.specs.Numbers.{meant_at}
use Rattle.ss_vcgen_express.specs.Sayings.{said_so}
use Rattle.ss_vcgen_walk.proofs.Composing.{part_more}
use Rattle.ss_vcgen_walk.proofs.asks.ask.Goals as goal

pub returns-clause-asked : goal.returns-clause-asked
returns-clause-asked c =
    let a = c.args in
    on_ok_weaker c.add.result
    (λ e. part_more a.bank.now c.over.new.bank a.parts.now.items c.add.new.parts.items (record { formula = c.in_ok-formula.formula; kind = a.check.kind; place = a.check.place; checked = a.check.checked })
    (λ (b : Forms). over (meant_at b a.m.now) (said_so (term_at b) a.saying)) c.over.ensures.grown c.requires.parts e c.in_ok-formula.ensures.at)
    c.add.ensures
