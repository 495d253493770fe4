use Rattle.std.proofs.lemmas.Result.{on_ok_weaker}
use Rattle.ss_logic.specs.Express.{over_two}
use Rattle.ss_terms.specs.Forms.{Forms, term_at}
use Rattle.ss_vcgen_express.specs.Numbers.{meant_at}
use Rattle.ss_vcgen_express.specs.Sayings.{related}
use Rattle.ss_vcgen_walk.proofs.Composing.{part_more}
use Rattle.ss_vcgen_walk.proofs.asks.ask_two.Goals as goal

pub returns-clause-asked : goal.returns-clause-asked
returns-clause-asked c =
    let a = c.args in
    on_ok_weaker c.add.result
    (λ e. part_more a.bank.now c.over_two.new.bank a.parts.now.items c.add.new.parts.items (record { formula = c.in_ok-formula.formula; kind = a.check.kind; place = a.check.place; checked = a.check.checked })
    (λ (b : Forms). over_two (meant_at b a.operands.first.now) (meant_at b a.operands.second.now) (related (term_at b) a.relation)) c.over_two.ensures.grown c.requires.parts e c.in_ok-formula.ensures.at)
    c.add.ensures
