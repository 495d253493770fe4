use Rattle.std.proofs.Common.{true}
use Rattle.std.proofs.lemmas.Result.{on_ok_weaker}
use Rattle.ss_core.specs.declared.names.Kind.TheVariants as kind
use Rattle.ss_logic.specs.Terms as term
use Rattle.ss_logic.specs.Express.{not_zero}
use Rattle.ss_terms.specs.Forms.{Forms}
use Rattle.ss_vcgen_express.specs.Marked.{marked_part, marked_result}
use Rattle.ss_vcgen_express.specs.Numbers.{meant_at}
use Rattle.ss_vcgen_express.proofs.Grown.{HasMeant-grown}
use Rattle.ss_vcgen_walk.proofs.Composing.{parts_both}
use Rattle.ss_vcgen_walk.proofs.twos.ask_quotient.Goals as goal

pub ask_result-requires : goal.ask_result-requires
ask_result-requires c =
    let g = c.ask.ensures.grown in
    record { first = HasMeant-grown g c.args.operands.first.now c.requires.first; second = HasMeant-grown g c.args.operands.second.now c.requires.second; parts = c.in_ok-ask.ensures.asked.has }

pub returns-clause-asked : goal.returns-clause-asked
returns-clause-asked c =
    let a = c.args in
    on_ok_weaker c.ask_result.result
    (λ h. parts_both c.ask.new.bank c.ask_result.new.bank a.parts.now.items c.ask.new.parts.items c.ask_result.new.parts.items (λ (b : Forms). marked_part kind.ZeroDivisor a.place true (not_zero (meant_at b a.operands.second.now)))
    (λ (b : Forms). marked_result term.Quotient (meant_at b a.operands.first.now) (meant_at b a.operands.second.now) a.place) c.ask_result.ensures.grown c.in_ok-ask.ensures.asked h)
    c.ask_result.ensures.asked
