use Rattle.std.proofs.lemmas.Result.{on_ok_weaker}
use Rattle.ss_terms.specs.Forms.{Forms}
use Rattle.ss_vcgen_express.specs.Numbers.{meant_at}
use Rattle.ss_vcgen_express.specs.Contexts.{context_at}
use Rattle.ss_vcgen_express.proofs.Grown.{HasMeant-grown}
use Rattle.ss_vcgen_express.proofs.Contexts.{HasContext-grown}
use Rattle.ss_vcgen_walk.specs.Asked.{asked_null, asked_allocated}
use Rattle.ss_vcgen_walk.proofs.Composing.{parts_both}
use Rattle.ss_vcgen_walk.proofs.asks.ask_readable.Goals as goal

pub ask_allocated-requires : goal.ask_allocated-requires
ask_allocated-requires c =
    let g = c.ask_not_null.ensures.grown in
    record { context = HasContext-grown g c.args.context.now.expression.now c.requires.context; meant = HasMeant-grown g c.args.subject.meant.now c.requires.meant; parts = c.in_ok-ask_not_null.ensures.asked.has }

pub returns-clause-asked : goal.returns-clause-asked
returns-clause-asked c =
    let a = c.args in
    on_ok_weaker c.ask_allocated.result
    (λ h. parts_both c.ask_not_null.new.bank c.ask_allocated.new.bank a.parts.now.items c.ask_not_null.new.parts.items c.ask_allocated.new.parts.items
    (λ (b : Forms). asked_null a.subject.checked (meant_at b a.subject.meant.now) a.place) (λ (b : Forms). asked_allocated (context_at b a.context.now.expression.now) (meant_at b a.subject.meant.now) a.place)
    c.ask_allocated.ensures.grown c.in_ok-ask_not_null.ensures.asked h)
    c.ask_allocated.ensures.asked
