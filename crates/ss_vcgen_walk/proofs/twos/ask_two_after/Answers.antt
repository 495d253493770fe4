use Rattle.std.proofs.Common.{List, ◌++◌}
use Rattle.std.proofs.lemmas.Result.{on_ok_weaker}
use Rattle.ss_terms.specs.Forms.{Forms}
use Rattle.ss_vcgen_express.specs.Marked.{Marked}
use Rattle.ss_vcgen_express.specs.Numbers.{meant_at}
use Rattle.ss_vcgen_express.specs.Contexts.{context_at}
use Rattle.ss_vcgen_express.proofs.Grown.{HasMeant-grown}
use Rattle.ss_vcgen_express.proofs.Contexts.{HasContext-grown}
use Rattle.ss_vcgen_walk.specs.Forms.{second_asks, asks_after}
use Rattle.ss_vcgen_walk.specs.Parts.{parts_at}
use Rattle.ss_vcgen_walk.proofs.Composing.{parts_then}
use Rattle.ss_vcgen_walk.proofs.twos.ask_two_after.Goals as goal

pub ask_after-requires : goal.ask_after-requires
ask_after-requires c =
    let g = c.add_second.ensures.grown in
    record { context = HasContext-grown g c.args.context.now.expression.now c.requires.context; first = HasMeant-grown g c.args.x.now c.requires.first; second = HasMeant-grown g c.args.second.meant.now c.requires.second; parts = c.in_ok-add_second.ensures.asked.has }

pub returns-clause-asked : goal.returns-clause-asked
returns-clause-asked c =
    let a = c.args in
    on_ok_weaker c.ask_after.result
    (parts_then c.add_second.new.bank c.ask_after.new.bank c.add_second.new.parts.items c.ask_after.new.parts.items (λ (b : Forms). parts_at b a.parts.now.items ++ second_asks a.form (meant_at b a.x.now) (parts_at b a.second.parts.now))
    (λ (b : Forms) (ps : List Marked). asks_after a.form ps (context_at b a.context.now.expression.now) (meant_at b a.x.now) (meant_at b a.second.meant.now)) c.ask_after.ensures.grown c.in_ok-add_second.ensures.asked)
    c.ask_after.ensures.asked
