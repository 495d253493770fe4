use Rattle.std.proofs.Common.{List, ◌++◌}
use Rattle.std.proofs.lemmas.Result.{on_ok_weaker}
use Rattle.ss_terms.specs.Forms.{Forms}
use Rattle.ss_vcgen_express.specs.Marked.{Marked}
use Rattle.ss_vcgen_express.specs.Numbers.{meant_at}
use Rattle.ss_vcgen_express.specs.Contexts.{context_at}
use Rattle.ss_vcgen_express.proofs.Grown.{HasMeant-grown}
use Rattle.ss_vcgen_express.proofs.Contexts.{HasContext-grown}
use Rattle.ss_vcgen_walk.specs.Asked.{asked_readable}
use Rattle.ss_vcgen_walk.specs.Parts.{parts_at}
use Rattle.ss_vcgen_walk.proofs.Composing.{parts_then}
use Rattle.ss_vcgen_walk.proofs.twos.ask_owners.Goals as goal

pub ask_readable-requires-2 : goal.ask_readable-requires-2
ask_readable-requires-2 c =
    let g = c.ask_readable.ensures.grown in
    record { context = HasContext-grown g c.args.context.now.expression.now c.requires.context; meant = HasMeant-grown g c.args.second.meant.now c.requires.second; parts = c.in_ok-ask_readable.ensures.asked.has }

pub returns-clause-asked : goal.returns-clause-asked
returns-clause-asked c =
    let a = c.args in
    on_ok_weaker c.ask_readable-2.result
    (parts_then c.ask_readable.new.bank c.ask_readable-2.new.bank c.ask_readable.new.parts.items c.ask_readable-2.new.parts.items (λ (b : Forms). parts_at b a.parts.now.items ++ asked_readable a.first.checked (context_at b a.context.now.expression.now) (meant_at b a.first.meant.now) a.place)
    (λ (b : Forms) (ps : List Marked). ps ++ asked_readable a.second.checked (context_at b a.context.now.expression.now) (meant_at b a.second.meant.now) a.place) c.ask_readable-2.ensures.grown c.in_ok-ask_readable.ensures.asked)
    c.ask_readable-2.ensures.asked
