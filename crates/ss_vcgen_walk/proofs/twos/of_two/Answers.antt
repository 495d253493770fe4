use Rattle.ss_terms.specs.Forms.{Forms}
use Rattle.ss_vcgen_express.specs.Numbers.{meant_at}
use Rattle.ss_vcgen_express.specs.Contexts.{context_at}
use Rattle.ss_vcgen_express.proofs.Grown.{HasMeant-grown}
use Rattle.ss_vcgen_express.proofs.Contexts.{HasContext-grown}
use Rattle.ss_vcgen_walk.specs.Forms.{two_meant, two_asks}
use Rattle.ss_vcgen_walk.specs.Parts.{parts_at}
use Rattle.ss_vcgen_walk.proofs.Composing.{AreParts-grown, expressed_by}
use Rattle.ss_vcgen_walk.proofs.twos.of_two.Goals as goal

pub two_meant-requires : goal.two_meant-requires
two_meant-requires c =
    let g = c.ask_two_after.ensures.grown in
    record { context = HasContext-grown g c.args.context.now.expression.now c.requires.context; first = HasMeant-grown g c.args.x c.requires.first; second = HasMeant-grown g c.args.second.meant.now c.requires.second }

pub returns-clause-expressed : goal.returns-clause-expressed
returns-clause-expressed c =
    let a = c.args in
    expressed_by c.two_meant.result c.two_meant.new.bank c.ask_two_after.new.parts.items
    (λ (b : Forms). two_meant a.form (context_at b a.context.now.expression.now) (meant_at b a.x) (meant_at b a.second.meant.now))
    (λ (b : Forms). two_asks a.form (parts_at b a.parts.now.items) (parts_at b a.second.parts.now) (context_at b a.context.now.expression.now) (meant_at b a.x) (meant_at b a.second.meant.now))
    c.two_meant.ensures.at (AreParts-grown c.two_meant.ensures.grown c.in_ok-ask_two_after.ensures.asked)
