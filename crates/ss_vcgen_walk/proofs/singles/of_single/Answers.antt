use Rattle.ss_terms.specs.Forms.{Forms}
use Rattle.ss_vcgen_express.specs.Numbers.{meant_at}
use Rattle.ss_vcgen_express.specs.Contexts.{context_at}
use Rattle.ss_vcgen_express.proofs.Grown.{HasMeant-grown}
use Rattle.ss_vcgen_express.proofs.Contexts.{HasContext-grown}
use Rattle.ss_vcgen_walk.specs.Forms.{single_meant, single_asks}
use Rattle.ss_vcgen_walk.specs.Parts.{parts_at}
use Rattle.ss_vcgen_walk.proofs.Composing.{AreParts-grown, expressed_by}
use Rattle.ss_vcgen_walk.proofs.singles.of_single.Goals as goal

pub single_meant-requires : goal.single_meant-requires
single_meant-requires c =
    let g = c.ask_single.ensures.grown in
    record { context = HasContext-grown g c.args.context.now.expression.now c.requires.context; meant = HasMeant-grown g c.args.m.now c.requires.meant }

pub returns-clause-expressed : goal.returns-clause-expressed
returns-clause-expressed c =
    let a = c.args in
    expressed_by c.single_meant.result c.single_meant.new.bank c.ask_single.new.parts.items
    (λ (b : Forms). single_meant a.form (context_at b a.context.now.expression.now) (meant_at b a.m.now)) (λ (b : Forms). single_asks a.form (parts_at b a.parts.now.items) (context_at b a.context.now.expression.now) (meant_at b a.m.now))
    c.single_meant.ensures.at (AreParts-grown c.single_meant.ensures.grown c.in_ok-ask_single.ensures.asked)
