use Rattle.std.proofs.Common.{◌++◌, map}
use Rattle.ss_logic.specs.Express as spec
use Rattle.ss_terms.specs.Forms.{Forms, formulas_at}
use Rattle.ss_terms.proofs.Grown.{HasFormulas-grown}
use Rattle.ss_vcgen_express.specs.Marked.{with_marked}
use Rattle.ss_vcgen_express.specs.Numbers.{meant_at}
use Rattle.ss_vcgen_express.specs.Contexts.{for_each, quantified_over}
use Rattle.ss_vcgen_express.proofs.Grown.{HasMeant-grown}
use Rattle.ss_vcgen_walk.specs.Parts.{parts_at}
use Rattle.ss_vcgen_walk.proofs.Composing.{AreParts-grown, expressed_by}
use Rattle.ss_vcgen_walk.proofs.walk.of_member.Goals as goal

pub quantify-requires : goal.quantify-requires
quantify-requires c =
    let g = c.add_for_each.ensures.grown in
    record { range = HasFormulas-grown c.args.bank.now c.add_for_each.new.bank g c.args.out.now c.requires.range; meant = HasMeant-grown g c.args.member.meant.now c.requires.meant }

pub returns-clause-expressed : goal.returns-clause-expressed
returns-clause-expressed c =
    let a = c.args in
    expressed_by c.quantify.result c.quantify.new.bank c.add_for_each.new.parts.items
    (λ (b : Forms). spec.Says (quantified_over a.quantifier (formulas_at b a.out.now) (spec.said (meant_at b a.member.meant.now))))
    (λ (b : Forms). parts_at b a.parts.now.items ++ map (with_marked (for_each (formulas_at b a.out.now))) (parts_at b a.member.parts.now))
    c.quantify.ensures.at (AreParts-grown c.quantify.ensures.grown c.in_ok-add_for_each.ensures.asked)
