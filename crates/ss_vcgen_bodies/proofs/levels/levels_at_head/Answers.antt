use Rattle.std.proofs.Common.{map}
use Rattle.ss_core.specs.View.{classes, exposed_tree}
use Rattle.ss_logic.specs.Express.{and_of}
use Rattle.ss_terms.specs.Forms.{Forms}
use Rattle.ss_vcgen_heaps.specs.Obligations as spec
use Rattle.ss_vcgen_builder.specs.Builder.{position_at}
use Rattle.ss_vcgen_statements.proofs.Steps.{stays_then, formula_of}
use Rattle.ss_vcgen_bodies.proofs.Making.{formulas_so}
use Rattle.ss_vcgen_bodies.proofs.levels.levels_at_head.Goals as goal

pub each_of-requires-clause-formulas : goal.each_of-requires-clause-formulas
each_of-requires-clause-formulas c = rw c.deref.ensures.value c.in_ok-parts.ensures.at.has

pub returns-clause-at : goal.returns-clause-at
returns-clause-at c =
    let s = c.args.builder.now in
    let t1 = c.exposed_formulas.new.builder in
    let say = λ (b : Forms). spec.exposed_formulas (classes c.args.walk.now.core.now.classes) (map exposed_tree c.args.exposes.now) (position_at b s) in
    formula_of t1.bank c.each_of.new.builder.bank c.in_ok-f.f c.deref.result.now and_of say c.in_ok-f.ensures.stays.grown
    (formulas_so t1.bank c.deref.result.now c.in_ok-parts.parts.items say c.deref.ensures.value c.in_ok-parts.ensures.at) c.in_ok-f.ensures.at

pub returns-clause-stays : goal.returns-clause-stays
returns-clause-stays c = stays_then c.args.builder.now c.exposed_formulas.new.builder c.each_of.new.builder c.in_ok-parts.ensures.stays c.in_ok-f.ensures.stays
