use Rattle.ss_terms.specs.Forms.{Forms}
use Rattle.ss_vcgen_heaps.specs.Positions.{assume_all}
use Rattle.ss_vcgen_builder.specs.Builder.{position_at, walk_at}
use Rattle.ss_vcgen_statements.proofs.Steps.{then_formulas}
use Rattle.ss_vcgen_bodies.proofs.Making.{formulas_so}
use Rattle.ss_vcgen.specs.Bodies.{entry_formulas}
use Rattle.ss_vcgen.proofs.bodies.know_entry.Goals as goal

pub assume_all-requires-clause-formulas : goal.assume_all-requires-clause-formulas
assume_all-requires-clause-formulas c = rw c.deref.ensures.value c.in_ok-said.ensures.at.has

pub returns : goal.returns
returns c =
    let s = c.args.builder.now in
    let F0 = λ (b : Forms). position_at b s in
    let t1 = c.entry_formulas.new.builder in
    let says = λ (b : Forms). entry_formulas (walk_at b c.args.walk.now) c.args.types.now (F0 b) in
    then_formulas s t1 c.assume_all.new.self F0 c.in_ok-said.ensures.stays c.deref.result.now says (λ b f k. assume_all f k) (formulas_so t1.bank c.deref.result.now c.in_ok-said.said.items says c.deref.ensures.value c.in_ok-said.ensures.at) c.in_ok-assume_all.ensures
