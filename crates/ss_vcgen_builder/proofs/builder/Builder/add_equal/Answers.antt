use Rattle.ss_logic.specs.Shapes.{equal}
use Rattle.ss_terms.specs.Forms.{term_at}
use Rattle.ss_vcgen_heaps.specs.Positions as spec
use Rattle.ss_vcgen_builder.specs.Builder.{guard_of, position_at}
use Rattle.ss_vcgen_builder.proofs.Builds.{becomes_said, on_ok}
use Rattle.ss_vcgen_builder.proofs.builder.Builder.add_equal.Goals as goal

pub returns : goal.returns
returns c =
    let s = c.args.self.now in
    on_ok c.add_under.result
    (becomes_said (λ f k. spec.with_premise (spec.under (guard_of c.args.guard) f) k) s c.equation.new.self c.add_under.new.self c.in_ok-f.f (λ b. position_at b s) (λ b. equal (term_at b c.args.s) (term_at b c.args.t)) c.equation.ensures.stays
    c.in_ok-f.ensures.at)
    c.add_under.ensures
