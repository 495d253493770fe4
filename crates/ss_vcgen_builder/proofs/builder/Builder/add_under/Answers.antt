use Rattle.ss_terms.specs.Forms.{formula_at}
use Rattle.ss_vcgen_heaps.specs.Positions as spec
use Rattle.ss_vcgen_builder.specs.Builder.{guard_of, position_at}
use Rattle.ss_vcgen_builder.proofs.Builds.{becomes_said, on_ok}
use Rattle.ss_vcgen_builder.proofs.builder.Builder.add_under.Goals as goal

pub returns : goal.returns
returns c =
    let s = c.args.self.now in
    on_ok c.add_premise.result
    (becomes_said (λ g k. spec.with_premise g k) s c.under.new.self c.add_premise.new.self c.in_ok-g.g (λ b. position_at b s) (λ b. spec.under (guard_of c.args.guard) (formula_at b c.args.f)) c.under.ensures.stays c.in_ok-g.ensures.at)
    c.add_premise.ensures
