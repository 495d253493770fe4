use Rattle.ss_terms.specs.Forms.{formula_at}
use Rattle.ss_vcgen_heaps.specs.Positions as spec
use Rattle.ss_vcgen_builder.specs.Builder.{guard_of, walk_at}
use Rattle.ss_vcgen_builder.proofs.Builds.{becomes_checked, on_ok}
use Rattle.ss_vcgen_builder.proofs.builder.Builder.check.Goals as goal

pub returns : goal.returns
returns c =
    on_ok c.add_premise.result
    (becomes_checked c.args.self.now c.under.new.self c.list_goal.new.self c.add_premise.new.self (λ b. walk_at b c.args.walk.now) c.args.kind c.args.place c.in_ok-goal.goal (λ b. spec.under (guard_of c.args.self.now.guard) (formula_at b c.args.f))
    c.under.ensures.stays c.in_ok-goal.ensures.at c.in_ok-list_goal.ensures)
    c.add_premise.ensures
