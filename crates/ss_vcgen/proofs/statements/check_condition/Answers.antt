use Rattle.ss_core.specs.declared.names.Kind.TheVariants as kind
use Rattle.ss_core.specs.View.{expr}
use Rattle.ss_terms.specs.Forms.{Forms}
use Rattle.ss_vcgen_heaps.specs.Positions.{holds_at, check}
use Rattle.ss_vcgen_builder.specs.Builder.{position_at, walk_at}
use Rattle.ss_vcgen_statements.proofs.Steps.{then_formula}
use Rattle.ss_vcgen.proofs.statements.check_condition.Goals as goal

pub returns : goal.returns
returns c =
    let s = c.args.builder.now in
    let w = λ (b : Forms). walk_at b c.args.walk.now in
    let F0 = λ (b : Forms). position_at b s in
    then_formula s c.holds_at.new.builder c.check.new.self F0 c.in_ok-f.ensures.stays c.in_ok-f.f (λ b. holds_at (w b) (F0 b) (expr c.args.e.now)) (λ b f k. check (w b) kind.Assert c.args.at f k) c.in_ok-f.ensures.at c.in_ok-check.ensures
