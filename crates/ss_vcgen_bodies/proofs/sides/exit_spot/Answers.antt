use Rattle.ss_core.specs.View.{expr}
use Rattle.std.proofs.Common.{sym, ◌∙◌}
use Rattle.ss_vcgen_bodies.proofs.Spots.{spot_never, spot_there}
use Rattle.ss_vcgen_bodies.proofs.sides.exit_spot.Goals as goal

pub returns-then-is_literal_true : goal.returns-then-is_literal_true
returns-then-is_literal_true c = λ a says h. spot_never a c.args.spot says h (expr c.args.e.now) (sym c.is_literal_true.ensures ∙ c.if-is_literal_true.true)

pub returns-else-is_literal_true : goal.returns-else-is_literal_true
returns-else-is_literal_true c = λ a says h. spot_there a c.args.spot says h (expr c.args.e.now) (sym c.is_literal_true.ensures ∙ c.if-is_literal_true.false)
