use Rattle.std.specs.Prelude.{pos}
use Rattle.ss_linear.proofs.Glue.{have_part}
use Rattle.ss_linear.proofs.few.first_left.Goals as goal

pub returns-then-not-is_zero : goal.returns-then-not-is_zero
returns-then-not-is_zero c = λ b h. have_part b c.args.parts.now c.loop-p.p-index (record { term = record { 0 = 0 }; coefficient = pos 0 }) h c.loop-p-test.true
