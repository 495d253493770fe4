use Rattle.ss_linear.proofs.Glue.{left_more, have_part}
use Rattle.ss_linear.proofs.facts.parts_left.Goals as goal
use Rattle.std.specs.Prelude.{pos}

pub loop-part-preserved : goal.loop-part-preserved
loop-part-preserved c = record {
  left = λ b. left_more b c.args.parts.now c.loop-part.part-index (record { term = record { 0 = 0 }; coefficient = pos 0 }) c.loop-part.left.items c.push_left.new.left.items c.loop-part-test.true (c.loop-part.invariant.left b) (c.in_ok-push_left.ensures.left b);
  has = λ b h. c.in_ok-push_left.ensures.has b (have_part b c.args.parts.now c.loop-part.part-index (record { term = record { 0 = 0 }; coefficient = pos 0 }) h c.loop-part-test.true) (c.loop-part.invariant.has b h);
}
