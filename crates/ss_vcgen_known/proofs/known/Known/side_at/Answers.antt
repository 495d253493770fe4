use Rattle.std.proofs.Common.{arith}
use Rattle.ss_bit_set.specs.Marked.{marked}
use Rattle.ss_vcgen_known.specs.Views.{pair_of}
use Rattle.ss_vcgen_known.proofs.Setting.{past_side}
use Rattle.ss_vcgen_known.proofs.known.Known.side_at.Goals as goal

pub returns-else-x-len : goal.returns-else-x-len
returns-else-x-len c =
    let k = c.args.self.now in
    past_side pair_of k.sides.items (marked k.beyond) c.args.x c.args.outcome (omega (arith, c.len.ensures, c.if-x-len.false, k.sides.ok.0))
