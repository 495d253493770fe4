use Rattle.std.proofs.Common.{arith}
use Rattle.ss_bit_set.specs.Marked.{marked}
use Rattle.ss_vcgen_known.specs.Views.{pair_of, fields_of}
use Rattle.ss_vcgen_known.proofs.Setting.{silent}
use Rattle.ss_vcgen_known.proofs.known.Known.is_silent.Goals as goal

pub returns-else-x-len : goal.returns-else-x-len
returns-else-x-len c said =
    let k = c.args.self.now in
    let empty = c.are_empty.ensures said in
    silent pair_of (marked k.facts) k.sides.items (marked k.beyond) (fields_of k.fields) c.args.x (marked c.args.holds.now) (marked c.args.fails.now)
    (omega (arith, c.len.ensures, c.if-x-len.false, k.sides.ok.0))
    empty.0 empty.1 empty.2
