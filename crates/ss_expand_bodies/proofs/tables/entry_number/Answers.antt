use Rattle.std.proofs.Common.{map}
use Rattle.ss_typed.specs.View.{typed}
use Rattle.ss_expand_bodies.specs.Origins.{origin_of}
use Rattle.ss_expand_bodies.proofs.ByClass.{listed_by_class}
use Rattle.ss_expand_bodies.proofs.tables.entry_number.Goals as goal

pub number_among-requires : goal.number_among-requires
number_among-requires c = record { by_class = listed_by_class (typed c.args.program.now) (map origin_of c.args.origins.now) c.requires.listed }
