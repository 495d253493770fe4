use Rattle.ss_expand_formed.proofs.WritesFirst.{write_this_first as law}
use Rattle.ss_expand_formed.proofs.construction_laws.write_this_first.Goals as goal

pub returns : goal.returns
returns c = law
