use Rattle.ss_bit_set.specs.Marked.{marked}
use Rattle.ss_core.specs.View.{stmt_of}
use Rattle.ss_vcgen_known.specs.Views.{known_of}
use Rattle.ss_vcgen_known.proofs.Forgetting.{forgotten_at_head}
use Rattle.ss_vcgen_known.proofs.known.Known.head.Goals as goal

pub returns : goal.returns
returns c = forgotten_at_head (stmt_of c.args.stmt.now) (marked c.in_ok-set.set) (known_of c.forget.new.self) (known_of c.args.self.now) c.in_ok-set.ensures c.in_ok-forget.ensures
