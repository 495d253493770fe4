use Rattle.ss_logic_tables.proofs.Bodies.{seen_typed}
use Rattle.ss_logic_tables.proofs.spans_laws.seen_bodies_are_typed.Goals as goal

pub returns : goal.returns
returns c = seen_typed
