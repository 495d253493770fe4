use Rattle.ss_logic_tables.proofs.Bodies.{formed_typed}
use Rattle.ss_logic_tables.proofs.spans_laws.formed_bodies_are_typed.Goals as goal

pub returns : goal.returns
returns c = formed_typed
