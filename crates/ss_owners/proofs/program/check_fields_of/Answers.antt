use Rattle.std.proofs.Common.{map}
use Rattle.ss_typed.specs.View.{field}
use Rattle.ss_owners.proofs.Entries.{nothing_entered}
use Rattle.ss_owners.proofs.program.check_fields_of.Goals as goal

pub returns-in-None : goal.returns-in-None
returns-in-None c = nothing_entered (map field c.args.fields.now) c.args.class c.args.found.now.items c.in-None.is
