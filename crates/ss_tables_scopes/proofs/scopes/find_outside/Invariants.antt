use Rattle.std.proofs.Common.{◌≡◌, length, reverse}
use Rattle.ss_tables.specs.Named.{named_among}
use Rattle.ss_tables_scopes.proofs.scopes.find_outside.Given as goal

abbrev pub invariant-loop-scope : goal.invariant-loop-scope
invariant-loop-scope g l = named_among (reverse l.rest) l.name ≡ named_among (reverse l.scopes) l.name

abbrev pub decreases-loop-scope : goal.decreases-loop-scope
decreases-loop-scope g l = length l.rest
