use Rattle.std.proofs.Common.{◌≡◌, map, take}
use Rattle.ss_core.specs.View as core
use Rattle.ss_expand_rules.specs.Statements as statements
use Rattle.ss_expand_bodies.specs.Exposes.{opened_of}
use Rattle.ss_expand_bodies.proofs.exposes.list_exposed.Given as goal

abbrev pub invariant-loop-opened : goal.invariant-loop-opened
invariant-loop-opened l = map core.exposed_tree l.list.items ≡ map statements.exposed (map opened_of (take l.opened-index l.exposes))
