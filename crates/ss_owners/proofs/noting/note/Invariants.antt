use Rattle.std.proofs.Common.{◌≡◌, ◌++◌, map, drop}
use Rattle.ss_core.specs.Rules.{rule_number}
use Rattle.ss_owners_rules.specs.Program.{at}
use Rattle.ss_owners.proofs.noting.note.Given as goal

abbrev pub invariant-loop-place : goal.invariant-loop-place
invariant-loop-place l = l.found.items ++ map (at (rule_number l.rule)) (drop l.place-index l.places) ≡ l.initial.found.items ++ map (at (rule_number l.rule)) l.places
