use Rattle.std.proofs.Common.{◌≡◌, ◌++◌, map, drop}
use Rattle.ss_core.specs.View.{field_of}
use Rattle.ss_typed.specs.View.{field}
use Rattle.ss_owners_rules.specs.Program.{fields_faults}
use Rattle.ss_owners.proofs.program.check_fields.Given as goal

abbrev pub invariant-loop-place : goal.invariant-loop-place
invariant-loop-place l = l.found.items ++ fields_faults (map field (drop l.place l.fields)) (map field_of (drop l.place l.entries)) ≡ l.initial.found.items ++ fields_faults (map field l.fields) (map field_of l.entries)
