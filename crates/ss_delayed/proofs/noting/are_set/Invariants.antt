use Rattle.std.proofs.Common.{◌≡◌, map, drop}
use Rattle.ss_core.specs.View.{field_of}
use Rattle.ss_bit_set.specs.Marked.{marked}
use Rattle.ss_delayed_rules.specs.Constructors.{are_assigned_from}
use Rattle.ss_delayed.proofs.noting.are_set.Given as goal

abbrev pub invariant-loop-place : goal.invariant-loop-place
invariant-loop-place l = are_assigned_from (marked l.own) l.place (map field_of (drop l.place l.fields)) ≡ are_assigned_from (marked l.own) 0 (map field_of l.fields)
