use Rattle.std.proofs.Common.{◌≡◌, ◌++◌, drop}
use Rattle.ss_delayed_rules.specs.Constructors.{escapes}
use Rattle.ss_delayed.proofs.noting.note_escapes.Given as goal

abbrev pub invariant-loop-place : goal.invariant-loop-place
invariant-loop-place l = l.found.items ++ escapes (drop l.place-index l.places) ≡ l.initial.found.items ++ escapes l.places
