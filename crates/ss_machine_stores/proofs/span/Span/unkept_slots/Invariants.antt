use Rattle.std.proofs.Common.{◌≡◌, drop}
use Rattle.std.specs.Prelude.{flat_map}
use Rattle.ss_machine_rules.specs.Frame.{unkept_field}
use Rattle.ss_machine_stores.specs.Firsts.{first}
use Rattle.ss_machine_stores.specs.Spans.{span_of}
use Rattle.ss_machine_stores.proofs.span.Span.unkept_slots.Given as goal

abbrev pub invariant-loop-slot : goal.invariant-loop-slot
invariant-loop-slot l = first (flat_map (unkept_field (span_of l.self) l.o) (drop l.slot-index l.fields)) ≡ first (flat_map (unkept_field (span_of l.self) l.o) l.fields)
