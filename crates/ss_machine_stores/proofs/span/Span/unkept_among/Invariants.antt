use Rattle.std.proofs.Common.{◌≡◌, drop}
use Rattle.ss_machine_rules.specs.Frame.{unkept_elements_from}
use Rattle.ss_machine_stores.specs.Firsts.{first}
use Rattle.ss_machine_stores.specs.Spans.{span_of}
use Rattle.ss_machine_stores.proofs.span.Span.unkept_among.Given as goal

abbrev pub invariant-loop-i : goal.invariant-loop-i
invariant-loop-i l = first (unkept_elements_from (span_of l.self) l.o l.i (drop l.i l.elements)) ≡ first (unkept_elements_from (span_of l.self) l.o 0 l.elements)
