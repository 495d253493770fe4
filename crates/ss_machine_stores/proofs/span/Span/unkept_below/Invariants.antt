use Rattle.std.proofs.Common.{◌≡◌, drop}
use Rattle.ss_machine_rules.specs.Frame.{unkept, unkept_from}
use Rattle.ss_machine_stores.specs.Firsts.{first}
use Rattle.ss_machine_stores.specs.Spans.{span_of}
use Rattle.ss_machine_stores.proofs.span.Span.unkept_below.Given as goal

abbrev pub invariant-loop-o : goal.invariant-loop-o
invariant-loop-o l = first (unkept_from (span_of l.self) l.o (drop l.o (span_of l.self).now)) ≡ first (unkept (span_of l.self))
