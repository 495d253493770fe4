use Rattle.std.proofs.Common.{◌≡◌, drop}
use Rattle.std.specs.List.{list_all}
use Rattle.ss_machine_stores.specs.Spans.{span_of, keeps}
use Rattle.ss_machine_stores.proofs.span.Span.these_keep.Given as goal

abbrev pub invariant-loop-content : goal.invariant-loop-content
invariant-loop-content l = list_all (λ o. keeps (span_of l.self) o.position) (drop l.content-index l.contents) ≡ list_all (λ o. keeps (span_of l.self) o.position) l.contents
