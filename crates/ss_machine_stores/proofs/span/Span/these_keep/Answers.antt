use Rattle.std.proofs.Common.{ap, sym, ◌∙◌}
use Rattle.std.specs.List.{list_all}
use Rattle.ss_journal.specs.Shapes.{OldContent}
use Rattle.ss_machine_stores.specs.Spans.{span_of, keeps}
use Rattle.ss_machine_saves.proofs.Listing.{one_fails, one_holds}
use Rattle.ss_machine_stores.proofs.span.Span.these_keep.Goals as goal

pub returns-then-not-keeps : goal.returns-then-not-keeps
returns-then-not-keeps c =
    let k = keeps (span_of c.args.self.now) in
    one_fails (λ (o : OldContent). k o.position) c.args.contents.now c.loop-content.content-index c.content-item.result (list_all (λ (o : OldContent). k o.position) c.args.contents.now) c.loop-content-test.true c.content-item.is
    (sym (c.if-not-keeps.ensures ∙ ap (λ (o : OldContent). k o.position) c.content.view_is))
    c.loop-content.invariant

pub loop-content-preserved : goal.loop-content-preserved
loop-content-preserved c =
    let k = keeps (span_of c.args.self.now) in
    one_holds (λ (o : OldContent). k o.position) c.args.contents.now c.loop-content.content-index c.content-item.result (list_all (λ (o : OldContent). k o.position) c.args.contents.now) c.loop-content-test.true c.content-item.is
    (sym (c.if-not-keeps.ensures ∙ ap (λ (o : OldContent). k o.position) c.content.view_is))
    c.loop-content.invariant
