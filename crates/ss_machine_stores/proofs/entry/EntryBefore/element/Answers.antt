use Rattle.std.proofs.Common.{ap, sym, ◌∙◌}
use Rattle.std.specs.Prelude.{unwrap_or, slice_get}
use Rattle.ss_store_rules.specs.declared.Value.TheVariants as value
use Rattle.ss_store_rules.specs.Reads.{object_at, is_allocated, element_read}
use Rattle.ss_journal.specs.Shapes.{OldContent}
use Rattle.ss_machine_stores.proofs.Entries.{element_logged, element_now}
use Rattle.ss_machine_stores.proofs.entry.EntryBefore.element.Goals as goal

pub returns-in-Some : goal.returns-in-Some
returns-in-Some c =
    let there = ap (λ t. is_allocated t c.args.a) c.self.view_is ∙ sym c.if-not-allocated.ensures in
    c.element_of.ensures
    ∙ ap (λ es. unwrap_or (slice_get es c.args.i) value.Null) (c.deref.ensures.value ∙ ap (λ (o : OldContent). o.elements) c.old.view_is)
    ∙ element_logged c.self.inside.journal.now c.self.inside.store.now.objects c.args.a c.args.i c.in-Some.old.now there (sym c.in-Some.ensures)
    ∙ ap (λ t. element_read (object_at t c.args.a) c.args.i) c.self.view_is

pub returns-in-None : goal.returns-in-None
returns-in-None c =
    let there = ap (λ t. is_allocated t c.args.a) c.self.view_is ∙ sym c.if-not-allocated.ensures in
    c.element.ensures
    ∙ element_now c.self.inside.journal.now c.self.inside.store.now.objects c.args.a c.args.i there (sym c.in-None.ensures)
    ∙ ap (λ t. element_read (object_at t c.args.a) c.args.i) c.self.view_is
