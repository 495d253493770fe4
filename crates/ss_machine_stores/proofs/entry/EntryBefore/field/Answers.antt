use Rattle.std.proofs.Common.{ap, sym, ◌∙◌}
use Rattle.std.specs.Prelude.{unwrap_or}
use Rattle.ss_store_rules.specs.declared.Value.TheVariants as value
use Rattle.ss_store_rules.specs.Store.{slot_value}
use Rattle.ss_store_rules.specs.Reads.{object_at, is_allocated, field_read}
use Rattle.ss_journal.specs.Shapes.{OldContent}
use Rattle.ss_machine_stores.proofs.Entries.{field_logged, field_now}
use Rattle.ss_machine_stores.proofs.entry.EntryBefore.field.Goals as goal

pub returns-in-Some : goal.returns-in-Some
returns-in-Some c =
    let there = ap (λ t. is_allocated t c.args.o) c.self.view_is ∙ sym c.if-not-allocated.ensures in
    c.field_of.ensures
    ∙ ap (λ fs. unwrap_or (slot_value fs c.args.f.0) value.Null) (c.deref.ensures.value ∙ ap (λ (o : OldContent). o.fields) c.old.view_is)
    ∙ field_logged c.self.inside.journal.now c.self.inside.store.now.objects c.args.o c.args.f.0 c.in-Some.old.now there (sym c.in-Some.ensures)
    ∙ ap (λ t. field_read (object_at t c.args.o) c.args.f.0) c.self.view_is

pub returns-in-None : goal.returns-in-None
returns-in-None c =
    let there = ap (λ t. is_allocated t c.args.o) c.self.view_is ∙ sym c.if-not-allocated.ensures in
    c.field.ensures
    ∙ field_now c.self.inside.journal.now c.self.inside.store.now.objects c.args.o c.args.f.0 there (sym c.in-None.ensures)
    ∙ ap (λ t. field_read (object_at t c.args.o) c.args.f.0) c.self.view_is
