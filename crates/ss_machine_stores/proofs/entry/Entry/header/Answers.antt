use Rattle.std.proofs.Common.{ap, subst, sym, ◌∙◌}
use Rattle.ss_store_rules.specs.Reads.{object_at, is_allocated}
use Rattle.ss_journal.specs.Undo.{IsHeaderOf}
use Rattle.ss_machine_stores.proofs.Entries.{header_logged, header_now}
use Rattle.ss_machine_stores.proofs.entry.Entry.header.Goals as goal

pub returns-in-Some : goal.returns-in-Some
returns-in-Some c =
    let there = ap (λ t. is_allocated t c.args.o) c.self.view_is ∙ sym c.if-not-allocated.ensures in
    subst (λ t. IsHeaderOf c.in-Some.old (object_at t c.args.o)) c.self.view_is
    (header_logged c.self.inside.journal.now c.self.inside.store.now.objects c.args.o c.in-Some.old there (sym c.in-Some.ensures))

pub returns-in-None : goal.returns-in-None
returns-in-None c =
    let there = ap (λ t. is_allocated t c.args.o) c.self.view_is ∙ sym c.if-not-allocated.ensures in
    subst (λ t. IsHeaderOf c.header_at.result (object_at t c.args.o)) c.self.view_is
    (header_now c.self.inside.journal.now c.self.inside.store.now.objects c.args.o c.header_at.result there (sym c.in-None.ensures) c.header_at.ensures.header)
