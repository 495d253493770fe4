use Rattle.std.proofs.Common.{◌-◌, length, ap, sym, ◌∙◌}
use Rattle.std.specs.Prelude.{slice_get}
use Rattle.ss_machine_saves.proofs.Listing.{drop_last}
use Rattle.ss_machine_saves.proofs.levels.drop_full.Goals as goal

pub returns : goal.returns
returns c =
    drop_last c.args.store.now.objects c.args.unfull.now.items c.pop.new.self.items c.in-Some.o c.pop.result c.pop.ensures.items
    (sym (c.in-Some.ensures ∙ c.last.ensures.value ∙ ap (λ xs. slice_get xs (length xs - 1)) c.deref.ensures.value))
    (sym c.if-not-is_full.ensures)
