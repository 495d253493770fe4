use Rattle.std.proofs.Common.{subst}
use Rattle.ss_store.specs.Listed.{HoldsNoOther}
use Rattle.ss_machine_saves.specs.Moved.{IsSavedAt}
use Rattle.ss_machine_saves.proofs.Held.{those_saved, on_ok_then}
use Rattle.ss_machine_saves.proofs.owners.save_those.Goals as goal

pub returns-in_ok-save_at-in-Some-clause-saved : goal.returns-in_ok-save_at-in-Some-clause-saved
returns-in_ok-save_at-in-Some-clause-saved c =
    let s = c.args.store.now.objects in
    let o = c.holder_of-o.ensures in
    on_ok_then c.save_among.result
    (those_saved c.args.those s c.save_at.new.journal c.save_among.new.journal c.in-Some.positions.now
    (subst (λ k. HoldsNoOther s k c.in-Some.positions.now) o c.in-Some.ensures)
    c.save_among.ensures.more
    (subst (λ k. IsSavedAt c.args.those s c.save_at.new.journal k) o c.in_ok-save_at-in-Some.ensures.saved))
    c.save_among.ensures.saved
