use Rattle.std.proofs.Common.{◌≡◌, ℕ, true, take}
use Rattle.ss_journal.specs.Saved.{HasMore}
use Rattle.ss_machine_saves.specs.Whole.{is_listed}
use Rattle.ss_machine_saves.specs.Moved.{IsSavedAt}
use Rattle.ss_machine_saves.proofs.owners.save_among.Given as goal

abbrev pub invariant-loop-q : goal.invariant-loop-q
invariant-loop-q l = record {
  more : HasMore l.store.objects l.fn.journal l.journal;
  saved : (q : ℕ) → is_listed (take l.q-index l.positions) q ≡ true → IsSavedAt l.those l.store.objects l.journal q;
}
