use Rattle.std.proofs.Common.{◌≡◌, ◌<◌, ℕ, true, Some}
use Rattle.std.specs.Prelude.{slice_get}
use Rattle.ss_store_rules.specs.Store.{Object}
use Rattle.ss_journal.specs.Saved.{HasMore, has_header}
use Rattle.ss_machine_saves.specs.Moved.{has_owner}
use Rattle.ss_machine_saves.proofs.owners.save_below.Given as goal

abbrev pub invariant-loop-q : goal.invariant-loop-q
invariant-loop-q l = record {
  more : HasMore l.store.objects l.fn.journal l.journal;
  saved : (p : ℕ) (x : Object) → p < l.q → slice_get l.store.objects p ≡ Some x → has_owner l.those x.owner ≡ true → has_header l.journal p ≡ true;
}
