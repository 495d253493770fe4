-- What a change of the store did, where it may want memory.
use Rattle.std.specs.Prelude.{◌≡◌, List, Result, Ok, Err}
use Rattle.ss_core.specs.declared.names.Kind.{Kind}
use Rattle.ss_store_rules.specs.declared.Refused.{Refused}
use Rattle.ss_store_rules.specs.Store.{Object}
use Rattle.ss_machine_stores.specs.declared.stop.ChangeStop.{ChangeStop}
use Rattle.ss_machine_stores.specs.declared.stop.ChangeStop.TheVariants as stop

abbrev pub answer_of : Result (Unit {0}) Refused → Result (Unit {0}) ChangeStop
answer_of (Ok u) = Ok u
answer_of (Err e) = Err (stop.Refused e)

-- the new store, or the check that failed and the store as it was; or there was no memory, and the store is as it was
abbrev pub IsMade : List Object → List Object → Result (Unit {0}) ChangeStop → Result (List Object) Kind → Type 0
IsMade old new (Ok u) r = r ≡ Ok new
IsMade old new (Err (stop.Refused e)) r = (r ≡ Err e.kind) × (new ≡ old)
IsMade old new (Err stop.Memory) r = new ≡ old
