-- The entry stores of frames.
use Rattle.std.specs.Prelude.{List, [], ◌∷◌}
use Rattle.ss_store_rules.specs.Store.{Object}
use Rattle.ss_machine_rules.specs.States.{Frame, State, Running, Done, Failed, Stopped}
use Rattle.ss_machine_typed.specs.Older.{IsOlder}

-- the store at the entry of each frame is older
abbrev pub AreOlderEntries : List Frame → List Object → Type 0
AreOlderEntries [] s = Unit {0}
AreOlderEntries (f ∷ fs) s = IsOlder f.entry s × AreOlderEntries fs s

-- that holds in a state that runs
abbrev pub HasOlderEntries : State → Type 0
HasOlderEntries (Running fs s before) = AreOlderEntries fs s
HasOlderEntries (Done s before) = Unit {0}
HasOlderEntries (Failed k at before) = Unit {0}
HasOlderEntries (Stopped at s before) = Unit {0}
