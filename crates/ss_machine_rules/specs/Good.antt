-- Good states, and states in which no check has failed.
use Rattle.std.specs.Prelude.{List, [], ◌∷◌}
use Rattle.ss_core.specs.Tree.{CoreTree}
use Rattle.ss_store_rules.specs.Store.{Object}
use Rattle.ss_store_rules.specs.Good.{IsGood}
use Rattle.ss_store_rules.specs.Admissible.{invariants_hold}
use Rattle.ss_store_rules.specs.States.{AreGoodLocals}
use Rattle.ss_machine_rules.specs.States.{Frame, State, Running, Done, Failed, Stopped}

-- the locals of each frame are of their types, allocated and ready
abbrev pub AreGoodFrames : CoreTree → List Object → List Frame → Type 0
AreGoodFrames c s [] = Unit {0}
AreGoodFrames c s (f ∷ fs) = AreGoodLocals c.classes s f.body f.locals × AreGoodFrames c s fs

abbrev pub IsGoodStore : CoreTree → List Object → Type 0
IsGoodStore c s = IsGood c.classes (invariants_hold c.classes) s

-- the store is good, and so are the locals of each frame; nothing is said of a state that has failed
abbrev pub IsGoodState : CoreTree → State → Type 0
IsGoodState c (Running fs s before) = IsGoodStore c s × AreGoodFrames c s fs
IsGoodState c (Done s before) = IsGoodStore c s
IsGoodState c (Failed k at before) = Unit {0}
IsGoodState c (Stopped at s before) = IsGoodStore c s

-- no check has failed
abbrev pub IsUnfailed : State → Type 0
IsUnfailed (Running fs s before) = Unit {0}
IsUnfailed (Done s before) = Unit {0}
IsUnfailed (Failed k at before) = ⊥
IsUnfailed (Stopped at s before) = Unit {0}
