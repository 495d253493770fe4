-- What holds of each state of a run.
use Rattle.std.specs.Prelude.{List, [], ◌∷◌}
use Rattle.ss_core.specs.Tree.{CoreTree}
use Rattle.ss_store_rules.specs.Store.{Object}
use Rattle.ss_machine_rules.specs.States.{Frame, State, Running, Done, Failed, Stopped, Next, Goes, Over, Fails, Stops}
use Rattle.ss_machine_rules.specs.Good.{IsGoodStore}
use Rattle.ss_machine_good.specs.LaterFrames.{IsGoodFrame, AreWaiting, AreNew}

-- The first frame runs, and each one below waits for the one above it.
abbrev pub IsGoodStack : CoreTree → List Frame → List Object → Type 0
IsGoodStack c [] s = IsGoodStore c s
IsGoodStack c (f ∷ fs) s = IsGoodFrame c f s × AreWaiting c s f fs × AreNew (f ∷ fs)

abbrev pub HasGoodStack : CoreTree → State → Type 0
HasGoodStack c (Running fs s before) = IsGoodStack c fs s
HasGoodStack c (Done s before) = IsGoodStore c s
HasGoodStack c (Failed k at before) = Unit {0}
HasGoodStack c (Stopped at s before) = IsGoodStore c s

-- what a step goes on with
abbrev pub GoesGood : CoreTree → Next → Type 0
GoesGood c (Goes fs s piece) = IsGoodStack c fs s
GoesGood c (Over s) = IsGoodStore c s
GoesGood c (Fails k at) = Unit {0}
GoesGood c (Stops at) = Unit {0}
