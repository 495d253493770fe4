-- Frames as points of an activation, and stores that are later for each of some frames.
use Rattle.std.specs.Prelude.{List, [], ◌∷◌}
use Rattle.ss_core.specs.Tree.{ClassTree, CoreTree}
use Rattle.ss_store_rules.specs.Store.{Object}
use Rattle.ss_machine_rules.specs.States.{Frame}
use Rattle.ss_machine_good.specs.Later.{IsLater}
use Rattle.ss_machine_good.specs.LaterFrames.{entry_size}
use Rattle.ss_logic.specs.Values.{Table}
use Rattle.ss_sound_outcomes.specs.Points.{Activation, Point}

abbrev pub activation_of : CoreTree → Frame → Table → Activation
activation_of c f table = record { program = c; body = f.body; entry = f.entry; table = table }

abbrev pub point_of : Frame → List Object → Point
point_of f s = record { locals = f.locals; store = s }

-- for each of the frames the store z is later than s
abbrev pub AreLater : List ClassTree → List Object → List Object → List Frame → Type 0
AreLater cs s z [] = Unit {0}
AreLater cs s z (f ∷ fs) = IsLater cs (entry_size f) s z × AreLater cs s z fs
