-- A good frame is at a sound point.
use Rattle.std.proofs.Common.{List}
use Rattle.ss_core.specs.Tree.{CoreTree}
use Rattle.ss_store_rules.specs.Store.{Object}
use Rattle.ss_machine_rules.specs.States.{Frame}
use Rattle.ss_machine_good.specs.LaterFrames.{IsGoodFrame}
use Rattle.ss_logic.specs.Values.{Table}
use Rattle.ss_sound_outcomes.specs.Points.{HasGrown, Fits, IsSound}
use Rattle.ss_sound_runs.specs.Frames.{activation_of, point_of}

pub sound_point : (c : CoreTree) (f : Frame) (s : List Object) (table : Table) → IsGoodFrame c f s → HasGrown f.entry s → Fits c.classes table s → IsSound (activation_of c f table) (point_of f s)
sound_point c f s table is grown fits = record { store = is.sound.store; fits = fits; grown = grown; was_ready = is.sound.was_ready; locals = is.sound.locals; given = λ ctor. (is.constructs ctor).given }
