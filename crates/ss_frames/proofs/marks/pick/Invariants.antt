use Rattle.std.proofs.Common.{◌≡◌, take}
use Rattle.ss_core.specs.View as view
use Rattle.ss_frames.specs.Calls.{picked}
use Rattle.ss_frames.proofs.marks.pick.Given as goal

abbrev pub invariant-loop-mark : goal.invariant-loop-mark
invariant-loop-mark l = l.made.items ≡ picked (view.classes l.classes) l.part (take l.mark-index l.marks)
