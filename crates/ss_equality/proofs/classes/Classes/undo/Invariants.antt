use Rattle.std.proofs.Common.{◌≡◌, length, take}
use Rattle.ss_equality.proofs.classes.Classes.undo.Given as goal

abbrev pub invariant-loop-self : goal.invariant-loop-self
invariant-loop-self l = (l.self.forms ≡ l.initial.self.forms) × (take l.count l.self.log ≡ take l.count l.initial.self.log)

abbrev pub decreases-loop-self : goal.decreases-loop-self
decreases-loop-self l = length l.self.log
