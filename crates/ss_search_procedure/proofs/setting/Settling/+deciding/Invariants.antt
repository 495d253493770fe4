use Rattle.std.proofs.Common.{◌+◌, ◌*◌, ◌-◌, length}
use Rattle.ss_search_procedure.proofs.setting.Settling.+deciding.Given as goal

abbrev pub decreases-decide : goal.decreases-decide
decreases-decide l = 3 * (length l.self.now.decisions.now - l.decided) + 2

abbrev pub decreases-split : goal.decreases-split
decreases-split l = 3 * (length l.self.now.decisions.now - l.decided) + 1

abbrev pub decreases-with_side : goal.decreases-with_side
decreases-with_side l = 3 * (length l.self.now.decisions.now - l.decided)
