use Rattle.std.proofs.Common.{◌≡◌, ◌-◌, ◌++◌, map}
use Rattle.ss_core.specs.View.{classes}
use Rattle.ss_core.specs.Chain.{levels, levels_from}
use Rattle.ss_vcgen_defaults.specs.Defaults.{number_of}
use Rattle.ss_vcgen_defaults.proofs.levels.all_levels.Given as goal

abbrev pub invariant-loop-i : goal.invariant-loop-i
invariant-loop-i l = map number_of l.list.items ++ levels_from (classes l.classes) (64 - l._i) l.level.0 ≡ levels (classes l.classes) l.fn.class.0
