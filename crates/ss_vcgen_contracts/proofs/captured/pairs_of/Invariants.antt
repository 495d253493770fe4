use Rattle.std.proofs.Common.{◌≡◌, ◌-◌, ◌++◌}
use Rattle.ss_core.specs.View.{classes}
use Rattle.ss_core.specs.Chain.{levels, levels_from}
use Rattle.ss_vcgen_contracts.specs.Owned.{pairs_for}
use Rattle.ss_vcgen_contracts.proofs.captured.pairs_of.Given as goal

abbrev pub invariant-loop-i : goal.invariant-loop-i
invariant-loop-i l = l.pairs.items ++ pairs_for l.object (levels_from (classes l.classes) (64 - l._i) l.level.0) ≡ pairs_for l.object (levels (classes l.classes) l.fn.class.0)
