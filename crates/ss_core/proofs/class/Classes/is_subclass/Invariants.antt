use Rattle.std.proofs.Common.{◌≡◌, ◌-◌}
use Rattle.ss_core.specs.View.{classes}
use Rattle.ss_core.specs.Chain.{counts_as, sub}
use Rattle.ss_core.proofs.Levels.{passes}
use Rattle.ss_core.proofs.class.Classes.is_subclass.Given as goal

abbrev pub invariant-loop-i : goal.invariant-loop-i
invariant-loop-i l = passes (classes l.self) (counts_as (classes l.self) l.t.0) (64 - l._i) l.level.0 ≡ sub (classes l.self) l.fn.c.0 l.t.0
