use Rattle.std.proofs.Common.{◌≡◌, ◌-◌, eqb}
use Rattle.ss_core.specs.View.{classes}
use Rattle.ss_core.specs.Chain.{below}
use Rattle.ss_core.proofs.Levels.{passes}
use Rattle.ss_core.proofs.class.Classes.is_level.Given as goal

abbrev pub invariant-loop-i : goal.invariant-loop-i
invariant-loop-i l = passes (classes l.self) (λ level. eqb level l.t.0) (64 - l._i) l.reached.0 ≡ below (classes l.self) l.fn.c.0 l.t.0
