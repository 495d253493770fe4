use Rattle.std.proofs.Common.{◌≡◌}
use Rattle.ss_store.specs.Effects.{effect}
use Rattle.ss_store.proofs.Loops.{upto}
use Rattle.ss_store.proofs.effects.undergo_each.Given as goal

abbrev pub invariant-loop-i : goal.invariant-loop-i
invariant-loop-i l = l.objects ≡ upto (effect l.e) l.i l.initial.objects
