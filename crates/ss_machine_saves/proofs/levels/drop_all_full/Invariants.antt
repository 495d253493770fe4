use Rattle.ss_machine_saves.specs.Whole.{AreListed}
use Rattle.ss_machine_saves.proofs.levels.drop_all_full.Given as goal

abbrev pub invariant-loop-i : goal.invariant-loop-i
invariant-loop-i l = AreListed l.store.objects l.fn.unfull.items → AreListed l.store.objects l.unfull.items
