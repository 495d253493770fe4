use Rattle.ss_search_clashes.specs.Values.{AreEntered}
use Rattle.ss_search_clashes.proofs.values.find_values.Given as goal

abbrev pub invariant-loop-number : goal.invariant-loop-number
invariant-loop-number l = AreEntered l.bank l.classes l.number l.entered
