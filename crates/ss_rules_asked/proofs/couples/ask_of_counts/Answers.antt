use Rattle.ss_rules_asked.proofs.Coupling.{HasCounts-get, HasCounts-drop, HasCounts-take}
use Rattle.ss_rules_asked.proofs.couples.ask_of_counts.Goals as goal

pub ask_with_each-requires-clause-first : goal.ask_with_each-requires-clause-first
ask_with_each-requires-clause-first c = HasCounts-get c.args.bank.now c.args.cs.now c.loop-i.i _ c.requires.counts c.loop-i-test.true

pub ask_with_each-requires-clause-others : goal.ask_with_each-requires-clause-others
ask_with_each-requires-clause-others c = HasCounts-take c.args.bank.now _ _ (HasCounts-drop c.args.bank.now c.args.cs.now _ c.requires.counts)
