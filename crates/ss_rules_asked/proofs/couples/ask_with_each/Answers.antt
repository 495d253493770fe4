use Rattle.ss_logic.specs.Asked as spec
use Rattle.ss_rules_asked.specs.Numbers.{asked_in}
use Rattle.ss_rules_asked.specs.Readings.{counts_at}
use Rattle.ss_rules_asked.proofs.Asking.{asked_next}
use Rattle.ss_rules_asked.proofs.Coupling.{HasCounts-get}
use Rattle.ss_rules_asked.proofs.couples.ask_with_each.Goals as goal

pub ask_of_both-requires-clause-second : goal.ask_of_both-requires-clause-second
ask_of_both-requires-clause-second c = HasCounts-get c.args.bank.now c.args.cs.now c.loop-b.b-index _ c.requires.others c.loop-b-test.true

pub loop-b-preserved : goal.loop-b-preserved
loop-b-preserved c =
    asked_next c.args.bank.now (counts_at c.args.bank.now) (spec.asked_of_both (counts_at c.args.bank.now c.args.a)) (asked_in c.args.bank.now c.args.asked.now.items) c.loop-b.asked.items c.ask_of_both.new.asked.items
    c.args.cs.now c.loop-b.b-index _ c.loop-b-test.true c.loop-b.invariant c.in_ok-ask_of_both.ensures
