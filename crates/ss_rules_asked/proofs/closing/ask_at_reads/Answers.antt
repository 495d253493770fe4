use Rattle.ss_logic.specs.Asked as spec
use Rattle.ss_terms.specs.Forms.{formulas_at}
use Rattle.ss_rules_asked.specs.Numbers.{asked_in}
use Rattle.ss_rules_asked.specs.Readings.{reading_at}
use Rattle.ss_rules_asked.proofs.Asking.{asked_next}
use Rattle.ss_rules_asked.proofs.Gathering.{HasReadings-get}
use Rattle.ss_rules_asked.proofs.closing.ask_at_reads.Goals as goal

pub ask_at_read-requires-clause-read : goal.ask_at_read-requires-clause-read
ask_at_read-requires-clause-read c = HasReadings-get c.args.bank.now c.args.reads.now c.loop-r.r-index _ c.requires.reads c.loop-r-test.true

pub loop-r-preserved : goal.loop-r-preserved
loop-r-preserved c =
    asked_next c.args.bank.now (reading_at c.args.bank.now) (spec.asked_at_read (formulas_at c.args.bank.now c.args.atoms.now)) (asked_in c.args.bank.now c.args.asked.now.items) c.loop-r.asked.items c.ask_at_read.new.asked.items
    c.args.reads.now c.loop-r.r-index _ c.loop-r-test.true c.loop-r.invariant c.in_ok-ask_at_read.ensures
