use Rattle.std.proofs.Common.{subst, sym}
use Rattle.ss_terms.specs.Forms.{term_at}
use Rattle.ss_rules_asked.specs.Numbers.{asked_in}
use Rattle.ss_rules_asked.specs.Readings.{reading_at, HasReadings}
use Rattle.ss_rules_asked.proofs.Gathering.{HasReadings-get}
use Rattle.ss_rules_asked_first.specs.Good.{nearby_at, at_read}
use Rattle.ss_rules_asked_first.proofs.Joining.{asked_next_in}
use Rattle.ss_rules_asked_first.proofs.goods.ask_at_reads.Goals as goal

pub ask_at_read-requires-clause-read : goal.ask_at_read-requires-clause-read
ask_at_read-requires-clause-read c = HasReadings-get c.args.context.now.bank.now c.deref-r-items.result.now c.loop-r.r-index _ (subst (HasReadings c.args.context.now.bank.now) (sym c.deref-r-items.ensures.value) c.requires.near.reads) c.loop-r-test.true

pub loop-r-preserved : goal.loop-r-preserved
loop-r-preserved c =
    asked_next_in c.args.context.now.bank.now (reading_at c.args.context.now.bank.now) (at_read (nearby_at c.args.context.now.bank.now c.args.context.now.near.now) c.args.sentence (term_at c.args.context.now.bank.now c.args.s)) (asked_in c.args.context.now.bank.now c.args.asked.now.items) c.loop-r.asked.items c.ask_at_read.new.asked.items
    c.deref-r-items.result.now c.args.context.now.near.now.reads.items c.deref-r-items.ensures.value c.loop-r.r-index _ c.loop-r-test.true c.loop-r.invariant c.in_ok-ask_at_read.ensures
