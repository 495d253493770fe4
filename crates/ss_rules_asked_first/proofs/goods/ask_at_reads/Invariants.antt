use Rattle.std.proofs.Common.{◌++◌, take}
use Rattle.std.specs.Prelude.{flat_map}
use Rattle.ss_terms.specs.Forms.{term_at}
use Rattle.ss_rules_asked.specs.Numbers.{asked_in, Asks}
use Rattle.ss_rules_asked.specs.Readings.{readings_at}
use Rattle.ss_rules_asked_first.specs.Good.{nearby_at, at_read}
use Rattle.ss_rules_asked_first.proofs.goods.ask_at_reads.Given as goal

abbrev pub invariant-loop-r : goal.invariant-loop-r
invariant-loop-r l = Asks l.context.bank.now l.asked.items (asked_in l.context.bank.now l.initial.asked.items ++ flat_map (at_read (nearby_at l.context.bank.now l.context.near.now) l.sentence (term_at l.context.bank.now l.s)) (readings_at l.context.bank.now (take l.r-index l.context.near.now.reads.items)))
