use Rattle.std.proofs.Common.{◌++◌, take}
use Rattle.std.specs.Prelude.{flat_map}
use Rattle.ss_terms.specs.Forms.{terms_at}
use Rattle.ss_rules_asked.specs.Numbers.{asked_in, Asks}
use Rattle.ss_rules_asked_first.specs.Good.{nearby_at, in_store}
use Rattle.ss_rules_asked_first.proofs.goods.ask_in_stores.Given as goal

abbrev pub invariant-loop-s : goal.invariant-loop-s
invariant-loop-s l = Asks l.context.bank.now l.asked.items (asked_in l.context.bank.now l.initial.asked.items ++ flat_map (in_store (nearby_at l.context.bank.now l.context.near.now) l.sentence) (terms_at l.context.bank.now (take l.s-index l.stores)))
