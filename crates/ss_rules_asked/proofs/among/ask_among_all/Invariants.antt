use Rattle.std.proofs.Common.{◌++◌, take}
use Rattle.std.specs.Prelude.{flat_map}
use Rattle.ss_terms.specs.Forms.{terms_at}
use Rattle.ss_rules_asked.specs.Numbers.{asked_in, Asks}
use Rattle.ss_rules_asked.specs.Sentences.{among}
use Rattle.ss_rules_asked.proofs.among.ask_among_all.Given as goal

abbrev pub invariant-loop-t : goal.invariant-loop-t
invariant-loop-t l = Asks l.context.bank.now l.asked.items (asked_in l.context.bank.now l.initial.asked.items ++ flat_map (among l.sentence (terms_at l.context.bank.now l.terms)) (terms_at l.context.bank.now (take l.t-index l.terms)))
