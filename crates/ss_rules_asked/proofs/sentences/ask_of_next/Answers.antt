use Rattle.std.proofs.Common.{arith}
use Rattle.ss_rules_asked.proofs.Asking.{nothing_asked}
use Rattle.ss_rules_asked.proofs.Numbering.{asked_next-long}
use Rattle.ss_rules_asked.proofs.sentences.ask_of_next.Goals as goal

pub returns-in-len2-up : goal.returns-in-len2-up
returns-in-len2-up c = nothing_asked c.args.bank.now c.args.asked.now.items _ c.requires.asked (asked_next-long c.args.bank.now c.args.ts.now (omega (arith, c.in-len2-up.len_at_least)))
