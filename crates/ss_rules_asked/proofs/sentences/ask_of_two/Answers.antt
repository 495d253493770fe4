use Rattle.std.proofs.Common.{arith}
use Rattle.ss_rules_asked.proofs.Asking.{nothing_asked}
use Rattle.ss_rules_asked.proofs.Numbering.{asked_two-short, asked_two-long}
use Rattle.ss_rules_asked.proofs.sentences.ask_of_two.Goals as goal

pub returns-in-len1 : goal.returns-in-len1
returns-in-len1 c = nothing_asked c.args.bank.now c.args.asked.now.items _ c.requires.asked (asked_two-short c.args.bank.now c.args.rule c.args.ts.now (omega (arith, c.in-len1.len_below)))

pub returns-in-len3-up : goal.returns-in-len3-up
returns-in-len3-up c = nothing_asked c.args.bank.now c.args.asked.now.items _ c.requires.asked (asked_two-long c.args.bank.now c.args.rule c.args.ts.now (omega (arith, c.in-len3-up.len_at_least)))
