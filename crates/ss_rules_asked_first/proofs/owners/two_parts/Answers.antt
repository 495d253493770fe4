use Rattle.std.proofs.Common.{sym, arith}
use Rattle.ss_rules_asked_first.proofs.Gathering.{two-short, two-long}
use Rattle.ss_rules_asked_first.proofs.owners.two_parts.Goals as goal

pub returns-in-len1 : goal.returns-in-len1
returns-in-len1 c = record { has = tt; is = sym (two-short c.args.bank.now c.args.ts.now (omega (arith, c.in-len1.len_below))) }

pub returns-in-len3-up : goal.returns-in-len3-up
returns-in-len3-up c = record { has = tt; is = sym (two-long c.args.bank.now c.args.ts.now (omega (arith, c.in-len3-up.len_at_least))) }
