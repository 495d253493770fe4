use Rattle.std.proofs.Common.{sym, arith}
use Rattle.ss_terms.specs.Forms.{term_at}
use Rattle.ss_rules_asked.proofs.Numbering.{first-long, first-short, first-two}
use Rattle.ss_rules_asked.proofs.forms.first_of_two.Goals as goal

pub returns-in-len1 : goal.returns-in-len1
returns-in-len1 c = record { has = tt; is = sym (first-short c.args.bank.now c.args.ts.now (omega (arith, c.in-len1.len_below))) }

pub returns-in-len3-up : goal.returns-in-len3-up
returns-in-len3-up c = record { has = tt; is = sym (first-long c.args.bank.now c.args.ts.now (omega (arith, c.in-len3-up.len_at_least))) }

pub returns-in-len2 : goal.returns-in-len2
returns-in-len2 c = first-two c.args.bank.now c.args.ts.now (record { 0 = 0 }) c.requires (omega (arith, c.in-len2.len_at_least)) (omega (arith, c.in-len2.len_below))
