use Rattle.std.proofs.Common.{sym, arith}
use Rattle.ss_terms.specs.Forms.{term_at}
use Rattle.ss_rules_asked.proofs.Numbering.{element-long, element-short}
use Rattle.ss_rules_asked.proofs.forms.element_reading.Goals as goal

pub returns-in-len1 : goal.returns-in-len1
returns-in-len1 c = record { has = tt; is = sym (element-short c.args.bank.now c.args.sort c.args.ts.now (omega (arith, c.in-len1.len_below))) }

pub returns-in-len2 : goal.returns-in-len2
returns-in-len2 c = record { has = tt; is = sym (element-short c.args.bank.now c.args.sort c.args.ts.now (omega (arith, c.in-len2.len_below))) }

pub returns-in-len4-up : goal.returns-in-len4-up
returns-in-len4-up c = record { has = tt; is = sym (element-long c.args.bank.now c.args.sort c.args.ts.now (omega (arith, c.in-len4-up.len_at_least))) }
