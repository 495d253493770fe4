use Rattle.std.proofs.Common.{sym, arith}
use Rattle.ss_terms.specs.Forms.{term_at}
use Rattle.ss_rules_asked.proofs.Numbering.{object-long, object-short}
use Rattle.ss_rules_asked.proofs.forms.object_reading.Goals as goal

pub returns-in-len1 : goal.returns-in-len1
returns-in-len1 c = record { has = tt; is = sym (object-short c.args.bank.now c.args.kind c.args.ts.now (omega (arith, c.in-len1.len_below))) }

pub returns-in-len3-up : goal.returns-in-len3-up
returns-in-len3-up c = record { has = tt; is = sym (object-long c.args.bank.now c.args.kind c.args.ts.now (omega (arith, c.in-len3-up.len_at_least))) }
