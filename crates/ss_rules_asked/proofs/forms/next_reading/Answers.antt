use Rattle.std.proofs.Common.{sym, arith}
use Rattle.ss_terms.specs.Forms.{term_at}
use Rattle.ss_rules_asked.proofs.Numbering.{next-long}
use Rattle.ss_rules_asked.proofs.forms.next_reading.Goals as goal

pub returns-in-len2-up : goal.returns-in-len2-up
returns-in-len2-up c = record { has = tt; is = sym (next-long c.args.bank.now c.args.ts.now (omega (arith, c.in-len2-up.len_at_least))) }
