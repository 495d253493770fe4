use Rattle.std.proofs.Common.{sym, arith}
use Rattle.ss_terms.specs.Forms.{term_at}
use Rattle.ss_rules_asked.proofs.Numbering.{only-long}
use Rattle.ss_rules_asked.proofs.forms.only_one.Goals as goal

pub returns-in-len2-up : goal.returns-in-len2-up
returns-in-len2-up c = record { has = tt; is = sym (only-long c.args.bank.now c.args.ts.now (omega (arith, c.in-len2-up.len_at_least))) }
