use Rattle.std.proofs.Common.{sym, arith, ◌∙◌}
use Rattle.ss_rules_asked.proofs.Equations.{constant-short, constant-long, constant-two}
use Rattle.ss_rules_asked.proofs.forms.first_is_constant.Goals as goal

pub returns-in-len1 : goal.returns-in-len1
returns-in-len1 c = sym (constant-short c.args.bank.now c.args.ts.now (omega (arith, c.in-len1.len_below)))

pub returns-in-len3-up : goal.returns-in-len3-up
returns-in-len3-up c = sym (constant-long c.args.bank.now c.args.ts.now (omega (arith, c.in-len3-up.len_at_least)))

pub returns-in-len2 : goal.returns-in-len2
returns-in-len2 c = c.is_constant_store.ensures ∙ constant-two c.args.bank.now c.args.ts.now (record { 0 = 0 }) (omega (arith, c.in-len2.len_at_least)) (omega (arith, c.in-len2.len_below))
