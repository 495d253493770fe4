use Rattle.ss_terms_puts.proofs.Tables.{no_constant}
use Rattle.ss_terms_puts.proofs.constants.constant_alone.Goals as goal

pub returns-in_default : goal.returns-in_default
returns-in_default c = no_constant c.args.bank.now c.args.constant.sort c.args.constant.number c.args.ts.now c.in_default.len_at_least
