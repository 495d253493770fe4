use Rattle.ss_terms.specs.Forms.{symbol_of}
use Rattle.ss_terms_puts.proofs.Values.{no_value}
use Rattle.ss_terms_puts.proofs.shapes.is_value_form.Goals as goal

pub returns-in_default : goal.returns-in_default
returns-in_default c = no_value c.args.bank.now (symbol_of c.args.symbol) c.args.ts.now c.in_default.len_at_least
