use Rattle.ss_logic.specs.Terms.{terms_from}
use Rattle.ss_terms.specs.Forms.{terms_at}
use Rattle.ss_rules_asked.proofs.Numbering.{before_object}
use Rattle.ss_rules_asked.proofs.forms.before_object.Goals as goal

pub returns : goal.returns
returns c = before_object c.args.bank.now c.args.class (terms_from (terms_at c.args.bank.now c.args.ts.now)) c.only_one.result c.only_one.ensures
