use Rattle.ss_terms.specs.Forms.{terms_at}
use Rattle.ss_rules_basic.proofs.Shapes.{split_many}
use Rattle.ss_rules_basic.proofs.owners.split_rule.Goals as goal

pub returns-in_default-2-clause-at : goal.returns-in_default-2-clause-at
returns-in_default-2-clause-at c cs bank = split_many cs c.args.number c.args.b.now c.args.arguments.now c.in_default.len_at_least
