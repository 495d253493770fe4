use Rattle.ss_core.specs.View as view
use Rattle.ss_terms.specs.Forms.{term_at}
use Rattle.ss_rules_good.proofs.Fits.{many_typed}
use Rattle.ss_rules_good.proofs.typed.typed_rule.Goals as goal

pub returns-in_default-2-clause-at : goal.returns-in_default-2-clause-at
returns-in_default-2-clause-at c = many_typed (view.classes c.args.classes.now) (term_at c.args.b.now c.args.s) c.args.b.now c.args.arguments.now c.in_default.len_at_least
