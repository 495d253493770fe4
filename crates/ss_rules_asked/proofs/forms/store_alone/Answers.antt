use Rattle.std.proofs.Common.{◌∙◌}
use Rattle.ss_rules_asked.proofs.Numbering.{constant-cases}
use Rattle.ss_rules_asked.proofs.forms.store_alone.Goals as goal

pub returns : goal.returns
returns c = c.is_nothing.ensures ∙ constant-cases c.args.bank.now c.args.number c.args.ts.now
