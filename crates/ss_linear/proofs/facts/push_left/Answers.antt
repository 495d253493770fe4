use Rattle.std.proofs.Common.{sym, subst, List}
use Rattle.ss_linear_sums.specs.declared.forms.Part.{Part}
use Rattle.ss_linear_sums.specs.Linear.{HasParts}
use Rattle.ss_linear.proofs.Glue.{parts_pushed}
use Rattle.ss_linear.proofs.facts.push_left.Goals as goal

pub returns-clause-has : goal.returns-clause-has
returns-clause-has c = λ b p h. subst (λ (ps : List Part). HasParts b ps) (sym c.in_ok-push.ensures.items) (parts_pushed b c.args.left.now.items c.args.part h p)
