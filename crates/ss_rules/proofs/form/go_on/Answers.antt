use Rattle.ss_core.specs.View as view
use Rattle.ss_rules.proofs.form.go_on.Goals as goal

pub closed_rounds-requires-clause-made : goal.closed_rounds-requires-clause-made
closed_rounds-requires-clause-made c = c.new-made.ensures (view.classes c.args.context.now.classes.now) c.args.bank.now
