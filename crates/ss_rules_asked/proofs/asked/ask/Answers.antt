use Rattle.ss_rules_asked.specs.declared.asked.Asked.{Asked}
use Rattle.ss_rules_asked.proofs.Asking.{one_asked}
use Rattle.ss_rules_asked.proofs.asked.ask.Goals as goal

pub returns : goal.returns
returns c =
    one_asked c.args.bank.now c.args.asked.now.items c.push.new.self.items (record { rule = c.args.rule; arguments = c.in_ok-arguments.arguments }) c.args.arguments.now c.in_ok-push.ensures.items c.in_ok-arguments.ensures.items
    c.requires.asked c.requires.rule c.requires.arguments
