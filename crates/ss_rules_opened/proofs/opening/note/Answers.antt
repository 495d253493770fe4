use Rattle.ss_rules_opened.proofs.Choosing.{HasChoices-push, choices_push}
use Rattle.ss_rules_opened.proofs.opening.note.Goals as goal

pub returns-clause-has : goal.returns-clause-has
returns-clause-has c = HasChoices-push c.args.bank.now c.args.choices.now.items c.push.new.self.items (record { whole = c.args.whole; constants = c.args.opened.constants }) c.in_ok-push.ensures.items c.requires.choices c.requires.whole c.requires.constants

pub returns-clause-noted : goal.returns-clause-noted
returns-clause-noted c = choices_push c.args.bank.now c.args.choices.now.items c.push.new.self.items (record { whole = c.args.whole; constants = c.args.opened.constants }) c.in_ok-push.ensures.items
