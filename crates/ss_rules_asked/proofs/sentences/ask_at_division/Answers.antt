use Rattle.ss_rules_asked.proofs.Numbering.{arguments_there}
use Rattle.ss_rules_asked.proofs.sentences.ask_at_division.Goals as goal

pub ask_of_two-requires-clause-terms : goal.ask_of_two-requires-clause-terms
ask_of_two-requires-clause-terms c = arguments_there c.args.bank.now c.args.t c.in-App-Quotient-default.field-0 c.in-App-Quotient-default.ts c.deref.result.now c.deref.ensures.value c.requires.term (rw c.in-App-Quotient-default.is at c.term_node.ensures)

pub ask_of_two-requires-in-App-Remainder-default-clause-terms : goal.ask_of_two-requires-in-App-Remainder-default-clause-terms
ask_of_two-requires-in-App-Remainder-default-clause-terms c = arguments_there c.args.bank.now c.args.t c.in-App-Remainder-default.field-0 c.in-App-Remainder-default.ts c.deref-in-App-Remainder-default.result.now c.deref-in-App-Remainder-default.ensures.value c.requires.term (rw c.in-App-Remainder-default.is at c.term_node.ensures)
