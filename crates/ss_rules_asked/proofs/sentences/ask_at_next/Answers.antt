use Rattle.ss_rules_asked.proofs.Numbering.{arguments_there}
use Rattle.ss_rules_asked.proofs.sentences.ask_at_next.Goals as goal

pub ask_of_next-requires-clause-terms : goal.ask_of_next-requires-clause-terms
ask_of_next-requires-clause-terms c = arguments_there c.args.bank.now c.args.t c.in-App-Next-default.field-0 c.in-App-Next-default.ts c.deref.result.now c.deref.ensures.value c.requires.term (rw c.in-App-Next-default.is at c.term_node.ensures)
