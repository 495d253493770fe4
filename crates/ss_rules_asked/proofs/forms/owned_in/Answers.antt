use Rattle.ss_rules_asked.proofs.Numbering.{arguments_there}
use Rattle.ss_rules_asked.proofs.forms.owned_in.Goals as goal

pub second_where_first-requires-clause-terms : goal.second_where_first-requires-clause-terms
second_where_first-requires-clause-terms c = arguments_there c.args.bank.now c.args.t c.in-App-Owner-default.field-0 c.in-App-Owner-default.ts c.deref.result.now c.deref.ensures.value c.requires.term (rw c.in-App-Owner-default.is at c.term_node.ensures)
