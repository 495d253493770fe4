use Rattle.ss_rules_asked.proofs.Numbering.{arguments_there}
use Rattle.ss_rules_asked.proofs.forms.length_of.Goals as goal

pub only_one-requires : goal.only_one-requires
only_one-requires c = arguments_there c.args.bank.now c.args.t c.in-App-Length-default.field-0 c.in-App-Length-default.ts c.deref.result.now c.deref.ensures.value c.requires (rw c.in-App-Length-default.is at c.term_node.ensures)
