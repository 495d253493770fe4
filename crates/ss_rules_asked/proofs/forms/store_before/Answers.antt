use Rattle.ss_rules_asked.proofs.Numbering.{arguments_there}
use Rattle.ss_rules_asked.proofs.forms.store_before.Goals as goal

pub before_object-requires : goal.before_object-requires
before_object-requires c = arguments_there c.args.bank.now c.args.t c.in-App-New-default.field-0 c.in-App-New-default.ts c.deref.result.now c.deref.ensures.value c.requires (rw c.in-App-New-default.is at c.term_node.ensures)

pub before_array-requires : goal.before_array-requires
before_array-requires c = arguments_there c.args.bank.now c.args.t c.in-App-NewArray-default.field-0 c.in-App-NewArray-default.ts c.deref-in-App-NewArray-default.result.now c.deref-in-App-NewArray-default.ensures.value c.requires (rw c.in-App-NewArray-default.is at c.term_node.ensures)
