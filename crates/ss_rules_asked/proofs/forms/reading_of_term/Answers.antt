use Rattle.ss_rules_asked.proofs.Numbering.{arguments_there}
use Rattle.ss_rules_asked.proofs.forms.reading_of_term.Goals as goal

pub field_reading-requires : goal.field_reading-requires
field_reading-requires c = arguments_there c.args.bank.now c.args.t c.in-App-Field-default.field-0 c.in-App-Field-default.ts c.deref.result.now c.deref.ensures.value c.requires (rw c.in-App-Field-default.is at c.term_node.ensures)

pub element_reading-requires : goal.element_reading-requires
element_reading-requires c = arguments_there c.args.bank.now c.args.t c.in-App-Element-default.field-0 c.in-App-Element-default.ts c.deref-in-App-Element-default.result.now c.deref-in-App-Element-default.ensures.value c.requires (rw c.in-App-Element-default.is at c.term_node.ensures)

pub object_reading-requires : goal.object_reading-requires
object_reading-requires c = arguments_there c.args.bank.now c.args.t c.in-App-Level-default.field-0 c.in-App-Level-default.ts c.deref-in-App-Level-default.result.now c.deref-in-App-Level-default.ensures.value c.requires (rw c.in-App-Level-default.is at c.term_node.ensures)

pub object_reading-requires-in-App-Owner-default : goal.object_reading-requires-in-App-Owner-default
object_reading-requires-in-App-Owner-default c = arguments_there c.args.bank.now c.args.t c.in-App-Owner-default.field-0 c.in-App-Owner-default.ts c.deref-in-App-Owner-default.result.now c.deref-in-App-Owner-default.ensures.value c.requires (rw c.in-App-Owner-default.is at c.term_node.ensures)

pub next_reading-requires : goal.next_reading-requires
next_reading-requires c = arguments_there c.args.bank.now c.args.t c.in-App-Next-default.field-0 c.in-App-Next-default.ts c.deref-in-App-Next-default.result.now c.deref-in-App-Next-default.ensures.value c.requires (rw c.in-App-Next-default.is at c.term_node.ensures)
