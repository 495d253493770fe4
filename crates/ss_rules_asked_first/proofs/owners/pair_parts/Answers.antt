use Rattle.ss_rules_asked.proofs.Numbering.{arguments_there}
use Rattle.ss_rules_asked_first.proofs.owners.pair_parts.Goals as goal

pub two_parts-requires : goal.two_parts-requires
two_parts-requires c = arguments_there c.args.bank.now c.args.t c.in-App-Pair-default.field-0 c.in-App-Pair-default.ts c.deref.result.now c.deref.ensures.value c.requires (rw c.in-App-Pair-default.is at c.term_node.ensures)
