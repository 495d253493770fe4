use Rattle.ss_rules_opened.proofs.Finding.{arguments_there}
use Rattle.ss_rules_opened.proofs.triggers.is_trigger.Goals as goal

pub has_bound-requires : goal.has_bound-requires
has_bound-requires c = arguments_there c.args.bank.now c.args.t c.in-App.symbol c.in-App.ts c.deref.result.now c.deref.ensures.value c.requires (rw c.in-App.is at c.term_node.ensures)
