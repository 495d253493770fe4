use Rattle.ss_rules_occurring.proofs.Finding.{no_term_found}
use Rattle.ss_rules_occurring.proofs.found.TermList.new.Goals as goal

pub returns : goal.returns
returns c = no_term_found c.args.bank.now (record { list = c.new.result; numbers = c.new-2.result }) c.new.ensures.items c.new-2.ensures
