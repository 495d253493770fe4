use Rattle.std.proofs.Common.{true, false, not, ap}
use Rattle.ss_rules_occurring.proofs.Finding.{term_is_new, term_added}
use Rattle.ss_rules_occurring.proofs.found.TermList.add.Goals as goal

pub returns-then-has-clause-new : goal.returns-then-has-clause-new
returns-then-has-clause-new c = ap not (term_is_new c.args.bank.now c.numbers_are_apart.ensures c.args.self.now c.args.t true c.requires.found c.requires.term c.if-has.ensures)

pub returns-clause-new : goal.returns-clause-new
returns-clause-new c = ap not (term_is_new c.args.bank.now c.numbers_are_apart.ensures c.args.self.now c.args.t false c.requires.found c.requires.term c.if-has.ensures)

pub returns-clause-added : goal.returns-clause-added
returns-clause-added c =
    term_added c.args.bank.now c.args.self.now (record { list = c.push.new.self; numbers = c.put.new.self }) c.args.t c.requires.found c.requires.term c.in_ok-push.ensures.items c.in_ok-put.ensures
