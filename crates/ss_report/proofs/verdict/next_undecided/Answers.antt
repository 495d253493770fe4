use Rattle.std.proofs.Common.{rules, sym}
use Rattle.ss_report.proofs.Lines.{first_over_is_later}
use Rattle.ss_report.proofs.verdict.next_undecided.Goals as goal

pub returns-else-first-number-clause-over : goal.returns-else-first-number-clause-over
returns-else-first-number-clause-over c = sym (first_over_is_later c.args.number c.args.rest.now (search rules))
