use Rattle.std.proofs.Common.{rules, sym}
use Rattle.ss_report.proofs.Lines.{first_is_later}
use Rattle.ss_report.proofs.verdict.next_countered.Goals as goal

pub returns-else-first-number-clause-refuted : goal.returns-else-first-number-clause-refuted
returns-else-first-number-clause-refuted c = sym (first_is_later c.args.number c.args.rest.now (search rules))
