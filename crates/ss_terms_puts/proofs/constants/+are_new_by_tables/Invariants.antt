use Rattle.std.proofs.Common.{length}
use Rattle.ss_terms_puts.proofs.constants.+are_new_by_tables.Given as goal

abbrev pub decreases-are_new_by_tables : goal.decreases-are_new_by_tables
decreases-are_new_by_tables l = length l.ts.now
