use Rattle.std.proofs.Common.{sym}
use Rattle.ss_terms_puts.proofs.Putting.{bound_in_within, bound_in_past, term_equal}
use Rattle.ss_terms_puts.proofs.terms.bound_at.Goals as goal

pub returns-then-k-ts-clause-at : goal.returns-then-k-ts-clause-at
returns-then-k-ts-clause-at c = bound_in_within c.args.bank.now c.args.ts.now c.args.k (record { 0 = 0 }) c.requires c.if-k-ts.true

pub returns-clause-at : goal.returns-clause-at
returns-clause-at c = term_equal c.term.result c.term.new.self _ _ (sym (bound_in_past c.args.bank.now c.args.ts.now c.args.k c.if-k-ts.false)) c.term.ensures.at
