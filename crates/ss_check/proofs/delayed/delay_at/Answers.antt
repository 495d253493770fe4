use Rattle.std.proofs.Common.{length, sym}
use Rattle.ss_core.specs.View as view
use Rattle.ss_check.proofs.Meant.{one_term, one_there}
use Rattle.ss_check.proofs.delayed.delay_at.Goals as goal

pub delay_formed-requires-clause-term : goal.delay_formed-requires-clause-term
delay_formed-requires-clause-term c = one_there (length c.args.bank.now.terms) c.args.ts.now c.in-Some.t c.requires.terms (sym c.in-Some.ensures)

pub delay_formed-requires-clause-formed : goal.delay_formed-requires-clause-formed
delay_formed-requires-clause-formed c = sym (c.if-not-is_well_formed.ensures (view.classes c.args.classes.now) c.requires.bank)

pub returns-clause-at : goal.returns-clause-at
returns-clause-at c = rw (one_term c.args.bank.now c.args.ts.now c.in-Some.t (sym c.in-Some.ensures)) c.delay_formed.ensures.at
