use Rattle.ss_terms.specs.declared.forms.TermId.{TermId}
use Rattle.ss_terms.proofs.Tested.{AreTermsBelow-get}
use Rattle.ss_terms_puts.proofs.avoids_terms.all_terms.Goals as goal

pub bounds-entries-t : goal.bounds-entries-t
bounds-entries-t c = let none : TermId = record { 0 = 0 } in AreTermsBelow-get _ c.args.ts.now c.loop-t.t-index none c.requires c.loop-t-test.true
