use Rattle.ss_terms.specs.declared.forms.TermId.{TermId}
use Rattle.ss_terms.proofs.Tested.{AreTermsBelow-get}
use Rattle.ss_rules_asked.proofs.Coupling.{terms-drop, terms-take}
use Rattle.ss_rules_asked.proofs.couples.ask_of_pairs.Goals as goal

pub ask_at_terms-requires-clause-sentence : goal.ask_at_terms-requires-clause-sentence
ask_at_terms-requires-clause-sentence c = AreTermsBelow-get _ c.args.ps.now c.loop-i.i (record { 0 = 0 }) c.requires.pairs c.loop-i-test.true

pub ask_at_terms-requires-clause-terms : goal.ask_at_terms-requires-clause-terms
ask_at_terms-requires-clause-terms c = terms-take _ _ _ (terms-drop _ c.args.ps.now _ c.requires.pairs)
