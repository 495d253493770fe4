use Rattle.ss_core.specs.View as view
use Rattle.ss_terms.specs.declared.forms.TermId.{TermId}
use Rattle.ss_terms.specs.Forms.{term_at}
use Rattle.ss_terms.proofs.Tested.{AreTermsBelow-get}
use Rattle.ss_rules_asked.specs.Numbers.{asked_in}
use Rattle.ss_rules_asked.specs.Sentences.{at_term}
use Rattle.ss_rules_asked.proofs.Asking.{asked_next}
use Rattle.ss_rules_asked.proofs.lists.ask_at_terms.Goals as goal

pub ask_at_term-requires-clause-term : goal.ask_at_term-requires-clause-term
ask_at_term-requires-clause-term c = AreTermsBelow-get _ c.args.terms.now c.loop-t.t-index (record { 0 = 0 }) c.requires.terms c.loop-t-test.true

pub loop-t-preserved : goal.loop-t-preserved
loop-t-preserved c =
    asked_next c.args.bank.now (term_at c.args.bank.now) (at_term c.args.bank.now (view.classes c.args.classes.now) c.args.sentence) (asked_in c.args.bank.now c.args.asked.now.items) c.loop-t.asked.items c.ask_at_term.new.asked.items
    c.args.terms.now c.loop-t.t-index (record { 0 = 0 }) c.loop-t-test.true c.loop-t.invariant c.in_ok-ask_at_term.ensures
