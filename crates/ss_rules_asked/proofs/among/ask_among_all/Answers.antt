use Rattle.ss_terms.specs.declared.forms.TermId.{TermId}
use Rattle.ss_terms.specs.Forms.{term_at, terms_at}
use Rattle.ss_terms.proofs.Tested.{AreTermsBelow-get}
use Rattle.ss_rules_asked.specs.Numbers.{asked_in}
use Rattle.ss_rules_asked.specs.Sentences.{among}
use Rattle.ss_rules_asked.proofs.Asking.{asked_next}
use Rattle.ss_rules_asked.proofs.among.ask_among_all.Goals as goal

pub ask_among-requires-clause-term : goal.ask_among-requires-clause-term
ask_among-requires-clause-term c = AreTermsBelow-get _ c.args.terms.now c.loop-t.t-index (record { 0 = 0 }) c.requires.terms c.loop-t-test.true

pub loop-t-preserved : goal.loop-t-preserved
loop-t-preserved c =
    asked_next c.args.context.now.bank.now (term_at c.args.context.now.bank.now) (among c.args.sentence (terms_at c.args.context.now.bank.now c.args.terms.now)) (asked_in c.args.context.now.bank.now c.args.asked.now.items) c.loop-t.asked.items c.ask_among.new.asked.items
    c.args.terms.now c.loop-t.t-index (record { 0 = 0 }) c.loop-t-test.true c.loop-t.invariant c.in_ok-ask_among.ensures
