use Rattle.ss_logic.specs.Asked as spec
use Rattle.ss_terms.specs.declared.forms.TermId.{TermId}
use Rattle.ss_terms.specs.Forms.{term_at}
use Rattle.ss_terms.proofs.Tested.{AreTermsBelow-get}
use Rattle.ss_rules_asked.specs.Readings.{readings_at}
use Rattle.ss_rules_asked.proofs.Gathering.{readings_next}
use Rattle.ss_rules_asked.proofs.gathered.add_readings_of_terms.Goals as goal

pub reading_of_term-read-requires : goal.reading_of_term-read-requires
reading_of_term-read-requires c = AreTermsBelow-get _ c.args.terms.now c.loop-t.t-index (record { 0 = 0 }) c.requires.terms c.loop-t-test.true

pub loop-t-preserved : goal.loop-t-preserved
loop-t-preserved c =
    readings_next (term_at c.args.bank.now) spec.reading_of_term (readings_at c.args.bank.now c.args.readings.now.items) c.args.terms.now c.loop-t.t-index (record { 0 = 0 }) c.args.bank.now c.loop-t.readings.items c.add_reading.new.readings.items
    c.reading_of_term-read.result c.loop-t-test.true c.loop-t.invariant c.reading_of_term-read.ensures c.in_ok-add_reading.ensures
