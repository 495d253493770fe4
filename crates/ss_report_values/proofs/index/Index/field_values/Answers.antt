use Rattle.ss_terms.proofs.Tested.{AreTermsBelow-get}
use Rattle.ss_report_values.specs.Index.{no_number}
use Rattle.ss_report_values.proofs.Told.{stands_at}
use Rattle.ss_report_values.proofs.index.Index.field_values.Goals as goal

pub add_field_value-requires-clause-term : goal.add_field_value-requires-clause-term
add_field_value-requires-clause-term c = AreTermsBelow-get _ c.args.reading.now.terms.now c.loop-t.t-index no_number c.requires.terms c.loop-t-test.true

pub add_field_value-requires-clause-stands : goal.add_field_value-requires-clause-stands
add_field_value-requires-clause-stands c = stands_at c.args.bank.now c.args.reading.now.terms.now c.loop-t.t-index no_number c.loop-t-test.true
