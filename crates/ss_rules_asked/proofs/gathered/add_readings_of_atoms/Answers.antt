use Rattle.ss_logic.specs.Asked as spec
use Rattle.ss_terms.specs.declared.forms.FormulaId.{FormulaId}
use Rattle.ss_terms.specs.Forms.{formula_at}
use Rattle.ss_terms.proofs.Tested.{AreBelow-get}
use Rattle.ss_rules_asked.specs.Readings.{readings_at}
use Rattle.ss_rules_asked.proofs.Gathering.{readings_next}
use Rattle.ss_rules_asked.proofs.gathered.add_readings_of_atoms.Goals as goal

pub reading_of_atom-read-requires : goal.reading_of_atom-read-requires
reading_of_atom-read-requires c = AreBelow-get _ c.args.atoms.now c.loop-f.f-index (record { 0 = 0 }) c.requires.atoms c.loop-f-test.true

pub loop-f-preserved : goal.loop-f-preserved
loop-f-preserved c =
    readings_next (formula_at c.args.bank.now) spec.reading_of_atom (readings_at c.args.bank.now c.args.readings.now.items) c.args.atoms.now c.loop-f.f-index (record { 0 = 0 }) c.args.bank.now c.loop-f.readings.items c.add_reading.new.readings.items
    c.reading_of_atom-read.result c.loop-f-test.true c.loop-f.invariant c.reading_of_atom-read.ensures c.in_ok-add_reading.ensures
