use Rattle.ss_terms.specs.declared.forms.FormulaId.{FormulaId}
use Rattle.ss_terms.proofs.Tested.{AreBelow-get}
use Rattle.ss_terms_puts.proofs.avoids_formulas.all_formulas.Goals as goal

pub bounds-entries-f : goal.bounds-entries-f
bounds-entries-f c = let none : FormulaId = record { 0 = 0 } in AreBelow-get _ c.args.fs.now c.loop-f.f-index none c.requires c.loop-f-test.true
