use Rattle.ss_terms.specs.declared.forms.FormulaId.{FormulaId}
use Rattle.ss_terms.specs.Forms.{formula_at}
use Rattle.ss_terms.proofs.Tested.{AreBelow-get}
use Rattle.ss_rules_asked.specs.Numbers.{asked_in}
use Rattle.ss_rules_asked.specs.Sentences.{at_atom}
use Rattle.ss_rules_asked.proofs.Asking.{asked_next}
use Rattle.ss_rules_asked.proofs.lists.ask_at_atoms.Goals as goal

pub ask_at_atom-requires-clause-formula : goal.ask_at_atom-requires-clause-formula
ask_at_atom-requires-clause-formula c = AreBelow-get _ c.args.atoms.now c.loop-f.f-index (record { 0 = 0 }) c.requires.atoms c.loop-f-test.true

pub loop-f-preserved : goal.loop-f-preserved
loop-f-preserved c =
    asked_next c.args.bank.now (formula_at c.args.bank.now) (at_atom c.args.bank.now c.args.sentence) (asked_in c.args.bank.now c.args.asked.now.items) c.loop-f.asked.items c.ask_at_atom.new.asked.items
    c.args.atoms.now c.loop-f.f-index (record { 0 = 0 }) c.loop-f-test.true c.loop-f.invariant c.in_ok-ask_at_atom.ensures
