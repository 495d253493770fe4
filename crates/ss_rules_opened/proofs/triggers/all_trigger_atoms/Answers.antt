use Rattle.ss_logic.specs.Matching.{is_trigger_atom}
use Rattle.ss_terms.specs.Forms.{formula_at}
use Rattle.ss_terms.proofs.Tested.{AreBelow-get}
use Rattle.ss_rules_opened.proofs.Kept.{kept_next}
use Rattle.ss_rules_opened.proofs.triggers.all_trigger_atoms.Goals as goal

pub add_trigger_atom-requires-clause-formula : goal.add_trigger_atom-requires-clause-formula
add_trigger_atom-requires-clause-formula c = AreBelow-get _ c.args.fs.now c.loop-f.f-index (record { 0 = 0 }) c.requires c.loop-f-test.true

pub loop-f-preserved : goal.loop-f-preserved
loop-f-preserved c = record {
  has = c.in_ok-add_trigger_atom.ensures.has;
  are = kept_next (formula_at c.args.bank.now) (is_trigger_atom c.args.count) c.args.fs.now c.loop-f.kept.items c.add_trigger_atom.new.kept.items c.loop-f.f-index (record { 0 = 0 }) c.loop-f-test.true c.loop-f.invariant.are c.in_ok-add_trigger_atom.ensures.are;
}
