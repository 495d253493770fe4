use Rattle.ss_terms.specs.Forms.{formula_at}
use Rattle.ss_terms.proofs.Tested.{AreBelow-get}
use Rattle.ss_rules_asked.specs.Readings.{is_store_equation}
use Rattle.ss_rules_asked.proofs.Equations.{kept_next}
use Rattle.ss_rules_asked.proofs.gathered.store_equations.Goals as goal

pub add_equation-requires-clause-formula : goal.add_equation-requires-clause-formula
add_equation-requires-clause-formula c = AreBelow-get _ c.args.atoms.now c.loop-f.f-index (record { 0 = 0 }) c.requires c.loop-f-test.true

pub loop-f-preserved : goal.loop-f-preserved
loop-f-preserved c = record {
  has = c.in_ok-add_equation.ensures.has;
  are = kept_next (formula_at c.args.bank.now) is_store_equation c.args.atoms.now c.loop-f.equations.items c.add_equation.new.equations.items c.loop-f.f-index (record { 0 = 0 }) c.loop-f-test.true c.loop-f.invariant.are c.in_ok-add_equation.ensures.are;
}
