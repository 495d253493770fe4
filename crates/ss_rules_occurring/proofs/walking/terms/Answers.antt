use Rattle.ss_terms.proofs.Tested.{AreBelow-get}
use Rattle.ss_rules_occurring.proofs.Stacks.{terms_next}
use Rattle.ss_rules_occurring.proofs.walking.terms.Goals as goal

pub add_terms_of-requires-clause-formula : goal.add_terms_of-requires-clause-formula
add_terms_of-requires-clause-formula c = AreBelow-get _ c.args.atoms.now c.loop-f.f-index (record { 0 = 0 }) c.requires c.loop-f-test.true

pub loop-f-preserved : goal.loop-f-preserved
loop-f-preserved c =
    terms_next c.args.bank.now c.loop-f.found c.add_terms_of.new.found c.args.atoms.now c.loop-f.f-index (record { 0 = 0 }) c.loop-f-test.true c.loop-f.invariant c.in_ok-add_terms_of.ensures
