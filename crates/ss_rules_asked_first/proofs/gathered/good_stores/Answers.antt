use Rattle.ss_logic.specs.Asked as spec
use Rattle.ss_terms.specs.Forms.{formula_at}
use Rattle.ss_terms.proofs.Tested.{AreBelow-get}
use Rattle.ss_rules_asked_first.proofs.Gathering.{terms_next}
use Rattle.ss_rules_asked_first.proofs.gathered.good_stores.Goals as goal

pub good_of-store-requires : goal.good_of-store-requires
good_of-store-requires c = AreBelow-get _ c.args.atoms.now c.loop-f.f-index (record { 0 = 0 }) c.requires c.loop-f-test.true

pub loop-f-preserved : goal.loop-f-preserved
loop-f-preserved c =
    terms_next (formula_at c.args.bank.now) spec.good_of c.args.atoms.now c.loop-f.f-index (record { 0 = 0 }) c.args.bank.now c.loop-f.stores.items c.add_term.new.terms.items c.good_of-store.result c.loop-f-test.true c.loop-f.invariant c.good_of-store.ensures c.in_ok-add_term.ensures
