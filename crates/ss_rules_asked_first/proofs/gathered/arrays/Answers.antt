use Rattle.ss_logic.specs.Asked as spec
use Rattle.ss_terms.specs.Forms.{term_at}
use Rattle.ss_terms.proofs.Tested.{AreTermsBelow-get}
use Rattle.ss_rules_asked_first.proofs.Gathering.{terms_next}
use Rattle.ss_rules_asked_first.proofs.gathered.arrays.Goals as goal

pub length_of-array-requires : goal.length_of-array-requires
length_of-array-requires c = AreTermsBelow-get _ c.args.terms.now c.loop-t.t-index (record { 0 = 0 }) c.requires c.loop-t-test.true

pub loop-t-preserved : goal.loop-t-preserved
loop-t-preserved c =
    terms_next (term_at c.args.bank.now) spec.length_of c.args.terms.now c.loop-t.t-index (record { 0 = 0 }) c.args.bank.now c.loop-t.arrays.items c.add_term.new.terms.items c.length_of-array.result c.loop-t-test.true c.loop-t.invariant c.length_of-array.ensures c.in_ok-add_term.ensures
