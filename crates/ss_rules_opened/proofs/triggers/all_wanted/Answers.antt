use Rattle.ss_terms.specs.Forms.{term_at}
use Rattle.ss_terms.proofs.Tested.{AreTermsBelow-get}
use Rattle.ss_rules_opened.specs.Matches.{is_wanted}
use Rattle.ss_rules_opened.proofs.Kept.{kept_next}
use Rattle.ss_rules_opened.proofs.triggers.all_wanted.Goals as goal

pub add_wanted-requires-clause-term : goal.add_wanted-requires-clause-term
add_wanted-requires-clause-term c = AreTermsBelow-get _ c.args.ts.now c.loop-t.t-index (record { 0 = 0 }) c.requires c.loop-t-test.true

pub loop-t-preserved : goal.loop-t-preserved
loop-t-preserved c = record {
  has = c.in_ok-add_wanted.ensures.has;
  are = kept_next (term_at c.args.bank.now) (is_wanted c.args.wanted) c.args.ts.now c.loop-t.kept.items c.add_wanted.new.kept.items c.loop-t.t-index (record { 0 = 0 }) c.loop-t-test.true c.loop-t.invariant.are c.in_ok-add_wanted.ensures.are;
}
