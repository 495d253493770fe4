use Rattle.ss_terms.specs.Forms.{terms_at}
use Rattle.ss_terms.proofs.Grown.{IsGrown-then}
use Rattle.ss_rules_opened.proofs.Fresh.{fresh_next, fresh_done}
use Rattle.ss_rules_opened.proofs.constants.fresh_constants.Goals as goal

pub loop-sort-preserved : goal.loop-sort-preserved
loop-sort-preserved c = record {
  grown = IsGrown-then c.args.bank.now c.loop-sort.bank c.add_fresh.new.bank c.loop-sort.invariant.grown c.add_fresh.ensures.grown;
  has_taken = c.in_ok-add_fresh.ensures.has_taken;
  has_made = c.in_ok-add_fresh.ensures.has_made;
  left = fresh_next c.args.sorts.now c.loop-sort.sort-index _ (terms_at c.loop-sort.bank c.loop-sort.made.items) (terms_at c.add_fresh.new.bank c.add_fresh.new.made.items) (terms_at c.loop-sort.bank c.loop-sort.taken.items) (terms_at c.add_fresh.new.bank c.add_fresh.new.taken.items) _
      c.loop-sort-test.true c.loop-sort.invariant.left c.in_ok-add_fresh.ensures.taken c.in_ok-add_fresh.ensures.made;
}

pub returns-clause-are : goal.returns-clause-are
returns-clause-are c = fresh_done c.args.sorts.now c.loop-sort.sort-index (terms_at c.loop-sort.bank c.loop-sort.made.items) (terms_at c.loop-sort.bank c.loop-sort.taken.items) _ c.loop-sort-test.false c.loop-sort.invariant.left
