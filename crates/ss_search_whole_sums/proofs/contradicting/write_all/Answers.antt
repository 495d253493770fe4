use Rattle.ss_terms.specs.Bank.{number}
use Rattle.ss_linear.specs.Contradictions.{sums_of}
use Rattle.ss_linear.proofs.Glue.{has_pair}
use Rattle.ss_search_whole_sums.proofs.Written.{begun, equal_pair, written_more, written_all}
use Rattle.ss_search_whole_sums.proofs.contradicting.write_all.Goals as goal

pub loop-equality-init : goal.loop-equality-init
loop-equality-init c =
    begun c.args.context.now.bank.now c.args.context.now.congruence.now.merges c.args.context.now.count (sums_of c.args.sums.now) c.args.places.now c.in_ok-written.written.places.items c.in_ok-written.written.lines.items c.in_ok-written.ensures.places c.in_ok-written.ensures.lines

pub write_used-requires-clause-left : goal.write_used-requires-clause-left
write_used-requires-clause-left c = (has_pair c.args.context.now.bank.now c.args.equalities.now c.loop-equality.equality-index (number 0, number 0) c.requires.pairs c.loop-equality-test.true).0

pub write_used-requires-clause-right : goal.write_used-requires-clause-right
write_used-requires-clause-right c = (has_pair c.args.context.now.bank.now c.args.equalities.now c.loop-equality.equality-index (number 0, number 0) c.requires.pairs c.loop-equality-test.true).1

pub write_used-requires-clause-equal : goal.write_used-requires-clause-equal
write_used-requires-clause-equal c = equal_pair c.args.context.now.congruence.now c.args.equalities.now c.loop-equality.equality-index (number 0, number 0) c.requires.equal c.loop-equality-test.true

pub loop-equality-preserved : goal.loop-equality-preserved
loop-equality-preserved c =
    let old = c.loop-equality.written in
    let new = c.write_used.new.written in
    written_more c.args.context.now.bank.now c.args.context.now.congruence.now.merges c.args.context.now.count (sums_of c.args.sums.now) c.args.places.now c.args.equalities.now c.loop-equality.equality-index (number 0, number 0)
    old.lines.items new.lines.items old.places.items new.places.items c.loop-equality-test.true c.loop-equality.invariant c.in_ok-write_used.ensures

pub returns : goal.returns
returns c =
    let w = c.loop-equality.written in
    written_all c.args.context.now.bank.now c.args.context.now.congruence.now.merges c.args.context.now.count (sums_of c.args.sums.now) c.args.places.now c.args.equalities.now c.loop-equality.equality-index w.places.items w.lines.items c.loop-equality-test.false c.loop-equality.invariant
