use Rattle.ss_linear.proofs.Glue.{has_pair}
use Rattle.ss_search_candidates.proofs.numbers.add_equal.Goals as goal

pub equality_fact-requires : goal.equality_fact-requires
equality_fact-requires c =
    let terms = has_pair c.args.bank.now c.args.pairs.now c.loop-pair.pair-index (record { 0 = 0 }, record { 0 = 0 }) c.requires c.loop-pair-test.true in
    record { left = terms.0; right = terms.1; kept = c.loop-pair.invariant }
