use Rattle.std.proofs.Common.{arith}
use Rattle.std.proofs.lemmas.Option.{slice_get_within}
use Rattle.ss_search_clashes.proofs.Ending.{no_ends_yet, from_inside, one_more_end, all_ends}
use Rattle.ss_search_clashes.proofs.ends.ends.Goals as goal

pub loop-number-init : goal.loop-number-init
loop-number-init c = no_ends_yet c.args.terms c.args.joins.now c.in_ok-ends.ends.items c.in_ok-ends.ensures.long c.in_ok-ends.ensures.none

pub index_mut-requires : goal.index_mut-requires
index_mut-requires c =
    let inside = from_inside c.args.terms c.args.joins.now c.requires c.loop-number.number c.join_at-join.result c.loop-number.ends.items c.join_at-join.ensures c.loop-number.invariant in
    omega (arith, inside, c.loop-number.ends.ok.0)

pub loop-number-preserved : goal.loop-number-preserved
loop-number-preserved c = one_more_end c.args.terms c.args.joins.now c.requires c.loop-number.number c.join_at-join.result c.loop-number.ends.items c.join_at-join.ensures c.loop-number.invariant

pub returns : goal.returns
returns c = all_ends c.args.terms c.args.joins.now c.requires c.loop-number.number c.loop-number.ends.items c.loop-number.invariant
    (λ j e at. let inside = slice_get_within c.args.joins.now j e at in omega (arith, inside, c.loop-number-test.false))
