use Rattle.std.proofs.Common.{ℕ, List, length, sym, ◌∙◌, ap, subst}
use Rattle.ss_search_models.specs.Wholes.{AreNexts}
use Rattle.ss_search_models.proofs.Equalities.{pairs_more, pairs_all}
use Rattle.ss_search_models.proofs.pairs.equal_pairs.Goals as goal

pub add_pairs-requires-clause-long : goal.add_pairs-requires-clause-long
add_pairs-requires-clause-long c = ap length c.as_slice-nexts.ensures.value ∙ c.in_ok-places.ensures.long

pub add_pairs-requires-clause-next : goal.add_pairs-requires-clause-next
add_pairs-requires-clause-next c = subst (λ (ns : List ℕ). AreNexts c.args.found.now ns) (sym c.as_slice-nexts.ensures.value) c.in_ok-places.ensures.next

pub loop-i-preserved : goal.loop-i-preserved
loop-i-preserved c = pairs_more c.args.found.now c.loop-i.i c.loop-i.pairs.items c.add_pairs.new.pairs.items _ c.loop-i-test.true c.in_ok-add_pairs.ensures c.loop-i.invariant

pub returns : goal.returns
returns c = pairs_all c.args.found.now c.loop-i.i c.loop-i.pairs.items _ c.loop-i-test.false c.loop-i.invariant
