use Rattle.std.proofs.Common.{◌+◌, ◌++◌, get_or, sym, ap, arith}
use Rattle.ss_search_models.specs.Wholes.{no_whole}
use Rattle.ss_search_models.proofs.Equalities.{pairs_passed, next_same, pair_step, pairs_end}
use Rattle.ss_search_models.proofs.pairs.add_pairs.Goals as goal

pub loop-j-init : goal.loop-j-init
loop-j-init c =
    let w = get_or c.args.found.now c.args.i no_whole in
    let first = c.requires.next c.args.i c.requires.place in
    record {
      same = first.same;
      goes_on = ap (λ ps. c.args.pairs.now.items ++ ps) (sym (pairs_passed w c.args.found.now (c.args.i + 1) (get_or c.args.nexts.now c.args.i 0) first));
    }

pub loop-j-preserved : goal.loop-j-preserved
loop-j-preserved c =
    let w = get_or c.args.found.now c.args.i no_whole in
    let same = c.loop-j.invariant.same c.loop-j-test.true in
    let first = next_same c.args.found.now c.args.nexts.now w c.loop-j.j c.requires.next c.loop-j-test.true same in
    record {
      same = first.same;
      goes_on = pair_step w c.args.found.now c.loop-j.j (get_or c.args.nexts.now c.loop-j.j 0) c.loop-j.pairs.items c.push.new.self.items _ c.loop-j-test.true same first c.in_ok-push.ensures.items c.loop-j.invariant.goes_on;
    }

pub loop-j-smaller : goal.loop-j-smaller
loop-j-smaller c =
    let below = c.loop-j-test.true in
    let from = (c.requires.next c.loop-j.j c.loop-j-test.true).from in
    omega arith

pub returns : goal.returns
returns c = pairs_end (get_or c.args.found.now c.args.i no_whole) c.args.found.now c.loop-j.j c.loop-j.pairs.items _ c.loop-j-test.false c.loop-j.invariant.goes_on
