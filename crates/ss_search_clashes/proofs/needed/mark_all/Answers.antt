use Rattle.std.proofs.Common.{◌≡◌, subst, arith}
use Rattle.ss_search_clashes.specs.Needed.{AreNeeded}
use Rattle.ss_search_clashes.proofs.Marks.{needed_first, needed_before}
use Rattle.ss_search_clashes.proofs.needed.mark_all.Goals as goal

pub loop-number-init : goal.loop-number-init
loop-number-init c = (
  omega arith,
  needed_first c.requires.ends.terms c.args.context.now.joins.now c.requires.ends.log c.args.context.now.congruence.now.terms c.args.context.now.congruence.now.merges c.requires.caused c.args.xs.now c.args.ys.now c.requires.paired c.args.marks.now c.mark_ways.new.marks c.requires.none c.in_ok-mark_ways.ensures,
)

pub mark_join-requires-clause-long : goal.mark_join-requires-clause-long
mark_join-requires-clause-long c = omega (arith, c.loop-number.auto.marks, c.requires.long)

pub mark_join-requires-clause-number : goal.mark_join-requires-clause-number
mark_join-requires-clause-number c = omega (arith, c.loop-number.invariant.0, c.loop-number-test.true)

pub loop-number-preserved : goal.loop-number-preserved
loop-number-preserved c = (
  omega (arith, c.loop-number.invariant.0),
  needed_before c.requires.ends.terms c.args.context.now.joins.now c.requires.ends.log c.args.context.now.congruence.now.terms c.args.context.now.congruence.now.merges c.requires.caused c.args.xs.now c.args.ys.now c.requires.paired
      c.loop-number.number c.loop-number.marks c.mark_join.new.marks c.loop-number-test.true c.loop-number.invariant.0 c.loop-number.invariant.1 c.in_ok-mark_join.ensures,
)

pub returns : goal.returns
returns c =
    let none : c.loop-number.number ≡ 0 = omega (arith, c.loop-number-test.false) in
    subst (λ n. AreNeeded c.args.context.now.congruence.now.terms c.args.context.now.joins.now c.args.xs.now c.args.ys.now n c.loop-number.marks) none c.loop-number.invariant.1
