use Rattle.std.proofs.Common.{refl, length, arith}
use Rattle.ss_equality_rules.proofs.Names.{name_none}
use Rattle.ss_equality_rules.proofs.Climb.{at_top}
use Rattle.ss_equality.proofs.Steps.{climb, end_within}
use Rattle.ss_equality.proofs.classes.Classes.name.Goals as goal

pub loop-end-init : goal.loop-end-init
loop-end-init c = (omega arith, name_none c.args.term)

pub join_at-join-requires : goal.join_at-join-requires
join_at-join-requires c = end_within c.args.self.now.log c.loop-end.class c.in-Some.end c.in-Some.ensures.gone

pub overflow_add-seen : goal.overflow_add-seen
overflow_add-seen c = let p = end_within c.args.self.now.log c.loop-end.class c.in-Some.end c.in-Some.ensures.gone in omega (arith, p, c.join_count-count.ensures.count)

pub loop-end-smaller : goal.loop-end-smaller
loop-end-smaller c =
    let p = climb (length c.args.self.now.forms) c.args.self.now.log c.join_count-count.ensures.log c.loop-end.seen c.args.term c.loop-end.class c.in-Some.end c.join_at-join.result c.loop-end.invariant.0 c.loop-end.invariant.1 c.in-Some.ensures.gone c.join_at-join.ensures in
    omega (arith, p.0, p.1)

pub loop-end-preserved : goal.loop-end-preserved
loop-end-preserved c =
    let p = climb (length c.args.self.now.forms) c.args.self.now.log c.join_count-count.ensures.log c.loop-end.seen c.args.term c.loop-end.class c.in-Some.end c.join_at-join.result c.loop-end.invariant.0 c.loop-end.invariant.1 c.in-Some.ensures.gone c.join_at-join.ensures in
    (omega (arith, p.1), p.2)

pub returns : goal.returns
returns c = at_top (length c.args.self.now.forms) c.args.self.now.log c.join_count-count.ensures.log c.loop-end.seen c.args.term c.loop-end.class c.loop-end.invariant.0 c.loop-end.invariant.1 (c.in_default.ensures.going refl)
