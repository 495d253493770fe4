use Rattle.std.proofs.Common.{◌∙◌, sym, refl, arith}
use Rattle.std.proofs.lemmas.Option.{slice_get_within}
use Rattle.ss_equality_rules.proofs.Names.{name_none}
use Rattle.ss_equality_rules.proofs.Climb.{joined_here, both_climbed, at_top}
use Rattle.ss_search_clashes.proofs.ways.joining.Goals as goal

pub loop-end-init : goal.loop-end-init
loop-end-init c = (omega arith, name_none c.args.x, name_none c.args.y, c.requires.apart)

pub join_at-join-requires : goal.join_at-join-requires
join_at-join-requires c = let f = c.in-Some.ensures.first in slice_get_within c.args.joins.now c.in-Some.end f.join f.at

pub returns-then-left-right : goal.returns-then-left-right
returns-then-left-right c =
    joined_here c.requires.ends.terms c.args.joins.now c.requires.ends.log c.loop-end.seen c.args.x c.args.y c.loop-end.left c.loop-end.right c.in-Some.end c.join_at-join.result _
    c.loop-end.invariant.0 c.loop-end.invariant.1 c.loop-end.invariant.2 c.in-Some.ensures.first c.join_at-join.ensures c.loop-end.invariant.3
    (sym c.renamed-left.ensures ∙ c.if-left-right.true ∙ c.renamed-right.ensures) refl

pub overflow_add-seen : goal.overflow_add-seen
overflow_add-seen c =
    let f = c.in-Some.ensures.first in
    let p = slice_get_within c.args.joins.now c.in-Some.end f.join f.at in
    omega (arith, p)

pub loop-end-smaller : goal.loop-end-smaller
loop-end-smaller c =
    let p = both_climbed c.requires.ends.terms c.args.joins.now c.requires.ends.log c.loop-end.seen c.args.x c.args.y c.loop-end.left c.loop-end.right c.in-Some.end c.join_at-join.result c.loop-end.invariant.0 c.loop-end.invariant.1 c.loop-end.invariant.2 c.in-Some.ensures.first c.join_at-join.ensures in
    omega (arith, p.0, p.1)

pub loop-end-preserved : goal.loop-end-preserved
loop-end-preserved c =
    let p = both_climbed c.requires.ends.terms c.args.joins.now c.requires.ends.log c.loop-end.seen c.args.x c.args.y c.loop-end.left c.loop-end.right c.in-Some.end c.join_at-join.result c.loop-end.invariant.0 c.loop-end.invariant.1 c.loop-end.invariant.2 c.in-Some.ensures.first c.join_at-join.ensures in
    (omega (arith, p.1), p.2 ∙ sym c.renamed-left.ensures, p.3 ∙ sym c.renamed-right.ensures, c.if-left-right.false)

pub unreachable-requires : goal.unreachable-requires
unreachable-requires c =
    let tops = c.first_end.ensures.none c.in_default.is in
    let left = at_top c.requires.ends.terms c.args.joins.now c.requires.ends.log c.loop-end.seen c.args.x c.loop-end.left c.loop-end.invariant.0 c.loop-end.invariant.1 tops.0 in
    let right = at_top c.requires.ends.terms c.args.joins.now c.requires.ends.log c.loop-end.seen c.args.y c.loop-end.right c.loop-end.invariant.0 c.loop-end.invariant.2 tops.1 in
    c.loop-end.invariant.3 (left ∙ c.requires.same ∙ sym right)
