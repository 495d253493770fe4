use Rattle.std.proofs.Common.{◌∙◌, Some, ap, refl}
use Rattle.std.proofs.lemmas.Result.{on_ok_weaker}
use Rattle.ss_equality_rules.specs.declared.Join.{Join}
use Rattle.ss_search_clashes.proofs.Lists.{one_there}
use Rattle.ss_search_clashes.proofs.Marks.{unmarked, marks_unmarked, marks_merge, why_not}
use Rattle.ss_search_clashes.proofs.Congruent.{left_inside, right_inside, arguments_paired, arguments_marked}
use Rattle.ss_search_clashes.proofs.needed.mark_join.Goals as goal

pub returns-then-not-is_marked : goal.returns-then-not-is_marked
returns-then-not-is_marked c = λ e at.
    marks_unmarked c.requires.ends.terms c.args.context.now.joins.now c.requires.ends.log c.args.context.now.congruence.now.terms c.args.context.now.congruence.now.merges c.requires.caused c.args.number e c.args.marks.now c.args.marks.now refl
    (unmarked c.args.marks.now c.args.number c.is_marked.result c.is_marked.ensures c.if-not-is_marked.true)

pub returns-in-Some : goal.returns-in-Some
returns-in-Some c = λ e at.
    marks_merge c.requires.ends.terms c.args.context.now.joins.now c.requires.ends.log c.args.context.now.congruence.now.terms c.args.context.now.congruence.now.merges c.requires.caused c.args.number e c.args.marks.now c.args.marks.now refl
    (why_not e c.in-Some.field-0 (ap (λ (z : Join). z.why) (one_there c.args.context.now.joins.now c.args.number e c.join_at-join.result at c.join_at-join.ensures) ∙ c.in-Some.is))

pub arguments-xs-requires : goal.arguments-xs-requires
arguments-xs-requires c = left_inside c.args.context.now.bank.now c.args.context.now.congruence.now.terms c.requires.forms c.args.context.now.congruence.now.merges c.requires.ends.terms c.args.context.now.joins.now c.requires.ends.log c.requires.caused c.args.number c.join_at-join.result c.join_at-join.ensures c.in-None.is

pub arguments-ys-requires : goal.arguments-ys-requires
arguments-ys-requires c = right_inside c.args.context.now.bank.now c.args.context.now.congruence.now.terms c.requires.forms c.args.context.now.congruence.now.merges c.requires.ends.terms c.args.context.now.joins.now c.requires.ends.log c.requires.caused c.args.number c.join_at-join.result c.join_at-join.ensures c.in-None.is

pub mark_ways-requires-clause-paired : goal.mark_ways-requires-clause-paired
mark_ways-requires-clause-paired c = arguments_paired c.args.context.now.bank.now c.args.context.now.congruence.now.terms c.requires.forms c.args.context.now.congruence.now.merges c.requires.ends.terms c.args.context.now.joins.now c.requires.ends.log c.requires.caused c.args.number c.join_at-join.result c.join_at-join.ensures c.in-None.is
    c.arguments-xs.result.now c.arguments-ys.result.now c.arguments-xs.ensures.arguments c.arguments-ys.ensures.arguments

pub returns-in-None : goal.returns-in-None
returns-in-None c = on_ok_weaker c.mark_ways.result (λ m d at.
    arguments_marked c.args.context.now.bank.now c.args.context.now.congruence.now.terms c.requires.forms c.args.context.now.congruence.now.merges c.requires.ends.terms c.args.context.now.joins.now c.requires.ends.log c.requires.caused c.args.number c.join_at-join.result c.join_at-join.ensures c.in-None.is
    c.arguments-xs.result.now c.arguments-ys.result.now c.arguments-xs.ensures.arguments c.arguments-ys.ensures.arguments d at c.args.marks.now c.mark_ways.new.marks
    (c.is_marked.ensures ∙ ap Some c.if-not-is_marked.false) m) c.mark_ways.ensures
