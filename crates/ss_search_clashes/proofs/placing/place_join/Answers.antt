use Rattle.std.proofs.Common.{◌∙◌, ap, sym, subst, refl}
use Rattle.ss_equality_rules.specs.declared.Join.{Join}
use Rattle.ss_search_clashes.specs.Placed.{IsPlaced}
use Rattle.ss_search_clashes.proofs.Lists.{one_there}
use Rattle.ss_search_clashes.proofs.Marks.{merge_inside}
use Rattle.ss_search_clashes.proofs.Places.{placed_merge}
use Rattle.ss_search_clashes.proofs.placing.place_join.Goals as goal

pub because-requires : goal.because-requires
because-requires c = merge_inside c.requires.ends.terms c.args.context.now.joins.now c.requires.ends.log c.args.context.now.congruence.now.terms c.args.context.now.congruence.now.merges c.requires.caused c.args.number c.in-Some.merge c.join_at.result c.join_at.ensures c.in-Some.is

pub returns-in-Some : goal.returns-in-Some
returns-in-Some c = λ e at.
    subst (λ (z : Join). IsPlaced c.args.context.now.bank.now c.args.context.now.congruence.now.terms c.args.context.now.congruence.now.merges c.args.context.now.joins.now c.args.places.now c.args.context.now.known z c.args.lines.now.items c.args.lines.now.items c.because.result)
    (one_there c.args.context.now.joins.now c.args.number c.join_at.result e c.join_at.ensures at)
    (placed_merge c.args.context.now.bank.now c.args.context.now.congruence.now.terms c.args.context.now.congruence.now.merges c.args.context.now.joins.now c.args.places.now c.args.context.now.known c.join_at.result c.args.lines.now.items c.args.lines.now.items c.in-Some.merge c.because.result c.in-Some.is refl c.because.ensures)

pub place_congruence-requires-clause-congruent : goal.place_congruence-requires-clause-congruent
place_congruence-requires-clause-congruent c = λ e at. ap (λ (z : Join). z.why) (sym (one_there c.args.context.now.joins.now c.args.number c.join_at.result e c.join_at.ensures at)) ∙ c.in-None.is
