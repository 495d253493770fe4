use Rattle.std.proofs.Common.{◌==◌, ◌∙◌, ap}
use Rattle.std.specs.List.{list_any}
use Rattle.ss_deriv.specs.declared.line.Sum.{Sum}
use Rattle.ss_search_whole_sums.proofs.Sums.{uses_here, uses_more, uses_none}
use Rattle.ss_search_whole_sums.proofs.summing.uses.Goals as goal

pub returns-then-has_place : goal.returns-then-has_place
returns-then-has_place c =
    let is = c.has_place.ensures ∙ ap (list_any (λ p. p.0 == c.args.place)) c.deref.ensures.value ∙ ap (λ (s : Sum). list_any (λ p. p.0 == c.args.place) s.parts.items) c.sum-item.is in
    uses_here c.args.sums.now c.args.place c.loop-sum.sum-index c.sum-item.result c.has_place.result c.loop-sum-test.true is c.if-has_place.true

pub loop-sum-preserved : goal.loop-sum-preserved
loop-sum-preserved c =
    let is = c.has_place.ensures ∙ ap (list_any (λ p. p.0 == c.args.place)) c.deref.ensures.value ∙ ap (λ (s : Sum). list_any (λ p. p.0 == c.args.place) s.parts.items) c.sum-item.is in
    uses_more c.args.sums.now c.args.place c.loop-sum.sum-index c.sum-item.result c.has_place.result c.loop-sum-test.true c.loop-sum.invariant is c.if-has_place.false

pub returns : goal.returns
returns c = uses_none c.args.sums.now c.args.place c.loop-sum.sum-index c.loop-sum-test.false c.loop-sum.invariant
