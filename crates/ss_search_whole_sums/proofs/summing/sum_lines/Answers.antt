use Rattle.std.proofs.Common.{◌∙◌, ap}
use Rattle.ss_deriv.specs.declared.line.Sum.{Sum}
use Rattle.ss_linear.specs.Contradictions.{summed}
use Rattle.ss_search_whole_sums.specs.Summing.{sum_line}
use Rattle.ss_search_whole_sums.proofs.Sums.{line_more, line_all}
use Rattle.ss_search_whole_sums.proofs.summing.sum_lines.Goals as goal

pub loop-sum-preserved : goal.loop-sum-preserved
loop-sum-preserved c = λ b.
    line_more b c.args.places.now c.args.known c.args.sums.now c.loop-sum.sum-index c.sum-item.result c.loop-sum.lines.items c.push.new.self.items c.in_ok-sum_line.field-0 c.loop-sum-test.true (c.loop-sum.invariant b)
    c.in_ok-push.ensures.items (c.in_ok-sum_line.ensures b ∙ ap (λ (s : Sum). sum_line c.args.places.now c.args.known (summed s)) c.sum-item.is)

pub returns : goal.returns
returns c = λ b. line_all b c.args.places.now c.args.known c.args.sums.now c.loop-sum.sum-index c.loop-sum.lines.items c.loop-sum-test.false (c.loop-sum.invariant b)
