use Rattle.std.proofs.Common.{rules, sym, ◌∙◌, ap, SFits, to_z-of_z, get_or, pos}
use Rattle.std.specs.Int.{w64, w128}
use Rattle.std.proofs.lemmas.List.{drop_all}
use Rattle.ss_logic.specs.Sums as sums
use Rattle.ss_terms.specs.Forms.{formulas_at}
use Rattle.ss_linear_sums.specs.Linear.{sum_at}
use Rattle.ss_linear_sums.proofs.Weights.{facts_stop, facts_go_on}
use Rattle.ss_linear_sums.proofs.adding.weighted.Goals as goal

pub returns-in-Ok-false-clause-sum : goal.returns-in-Ok-false-clause-sum
returns-in-Ok-false-clause-sum c = λ cs of.
    let wide : SFits w128 c.wide.result = search rules in
    let fits : SFits w64 (get_or c.args.parts.now c.loop-part.part-index (0, pos 0)).1 = search rules in
    sym (c.loop-part.invariant.goes_on cs of)
    ∙ facts_stop cs (formulas_at c.args.bank.now c.args.known.now) c.args.parts.now c.loop-part.part-index (0, pos 0) c.loop-part-test.true (sum_at c.args.bank.now c.loop-part.sum)
    (rw (to_z-of_z wide, c.wide.ensures, to_z-of_z fits, c.in-Ok-false.field-0-test) at (c.in-Ok-false.ensures.added cs of))

pub loop-part-preserved : goal.loop-part-preserved
loop-part-preserved c =
    let wide : SFits w128 c.wide.result = search rules in
    let fits : SFits w64 (get_or c.args.parts.now c.loop-part.part-index (0, pos 0)).1 = search rules in
    record {
      kept = c.in-Ok-true.ensures.kept;
      has = c.in-Ok-true.ensures.has;
      goes_on = λ cs of.
          sym (facts_go_on cs (formulas_at c.args.bank.now c.args.known.now) c.args.parts.now c.loop-part.part-index (0, pos 0) c.loop-part-test.true (sum_at c.args.bank.now c.loop-part.sum) (sum_at c.args.bank.now c.add_known.new.sum)
          (rw (to_z-of_z wide, c.wide.ensures, to_z-of_z fits, c.in-Ok-true.field-0-test) at (c.in-Ok-true.ensures.added cs of)))
          ∙ c.loop-part.invariant.goes_on cs of;
    }

pub returns-clause-sum : goal.returns-clause-sum
returns-clause-sum c = λ cs of.
    let last = drop_all c.loop-part.part-index c.args.parts.now c.loop-part-test.false in
    (c.loop-part.invariant.has, sym (c.loop-part.invariant.goes_on cs of) ∙ ap (sums.weighted cs (formulas_at c.args.bank.now c.args.known.now) (sum_at c.args.bank.now c.loop-part.sum)) last)
