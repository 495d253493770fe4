use Rattle.std.proofs.Common.{rules, SFits, to_z-of_z}
use Rattle.std.specs.Int.{w128}
use Rattle.ss_terms.specs.Forms.{term_at}
use Rattle.ss_linear_sums.specs.Linear.{fact_at}
use Rattle.ss_linear_rules.proofs.Few.{none_by_numbers, none_by_part}
use Rattle.ss_linear.proofs.few.may_contradict.Goals as goal

pub returns-then-not-may_be_above : goal.returns-then-not-may_be_above
returns-then-not-may_be_above c = λ cs known i j ea eb f.
    let ka : SFits w128 c.args.a.now.sum.constant = search rules in
    let kb : SFits w128 c.args.b.now.sum.constant = search rules in
    none_by_numbers cs known i j c.args.w c.args.u (fact_at c.args.bank.now c.args.a.now) (fact_at c.args.bank.now c.args.b.now) ea eb
    (rw (to_z-of_z c.ranges.w, to_z-of_z ka, to_z-of_z c.ranges.u, to_z-of_z kb) at (c.may_be_above.ensures c.if-not-may_be_above.true))

pub returns-in-Some : goal.returns-in-Some
returns-in-Some c = λ cs known i j ea eb f.
    none_by_part cs known i j c.args.w c.args.u (fact_at c.args.bank.now c.args.a.now) (fact_at c.args.bank.now c.args.b.now) (term_at c.args.bank.now c.in-Some.p.term) ea eb
    (rw (to_z-of_z c.ranges.w, to_z-of_z c.ranges.u, c.deref-in-Some.ensures.value, c.deref-in-Some-2.ensures.value) at (c.may_cancel.ensures f))
