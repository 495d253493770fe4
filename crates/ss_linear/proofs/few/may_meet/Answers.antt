use Rattle.ss_terms.specs.Forms.{term_at}
use Rattle.ss_linear_sums.specs.Linear.{fact_at}
use Rattle.ss_linear_rules.proofs.Few.{none_by_part}
use Rattle.ss_linear.proofs.few.may_meet.Goals as goal

pub returns-in-Some : goal.returns-in-Some
returns-in-Some c = λ cs known i j ea eb w u x y f.
    none_by_part cs known i j w u (fact_at c.args.bank.now c.args.a.now) (fact_at c.args.bank.now c.args.b.now) (term_at c.args.bank.now c.in-Some.p.term) ea eb
    (rw (c.deref-in-Some.ensures.value, c.deref-in-Some-2.ensures.value) at (c.may_match.ensures w u x y f))
