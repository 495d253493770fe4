use Rattle.ss_linear_sums.specs.Linear.{fact_at}
use Rattle.ss_linear_network.specs.Made.{numbers_at}
use Rattle.ss_linear.proofs.Seen.{seen_some, seen_none}
use Rattle.ss_linear.proofs.met.is_seen.Goals as goal

pub is_met-requires-clause-parts : goal.is_met-requires-clause-parts
is_met-requires-clause-parts c = rw c.in-Some.is at c.requires.parts

pub returns-in-Some : goal.returns-in-Some
returns-in-Some c = λ o h yes.
    seen_some c.args.may_be_none (numbers_at c.args.bank.now c.args.numbers.now) o (fact_at c.args.bank.now c.in-Some.fact) (rw c.in-Some.is at h).1 (c.is_met.ensures yes)

pub returns-in-None : goal.returns-in-None
returns-in-None c = λ o h yes. seen_none c.args.may_be_none (numbers_at c.args.bank.now c.args.numbers.now) o (rw c.in-None.is at h) yes
