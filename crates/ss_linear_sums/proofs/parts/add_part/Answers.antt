use Rattle.std.proofs.Common.{to_z-of_z}
use Rattle.ss_linear_sums.specs.Parts.{IsPushed}
use Rattle.ss_linear_sums.proofs.Places.{raised_has, raised, pushed_has, pushed, if_ok}
use Rattle.ss_linear_sums.proofs.parts.add_part.Goals as goal

pub returns-in-Some-clause-has : goal.returns-in-Some-clause-has
returns-in-Some-clause-has c =
    raised_has c.args.bank.now c.args.n c.args.part c.args.parts.now.items c.raise.new.parts.items c.requires.parts c.in-Some.i c.raise.result (rw c.deref.ensures.value at c.in-Some.ensures).0
    (rw (to_z-of_z c.ranges.n) at c.raise.ensures)

pub returns-in-Some-clause-added : goal.returns-in-Some-clause-added
returns-in-Some-clause-added c =
    raised c.args.bank.now c.args.n c.args.part c.args.parts.now.items c.raise.new.parts.items c.requires.parts c.in-Some.i c.raise.result (rw c.deref.ensures.value at c.in-Some.ensures)
    (rw (to_z-of_z c.ranges.n) at c.raise.ensures)

pub returns-in-None-clause-has : goal.returns-in-None-clause-has
returns-in-None-clause-has c =
    if_ok (λ r. IsPushed r c.args.n c.args.part c.args.parts.now.items c.push.new.parts.items) _ c.push.result
    (λ r e. pushed_has c.args.bank.now c.args.n c.args.part c.args.parts.now.items c.push.new.parts.items c.requires.parts r c.requires.term e) (rw (to_z-of_z c.ranges.n) at c.push.ensures)

pub returns-in-None-clause-added : goal.returns-in-None-clause-added
returns-in-None-clause-added c =
    if_ok (λ r. IsPushed r c.args.n c.args.part c.args.parts.now.items c.push.new.parts.items) _ c.push.result
    (λ r e. pushed c.args.bank.now c.args.n c.args.part c.args.parts.now.items c.push.new.parts.items c.requires.parts r (rw c.deref.ensures.value at c.in-None.ensures) e) (rw (to_z-of_z c.ranges.n) at c.push.ensures)
