use Rattle.std.proofs.Common.{ap, sym, subst}
use Rattle.ss_core.specs.View as view
use Rattle.ss_check.specs.Delayed.{formed_fact, IsTold}
use Rattle.ss_check.proofs.told.told_by.Goals as goal

pub checked-requires-clause-formula : goal.checked-requires-clause-formula
checked-requires-clause-formula c = rw c.in-Some.is at c.requires.formula

pub returns-in-Some : goal.returns-in-Some
returns-in-Some c = λ fact plain n.
    let m = rw c.in-Some.is at n in
    subst (λ o. IsTold (view.classes c.args.classes.now) c.args.bank.now c.checked.result o plain) (sym m.1) (c.checked.ensures plain)

pub returns-in-None : goal.returns-in-None
returns-in-None c = λ fact plain n.
    let m = rw c.in-None.is at n in
    ap (formed_fact (view.classes c.args.classes.now)) m
