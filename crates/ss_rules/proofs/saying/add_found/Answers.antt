use Rattle.ss_logic.specs.Asked.{said}
use Rattle.ss_rules_asked.specs.Numbers.{asked_at}
use Rattle.ss_rules_occurring.specs.Found.{formulas_of}
use Rattle.ss_rules_opened.specs.Views.{StillCome}
use Rattle.ss_rules.proofs.Noted.{ok_some_noted}
use Rattle.ss_rules.proofs.saying.add_found.Goals as goal

pub returns-in-Some-clause-noted : goal.returns-in-Some-clause-noted
returns-in-Some-clause-noted c =
    let a = c.args.bank.now in
    ok_some_noted c.add_new.result a c.args.found c.in-Some.f (λ cs. said cs (asked_at a c.args.asked.now))
    (λ cs. StillCome cs a (formulas_of a c.args.listed.now.list) c.args.listed.now.origins.items c.add_new.new.bank (formulas_of c.add_new.new.bank c.add_new.new.listed.list) c.add_new.new.listed.origins.items) c.in-Some.is c.add_new.ensures.noted
