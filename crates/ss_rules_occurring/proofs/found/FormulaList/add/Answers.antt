use Rattle.std.proofs.Common.{true, false, refl}
use Rattle.ss_rules_occurring.proofs.Finding.{formula_there, formula_added}
use Rattle.ss_rules_occurring.proofs.found.FormulaList.add.Goals as goal

pub returns-then-has : goal.returns-then-has
returns-then-has c = formula_there c.args.bank.now c.numbers_are_apart.ensures c.args.self.now c.args.f true c.requires.found c.requires.formula c.if-has.ensures refl

pub returns : goal.returns
returns c =
    formula_added c.args.bank.now c.numbers_are_apart.ensures c.args.self.now (record { list = c.push.new.self; numbers = c.put.new.self }) c.args.f false c.requires.found c.requires.formula c.if-has.ensures refl c.in_ok-push.ensures.items c.in_ok-put.ensures
