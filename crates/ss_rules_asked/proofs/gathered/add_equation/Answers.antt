use Rattle.std.proofs.Common.{refl, true, false}
use Rattle.ss_terms.specs.Forms.{formula_at}
use Rattle.ss_rules_asked.specs.Readings.{is_store_equation}
use Rattle.ss_rules_asked.proofs.Equations.{has_one_more, pushed, left_out}
use Rattle.ss_rules_asked.proofs.gathered.add_equation.Goals as goal

pub returns-clause-has : goal.returns-clause-has
returns-clause-has c = has_one_more c.args.bank.now c.args.equations.now.items c.push.new.self.items c.args.f c.in_ok-push.ensures.items c.requires.equations c.requires.formula

pub returns-clause-are : goal.returns-clause-are
returns-clause-are c = pushed (formula_at c.args.bank.now) is_store_equation c.args.equations.now.items c.push.new.self.items c.args.f true c.if-not-is_store_equation.ensures refl c.in_ok-push.ensures.items

pub returns-then-not-is_store_equation-clause-are : goal.returns-then-not-is_store_equation-clause-are
returns-then-not-is_store_equation-clause-are c = left_out (formula_at c.args.bank.now) is_store_equation c.args.equations.now.items c.args.f false c.if-not-is_store_equation.ensures refl
