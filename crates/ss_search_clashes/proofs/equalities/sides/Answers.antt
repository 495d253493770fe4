use Rattle.ss_terms.specs.Forms.{formula_at}
use Rattle.ss_search_clashes.proofs.Equations.{sides_terms, sides_some, sides_none}
use Rattle.ss_search_clashes.proofs.equalities.sides.Goals as goal

pub returns-clause-terms : goal.returns-clause-terms
returns-clause-terms c = sides_terms c.args.bank.now (formula_at c.args.bank.now c.args.f) c.find_sides.result c.find_sides.ensures

pub returns-clause-some : goal.returns-clause-some
returns-clause-some c = sides_some c.args.bank.now (formula_at c.args.bank.now c.args.f) c.find_sides.result c.find_sides.ensures

pub returns-clause-none : goal.returns-clause-none
returns-clause-none c = sides_none c.args.bank.now (formula_at c.args.bank.now c.args.f) c.find_sides.result c.find_sides.ensures
