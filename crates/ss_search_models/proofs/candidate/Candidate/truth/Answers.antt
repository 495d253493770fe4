use Rattle.std.proofs.Common.{true, false, refl}
use Rattle.ss_search_models.proofs.Numbers.{truth_is}
use Rattle.ss_search_models.proofs.candidate.Candidate.truth.Goals as goal

pub returns-then-has : goal.returns-then-has
returns-then-has c = truth_is c.args.bank.now c.args.self.now c.requires.candidate c.numbers_are_apart.ensures c.args.f true c.truth_number.result c.requires.formula c.if-has.ensures c.truth_number.ensures

pub returns-else-has : goal.returns-else-has
returns-else-has c = truth_is c.args.bank.now c.args.self.now c.requires.candidate c.numbers_are_apart.ensures c.args.f false _ c.requires.formula c.if-has.ensures refl
