use Rattle.std.proofs.Common.{true, false, refl}
use Rattle.ss_search_models.proofs.Numbers.{class_is}
use Rattle.ss_search_models.proofs.candidate.Candidate.class.Goals as goal

pub returns-then-has : goal.returns-then-has
returns-then-has c = class_is c.args.bank.now c.args.self.now c.requires.candidate c.numbers_are_apart.ensures c.args.t true c.class_number.result c.requires.term c.if-has.ensures c.class_number.ensures

pub returns-else-has : goal.returns-else-has
returns-else-has c = class_is c.args.bank.now c.args.self.now c.requires.candidate c.numbers_are_apart.ensures c.args.t false _ c.requires.term c.if-has.ensures refl
