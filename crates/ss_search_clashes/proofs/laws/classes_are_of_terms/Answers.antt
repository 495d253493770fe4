use Rattle.ss_search_clashes.proofs.Numbers.{is_classing}
use Rattle.ss_search_clashes.proofs.laws.classes_are_of_terms.Goals as goal

pub returns : goal.returns
returns c = λ classes. is_classing c.args.bank.now classes c.numbers_are_apart.ensures
