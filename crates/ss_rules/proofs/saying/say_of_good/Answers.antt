use Rattle.std.proofs.Common.{ap, ◌∙◌}
use Rattle.std.specs.Prelude.{option_map}
use Rattle.ss_logic.specs.Asked.{if_good}
use Rattle.ss_terms.specs.Forms.{term_at, formula_at}
use Rattle.ss_rules.proofs.Making.{number_is, number_has, ok_number}
use Rattle.ss_rules.proofs.saying.say_of_good.Goals as goal

pub only_where_good-requires-clause-found : goal.only_where_good-requires-clause-found
only_where_good-requires-clause-found c = number_has c.good_instance.new.b _ c.in_ok-found.found c.in_ok-found.ensures.at

pub returns-clause-at : goal.returns-clause-at
returns-clause-at c =
    ok_number c.only_where_good.result c.only_where_good.new.bank _ _
    (ap (λ s. option_map (if_good s) (option_map (formula_at c.good_instance.new.b) c.in_ok-found.found)) (c.good_instance.ensures.grown.same_terms c.args.s c.requires.store)
    ∙ ap (option_map (if_good (term_at c.args.bank.now c.args.s))) (number_is c.good_instance.new.b _ c.in_ok-found.found c.in_ok-found.ensures.at))
    c.only_where_good.ensures.at
