use Rattle.std.proofs.Common.{◌++◌, sym, ◌∙◌, ap}
use Rattle.std.specs.Prelude.{flat_map, filter}
use Rattle.ss_core.specs.View as view
use Rattle.ss_logic.specs.Asked as spec
use Rattle.ss_terms.specs.Forms.{terms_at}
use Rattle.ss_rules_asked.proofs.Asking.{asked_then, asked_and}
use Rattle.ss_rules_asked.proofs.closing.ask_about_values.Goals as goal

pub returns : goal.returns
returns c =
    let cs = view.classes c.args.classes.now in
    let terms = terms_at c.args.bank.now c.args.terms.now in
    asked_then c.ask_at_terms-2.result c.args.bank.now c.args.asked.now.items c.ask_of_pairs.new.asked.items c.ask_at_terms-2.new.asked.items
    (flat_map spec.asked_of_pair terms ++ spec.asked_of_pairs (terms_at c.args.bank.now c.deref.result.now)) (flat_map (spec.asked_of_truth cs) terms) (spec.asked_about_values cs terms)
    (ap (λ ps. flat_map spec.asked_of_pair terms ++ spec.asked_of_pairs ps ++ flat_map (spec.asked_of_truth cs) terms) (sym (ap (terms_at c.args.bank.now) c.deref.ensures.value ∙ c.in_ok-owners.ensures.are)))
    (asked_and c.args.bank.now c.args.asked.now.items c.ask_at_terms.new.asked.items c.ask_of_pairs.new.asked.items _ _ c.in_ok-ask_at_terms.ensures c.in_ok-ask_of_pairs.ensures)
    c.ask_at_terms-2.ensures
