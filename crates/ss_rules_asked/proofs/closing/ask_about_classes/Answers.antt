use Rattle.std.proofs.Common.{◌++◌, sym, ◌∙◌, ap}
use Rattle.std.specs.Prelude.{flat_map, filter_map}
use Rattle.ss_logic.specs.Asked as spec
use Rattle.ss_terms.specs.Forms.{terms_at, formulas_at}
use Rattle.ss_rules_asked.specs.Readings.{all_counts_at}
use Rattle.ss_rules_asked.proofs.Asking.{asked_then, asked_and}
use Rattle.ss_rules_asked.proofs.closing.ask_about_classes.Goals as goal

pub returns : goal.returns
returns c =
    let atoms = formulas_at c.args.bank.now c.args.atoms.now in
    let terms = terms_at c.args.bank.now c.args.terms.now in
    asked_then c.ask_at_terms.result c.args.bank.now c.args.asked.now.items c.ask_of_counts.new.asked.items c.ask_at_terms.new.asked.items
    (flat_map (spec.asked_of_class terms) terms ++ flat_map spec.asked_at_count atoms ++ spec.asked_of_counts (all_counts_at c.args.bank.now c.deref.result.now)) (flat_map spec.asked_of_term terms) (spec.asked_about_classes atoms terms)
    (ap (λ cs. flat_map (spec.asked_of_class terms) terms ++ flat_map spec.asked_at_count atoms ++ spec.asked_of_counts cs ++ flat_map spec.asked_of_term terms) (sym (ap (all_counts_at c.args.bank.now) c.deref.ensures.value ∙ c.in_ok-counts.ensures.are)))
    (asked_and c.args.bank.now c.args.asked.now.items c.ask_at_atoms.new.asked.items c.ask_of_counts.new.asked.items _ _
    (asked_and c.args.bank.now c.args.asked.now.items c.ask_among_all.new.asked.items c.ask_at_atoms.new.asked.items _ _ c.in_ok-ask_among_all.ensures c.in_ok-ask_at_atoms.ensures)
    c.in_ok-ask_of_counts.ensures)
    c.ask_at_terms.ensures
