use Rattle.std.proofs.Common.{◌++◌, sym, ◌∙◌, ap}
use Rattle.std.specs.Prelude.{flat_map}
use Rattle.ss_logic.specs.Asked as spec
use Rattle.ss_terms.specs.Forms.{terms_at, formulas_at}
use Rattle.ss_rules_asked.specs.Readings.{readings_at}
use Rattle.ss_rules_asked.proofs.Asking.{asked_then, asked_and}
use Rattle.ss_rules_asked.proofs.closing.ask_about_stores.Goals as goal

pub returns : goal.returns
returns c =
    let atoms = formulas_at c.args.bank.now c.args.atoms.now in
    let terms = terms_at c.args.bank.now c.args.terms.now in
    asked_then c.ask_among_all.result c.args.bank.now c.args.asked.now.items c.ask_at_terms.new.asked.items c.ask_among_all.new.asked.items
    (flat_map (spec.asked_at_read atoms) (readings_at c.args.bank.now c.deref.result.now) ++ flat_map spec.asked_at_next terms) (flat_map (spec.asked_at_new terms) terms) (spec.asked_about_stores atoms terms)
    (ap (λ rs. flat_map (spec.asked_at_read atoms) rs ++ flat_map spec.asked_at_next terms ++ flat_map (spec.asked_at_new terms) terms) (sym (ap (readings_at c.args.bank.now) c.deref.ensures.value ∙ c.in_ok-reads.ensures.are)))
    (asked_and c.args.bank.now c.args.asked.now.items c.ask_at_all_reads.new.asked.items c.ask_at_terms.new.asked.items _ _ c.in_ok-ask_at_all_reads.ensures c.in_ok-ask_at_terms.ensures)
    c.ask_among_all.ensures
