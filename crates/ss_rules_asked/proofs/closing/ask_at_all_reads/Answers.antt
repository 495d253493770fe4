use Rattle.std.proofs.Common.{◌++◌, ap, ◌∙◌}
use Rattle.std.specs.Prelude.{flat_map}
use Rattle.ss_logic.specs.Asked.{asked_at_read}
use Rattle.ss_terms.specs.Forms.{formulas_at}
use Rattle.ss_rules_asked.specs.Numbers.{asked_in}
use Rattle.ss_rules_asked.specs.Readings.{readings_at}
use Rattle.ss_rules_asked.proofs.Asking.{ok_asks}
use Rattle.ss_rules_asked.proofs.Equations.{only_equations}
use Rattle.ss_rules_asked.proofs.closing.ask_at_all_reads.Goals as goal

pub returns : goal.returns
returns c =
    ok_asks c.ask_at_reads.result c.args.bank.now c.ask_at_reads.new.asked.items _ _
    (ap (λ fs. asked_in c.args.bank.now c.args.asked.now.items ++ flat_map (asked_at_read fs) (readings_at c.args.bank.now c.args.reads.now)) (ap (formulas_at c.args.bank.now) c.deref.ensures.value ∙ c.in_ok-equations.ensures.are)
    ∙ ap (λ xs. asked_in c.args.bank.now c.args.asked.now.items ++ xs) (only_equations (formulas_at c.args.bank.now c.args.atoms.now) (readings_at c.args.bank.now c.args.reads.now)))
    c.ask_at_reads.ensures
