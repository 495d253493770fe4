use Rattle.std.proofs.Common.{sym, ap, subst, ◌∙◌}
use Rattle.ss_core.specs.View as view
use Rattle.ss_logic.specs.Occurring.{all_terms}
use Rattle.ss_terms.specs.Forms.{formula_at, formulas_at}
use Rattle.ss_rules_opened.specs.Choices.{choices_at, HasChoices}
use Rattle.ss_rules_opened.proofs.Choosing.{all_started}
use Rattle.ss_rules_opened.proofs.starting.start.Goals as goal

pub open_all-requires-clause-choices : goal.open_all-requires-clause-choices
open_all-requires-clause-choices c = subst (HasChoices c.args.bank.now) (sym c.new-choices.ensures.items) tt

pub returns-clause-opened : goal.returns-clause-opened
returns-clause-opened c =
    let b = c.args.bank.now in
    let state = c.in_ok-state.ensures in
    sym
    (all_started (view.classes c.args.classes.now) (formulas_at b c.args.premises.now) (formula_at b c.args.goal) _ _ _ _ _ (state.used ∙ ap all_terms (sym state.list)) (state.list ∙ c.in_ok-list.ensures.are) (ap (choices_at b) c.new-choices.ensures.items) c.in_ok-open_all.ensures.noted).1.opened

pub returns-clause-accepted : goal.returns-clause-accepted
returns-clause-accepted c =
    let b = c.args.bank.now in
    let state = c.in_ok-state.ensures in
    (all_started (view.classes c.args.classes.now) (formulas_at b c.args.premises.now) (formula_at b c.args.goal) _ _ _ _ _ (state.used ∙ ap all_terms (sym state.list)) (state.list ∙ c.in_ok-list.ensures.are) (ap (choices_at b) c.new-choices.ensures.items) c.in_ok-open_all.ensures.noted).1.accepted
