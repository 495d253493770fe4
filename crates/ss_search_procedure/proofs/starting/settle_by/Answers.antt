use Rattle.std.proofs.Common.{◌≡◌, List, map, sym, ◌∙◌, ap, subst}
use Rattle.std.specs.Prelude.{IfOk}
use Rattle.std.proofs.lemmas.Result.{IfOk-weaker}
use Rattle.ss_core.specs.View as view
use Rattle.ss_logic.specs.Formulas.{Formula}
use Rattle.ss_logic_means.specs.Steps.{Derives}
use Rattle.ss_logic_countermodels.specs.Refuting.{IsCountermodel, told}
use Rattle.ss_logic_means.specs.Origins.{chosen_by}
use Rattle.ss_terms.specs.Forms.{formula_at, formulas_at}
use Rattle.ss_terms.proofs.Grown.{IsBankOf-grown, HasFormula-grown, HasFormulas-grown, formulas_at-grown}
use Rattle.ss_deriv.specs.Lines.{lines_of}
use Rattle.ss_rules_opened.specs.declared.opening.Choice.{Choice}
use Rattle.ss_rules_opened.specs.Choices.{choices_at, HasChoices}
use Rattle.ss_search_procedure_rules.specs.Closed.{AreEnough}
use Rattle.ss_search_path.specs.Standing.{body_of}
use Rattle.ss_search_procedure.specs.declared.settling.Settled.{Settled}
use Rattle.ss_search_procedure.specs.declared.settling.Settled.TheVariants as settled
use Rattle.ss_search_procedure.specs.Answers.{IfClosed, IfCountered}
use Rattle.ss_search_procedure.proofs.GroundBegun.{ground_later, closed_before}
use Rattle.ss_search_procedure.proofs.starting.settle_by.Goals as goal

pub chosen_formulas-requires-clause-choices : goal.chosen_formulas-requires-clause-choices
chosen_formulas-requires-clause-choices c = subst (HasChoices c.args.bank.now) (sym c.deref.ensures.value) c.requires.grounded.grounded.has_choices

pub settle_over-requires-clause-goal : goal.settle_over-requires-clause-goal
settle_over-requires-clause-goal c = HasFormula-grown c.args.bank.now c.chosen_formulas.new.bank c.chosen_formulas.ensures.grown c.args.obligation.now.goal c.requires.goal

pub settle_over-requires-clause-grounded : goal.settle_over-requires-clause-grounded
settle_over-requires-clause-grounded c =
    let a = c.args.bank.now in
    let b = c.chosen_formulas.new.bank in
    let cs = view.classes c.args.classes.now in
    let grown = c.chosen_formulas.ensures.grown in
    (cs, IsBankOf-grown cs a b grown c.requires.bank, ground_later cs a b c.args.unsettled.now.grounded.now grown c.args.obligation.now.premises.now c.args.obligation.now.goal c.requires.premises c.requires.goal c.requires.grounded)

pub settle_over-requires-clause-formulas : goal.settle_over-requires-clause-formulas
settle_over-requires-clause-formulas c = c.in_ok-said.ensures.formulas ∙ ap (λ (xs : List Choice). map chosen_by (choices_at c.chosen_formulas.new.bank xs)) c.deref.ensures.value

pub settle_over-requires-clause-bodies : goal.settle_over-requires-clause-bodies
settle_over-requires-clause-bodies c = c.in_ok-said.ensures.bodies ∙ ap (λ (xs : List Choice). map body_of (choices_at c.chosen_formulas.new.bank xs)) c.deref.ensures.value

pub settle_over-requires-clause-in_bank : goal.settle_over-requires-clause-in_bank
settle_over-requires-clause-in_bank c = HasFormulas-grown c.args.bank.now c.chosen_formulas.new.bank c.chosen_formulas.ensures.grown c.args.unsettled.now.decisions.now c.requires.in_bank

pub settle_over-requires-clause-decisions : goal.settle_over-requires-clause-decisions
settle_over-requires-clause-decisions c =
    let a = c.args.bank.now in
    let b = c.chosen_formulas.new.bank in
    let grown = c.chosen_formulas.ensures.grown in
    formulas_at-grown a b grown c.args.unsettled.now.decisions.now c.requires.in_bank ∙ c.requires.decisions ∙ ap told (sym (formulas_at-grown a b grown c.args.unsettled.now.grounded.now.formulas.items c.requires.grounded.has_formulas))

pub returns-clause-closed : goal.returns-clause-closed
returns-clause-closed c = λ cs of h.
    let a = c.args.bank.now in
    let b = c.chosen_formulas.new.bank in
    let grown = c.chosen_formulas.ensures.grown in
    let premises = c.args.obligation.now.premises.now in
    let goal = c.args.obligation.now.goal in
    IfOk-weaker c.settle_over.result (IfClosed (λ d. Derives cs (formulas_at b premises) (formula_at b goal) (lines_of b d))) (IfClosed (λ d. Derives cs (formulas_at a premises) (formula_at a goal) (lines_of b d)))
    (λ x k. closed_before cs a b grown premises goal c.requires.premises c.requires.goal x k)
    (c.settle_over.ensures.closed cs (IsBankOf-grown cs a b grown of) (ground_later cs a b c.args.unsettled.now.grounded.now grown premises goal c.requires.premises c.requires.goal h))

pub returns-clause-countered : goal.returns-clause-countered
returns-clause-countered c = λ cs of.
    let a = c.args.bank.now in
    let b = c.chosen_formulas.new.bank in
    let grown = c.chosen_formulas.ensures.grown in
    let same = formulas_at-grown a b grown c.args.unsettled.now.grounded.now.formulas.items c.requires.grounded.has_formulas in
    subst (λ (fs : List Formula). IfOk c.settle_over.result (IfCountered (IsCountermodel cs fs))) same (c.settle_over.ensures.countered cs (IsBankOf-grown cs a b grown of))

pub returns-clause-spent : goal.returns-clause-spent
returns-clause-spent c = λ cs of.
    let a = c.args.bank.now in
    let b = c.chosen_formulas.new.bank in
    let grown = c.chosen_formulas.ensures.grown in
    let same = formulas_at-grown a b grown c.args.unsettled.now.grounded.now.formulas.items c.requires.grounded.has_formulas in
    subst (λ (fs : List Formula). IfOk c.settle_over.result (λ (x : Settled). x ≡ settled.Spent → AreEnough cs fs c.args.splits → ⊥)) same (c.settle_over.ensures.spent cs (IsBankOf-grown cs a b grown of))
