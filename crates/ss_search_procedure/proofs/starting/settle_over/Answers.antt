use Rattle.std.proofs.Common.{◌≡◌, List, map, sym, ◌∙◌, ap, subst}
use Rattle.std.specs.Prelude.{IfOk}
use Rattle.ss_logic.specs.Formulas.{Formula}
use Rattle.ss_logic_countermodels.specs.Refuting.{IsCountermodel}
use Rattle.ss_logic_means.specs.Origins.{chosen_by}
use Rattle.ss_terms.specs.Forms.{formula_at, formulas_at}
use Rattle.ss_rules_opened.specs.declared.opening.Choice.{Choice}
use Rattle.ss_rules_opened.specs.Choices.{choices_at}
use Rattle.ss_search_procedure_rules.specs.Closed.{AreEnough}
use Rattle.ss_search_path.specs.Standing.{body_of}
use Rattle.ss_search_procedure.specs.declared.settling.Settled.{Settled}
use Rattle.ss_search_procedure.specs.declared.settling.Settled.TheVariants as settled
use Rattle.ss_search_procedure.specs.Answers.{IfCountered}
use Rattle.ss_search_procedure.proofs.GroundBegun.{is_setting, is_given, ground_here}
use Rattle.ss_search_procedure.proofs.starting.settle_over.Goals as goal

pub settle-requires-clause-setting : goal.settle-requires-clause-setting
settle-requires-clause-setting c =
    let b = c.args.bank.now in
    let w = c.args.unsettled.now.grounded.now in
    let h = c.requires.grounded in
    is_setting _ w c.deref-4.ensures.value h.2.has_formulas
    (is_given _ c.deref-4.result.now w c.deref-4.ensures.value c.deref.ensures.value c.deref-3.ensures.value h.0 (formulas_at b c.args.obligation.now.premises.now) (formula_at b c.args.obligation.now.goal) h.2 (ap (formulas_at b) c.deref-2.ensures.value ∙ c.requires.bodies)) c.requires.in_bank c.requires.decisions

pub settle-requires-clause-chosen : goal.settle-requires-clause-chosen
settle-requires-clause-chosen c =
    let b = c.args.bank.now in
    ap (formulas_at b) c.deref-5.ensures.value ∙ c.requires.formulas ∙ ap (λ (xs : List Choice). map chosen_by (choices_at b xs)) (sym c.deref.ensures.value)

pub settle-requires-clause-grounded : goal.settle-requires-clause-grounded
settle-requires-clause-grounded c =
    let b = c.args.bank.now in
    let h = c.requires.grounded in
    (h.0, h.1, ground_here _ c.deref-4.result.now c.args.unsettled.now.grounded.now c.deref-4.ensures.value c.deref.ensures.value c.deref-3.ensures.value h.0 (formulas_at b c.args.obligation.now.premises.now) (formula_at b c.args.obligation.now.goal) h.2)

pub returns-clause-closed : goal.returns-clause-closed
returns-clause-closed c = λ cs of h.
    let b = c.args.bank.now in
    c.settle.ensures.closed cs of (ground_here _ c.deref-4.result.now c.args.unsettled.now.grounded.now c.deref-4.ensures.value c.deref.ensures.value c.deref-3.ensures.value cs (formulas_at b c.args.obligation.now.premises.now) (formula_at b c.args.obligation.now.goal) h)

pub returns-clause-countered : goal.returns-clause-countered
returns-clause-countered c = λ cs of.
    subst (λ (fs : List Formula). IfOk c.settle.result (IfCountered (IsCountermodel cs fs))) (ap (formulas_at c.args.bank.now) c.deref-4.ensures.value) (c.settle.ensures.countered cs of)

pub returns-clause-spent : goal.returns-clause-spent
returns-clause-spent c = λ cs of.
    subst (λ (fs : List Formula). IfOk c.settle.result (λ (x : Settled). x ≡ settled.Spent → AreEnough cs fs c.args.splits → ⊥)) (ap (formulas_at c.args.bank.now) c.deref-4.ensures.value) (c.settle.ensures.spent cs of)
