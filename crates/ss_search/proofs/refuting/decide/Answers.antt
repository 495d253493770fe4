use Rattle.std.proofs.Common.{refl, subst}
use Rattle.ss_core.specs.View.{classes}
use Rattle.ss_logic_means.specs.Steps.{Derives}
use Rattle.ss_logic_countermodels.specs.Refuting.{IsCountermodel}
use Rattle.ss_terms.specs.Forms.{formula_at, formulas_at}
use Rattle.ss_deriv.specs.Lines.{lines_of}
use Rattle.ss_search_procedure.specs.Answers.{IfCountered, IfClosed}
use Rattle.ss_search_procedure.specs.declared.settling.Settled.{Settled}
use Rattle.ss_search.proofs.refuting.decide.Goals as goal

pub told-requires : goal.told-requires
told-requires c = rw c.deref.ensures.value c.requires.grounded.has_formulas

pub returns-in-Ok-Closed-clause-proved : goal.returns-in-Ok-Closed-clause-proved
returns-in-Ok-Closed-clause-proved c =
    let cs = classes c.args.classes.now in
    let premises = formulas_at c.args.bank.now c.args.obligation.now.premises.now in
    let wanted = formula_at c.args.bank.now c.args.obligation.now.goal in
    subst (λ (s : Settled). IfClosed (λ d. Derives cs premises wanted (lines_of c.settle_by.new.bank d)) s) c.in-Ok-Closed.field-0-is (c.in-Ok-Closed.ensures.closed cs c.requires.bank c.requires.grounded)

pub returns-in-Ok-Countered-clause-countered : goal.returns-in-Ok-Countered-clause-countered
returns-in-Ok-Countered-clause-countered c =
    let cs = classes c.args.classes.now in
    let fs = formulas_at c.args.bank.now c.args.grounded.now.formulas.items in
    subst (λ (s : Settled). IfCountered (IsCountermodel cs fs) s) c.in-Ok-Countered.field-0-is (c.in-Ok-Countered.ensures.countered cs c.requires.bank)

pub returns-in-Ok-Spent-clause-spent : goal.returns-in-Ok-Spent-clause-spent
returns-in-Ok-Spent-clause-spent c = (refl, c.in-Ok-Spent.ensures.spent (classes c.args.classes.now) c.requires.bank c.in-Ok-Spent.field-0-is)
