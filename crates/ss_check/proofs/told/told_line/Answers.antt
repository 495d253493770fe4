use Rattle.std.proofs.Common.{refl}
use Rattle.ss_core.specs.View as view
use Rattle.ss_logic_means.specs.Steps.{Inst as TreeInst, Part as TreePart, Choose as TreeChoose}
use Rattle.ss_terms.specs.Forms.{terms_at, formula_at, formulas_at}
use Rattle.ss_check.proofs.Meant.{facts_same, adds_any}
use Rattle.ss_check.proofs.told.told_line.Goals as goal

pub returns-in-Inst-clause-adds : goal.returns-in-Inst-clause-adds
returns-in-Inst-clause-adds c =
    rw c.in-Inst.is
    (adds_any c.told_instance.result (view.classes c.args.context.now.classes.now) (formulas_at c.args.bank.now c.args.context.now.premises.now) (formula_at c.args.bank.now c.args.context.now.goal) (TreeInst c.in-Inst.of (terms_at c.args.bank.now c.in-Inst.terms.items)) (λ known waiting. refl))

pub returns-in-Part-clause-adds : goal.returns-in-Part-clause-adds
returns-in-Part-clause-adds c =
    rw c.in-Part.is
    (adds_any c.told_part.result (view.classes c.args.context.now.classes.now) (formulas_at c.args.bank.now c.args.context.now.premises.now) (formula_at c.args.bank.now c.args.context.now.goal) (TreePart c.in-Part.of c.in-Part.part) (λ known waiting. refl))

pub returns-in-Choose-clause-adds : goal.returns-in-Choose-clause-adds
returns-in-Choose-clause-adds c =
    rw c.in-Choose.is
    (adds_any c.told_choice.result (view.classes c.args.context.now.classes.now) (formulas_at c.args.bank.now c.args.context.now.premises.now) (formula_at c.args.bank.now c.args.context.now.goal) (TreeChoose (formula_at c.args.bank.now c.in-Choose.formula) (terms_at c.args.bank.now c.in-Choose.constants.items)) (λ known waiting. refl))

pub returns-in_default-clause-at : goal.returns-in_default-clause-at
returns-in_default-clause-at c =
    facts_same (view.classes c.args.context.now.classes.now) c.args.bank.now (formulas_at c.args.bank.now c.args.context.now.premises.now) (formula_at c.args.bank.now c.args.context.now.goal) (formulas_at c.args.bank.now c.args.known.now) c.args.line.now c.in_default.not-Part c.in_default.not-Choose

pub returns-in_default-clause-adds : goal.returns-in_default-clause-adds
returns-in_default-clause-adds c = λ e. let no : ⊥ = cc in absurd no
