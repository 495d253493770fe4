use Rattle.std.proofs.Common.{◌∷◌, ◌++◌, map, ap, sym, subst, ◌∙◌}
use Rattle.ss_core.specs.View as view
use Rattle.ss_logic_means.specs.Steps.{choice}
use Rattle.ss_terms.specs.Forms.{terms_at, formula_at, formulas_at}
use Rattle.ss_terms.proofs.Grown.{HasTerms-grown, HasFormula-grown, HasFormulas-grown, IsBankOf-grown}
use Rattle.ss_terms.specs.Numbered.{IsNumberOf}
use Rattle.ss_check.specs.Delayed.{meant}
use Rattle.ss_check.proofs.Meant.{known_formed, number_there, choice_moved}
use Rattle.ss_check.proofs.told.told_choice.Goals as goal

pub returns-then-are_formed-clause-at : goal.returns-then-are_formed-clause-at
returns-then-are_formed-clause-at c =
    let b = c.args.bank.now in
    ap (λ known. choice (formula_at b c.args.context.now.goal ∷ formulas_at b c.args.context.now.premises.now ++ known) (formula_at b c.args.f) (terms_at b c.args.ts.now))
    (known_formed (view.classes c.args.context.now.classes.now) (formulas_at b c.args.known.now) (sym c.are_formed.ensures ∙ c.if-are_formed.true))

pub choose-requires-clause-bank : goal.choose-requires-clause-bank
choose-requires-clause-bank c = IsBankOf-grown (view.classes c.args.context.now.classes.now) c.args.bank.now c.all_meant_at.new.bank c.all_meant_at.ensures.grown c.requires.bank

pub choose-requires-clause-premises : goal.choose-requires-clause-premises
choose-requires-clause-premises c = HasFormulas-grown c.args.bank.now c.all_meant_at.new.bank c.all_meant_at.ensures.grown c.args.context.now.premises.now c.requires.premises

pub choose-requires-clause-goal : goal.choose-requires-clause-goal
choose-requires-clause-goal c = HasFormula-grown c.args.bank.now c.all_meant_at.new.bank c.all_meant_at.ensures.grown c.args.context.now.goal c.requires.goal

pub choose-requires-clause-known : goal.choose-requires-clause-known
choose-requires-clause-known c = rw c.deref.ensures.value c.in_ok-all.ensures.below

pub choose-requires-clause-formula : goal.choose-requires-clause-formula
choose-requires-clause-formula c = HasFormula-grown c.args.bank.now c.all_meant_at.new.bank c.all_meant_at.ensures.grown c.args.f c.requires.formula

pub choose-requires-clause-terms : goal.choose-requires-clause-terms
choose-requires-clause-terms c = HasTerms-grown c.args.bank.now c.all_meant_at.new.bank c.all_meant_at.ensures.grown c.args.ts.now c.requires.terms

pub told_by-told-requires-clause-bank : goal.told_by-told-requires-clause-bank
told_by-told-requires-clause-bank c =
    IsBankOf-grown (view.classes c.args.context.now.classes.now) c.all_meant_at.new.bank c.choose.new.bank c.choose.ensures.grown
    (IsBankOf-grown (view.classes c.args.context.now.classes.now) c.args.bank.now c.all_meant_at.new.bank c.all_meant_at.ensures.grown c.requires.bank)

pub told_by-told-requires-clause-formula : goal.told_by-told-requires-clause-formula
told_by-told-requires-clause-formula c = number_there c.choose.new.bank c.in_ok-made.made _ c.in_ok-made.ensures.fact

pub returns-clause-at : goal.returns-clause-at
returns-clause-at c =
    let b = c.args.bank.now in
    let used = formula_at b c.args.context.now.goal ∷ formulas_at b c.args.context.now.premises.now in
    let stands = map (meant (view.classes c.args.context.now.classes.now)) (formulas_at b c.args.known.now) in
    let made = rw c.deref.ensures.value at c.in_ok-made.ensures.fact in
    c.told_by-told.ensures (choice (used ++ stands) (formula_at b c.args.f) (terms_at b c.args.ts.now)) (choice (used ++ formulas_at b c.args.known.now) (formula_at b c.args.f) (terms_at b c.args.ts.now))
    (subst (IsNumberOf c.choose.new.bank c.in_ok-made.made)
    (choice_moved b c.all_meant_at.new.bank c.all_meant_at.ensures.grown c.args.context.now.premises.now c.requires.premises c.args.context.now.goal c.requires.goal c.args.f c.requires.formula c.args.ts.now c.requires.terms c.in_ok-all.all.items stands c.in_ok-all.ensures.at)
    made)
