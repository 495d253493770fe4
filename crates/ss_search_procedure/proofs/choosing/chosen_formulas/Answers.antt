use Rattle.std.proofs.Common.{refl, sym, ◌∙◌, ap, map, subst}
use Rattle.std.proofs.lemmas.List.{take_all}
use Rattle.std.proofs.lemmas.Option.{slice_get_read}
use Rattle.ss_core.specs.View as view
use Rattle.ss_logic_means.specs.Origins.{chosen_by}
use Rattle.ss_terms.specs.Forms.{terms_at, formula_at, formulas_at, HasFormulas, HasTerms}
use Rattle.ss_terms.proofs.Grown.{IsGrown-refl, IsGrown-then, IsBankOf-grown, HasFormula-grown, HasTerms-grown, HasFormulas-grown}
use Rattle.ss_terms_puts.proofs.Putting.{AreBelow-push}
use Rattle.ss_rules_opened.specs.Choices.{choice_of, choices_at}
use Rattle.ss_rules_opened.proofs.Choosing.{HasChoices-grown, choices_at-grown}
use Rattle.ss_search_path.specs.Standing.{body_of}
use Rattle.ss_search_procedure.proofs.Saying.{choice_at-grown, has_choice, said_more}
use Rattle.ss_search_procedure.proofs.choosing.chosen_formulas.Goals as goal

pub returns-clause-has : goal.returns-clause-has
returns-clause-has c = HasChoices-grown c.args.bank.now c.loop-choice.bank c.loop-choice.invariant.grown c.args.choices.now c.requires.choices

pub returns-clause-formulas : goal.returns-clause-formulas
returns-clause-formulas c =
    c.loop-choice.invariant.formulas ∙ ap (λ cs. map chosen_by (choices_at c.args.bank.now cs)) (take_all c.loop-choice.choice-index c.args.choices.now c.loop-choice-test.false)
    ∙ ap (map chosen_by) (sym (choices_at-grown c.args.bank.now c.loop-choice.bank c.loop-choice.invariant.grown c.args.choices.now c.requires.choices))

pub returns-clause-bodies : goal.returns-clause-bodies
returns-clause-bodies c =
    c.loop-choice.invariant.bodies ∙ ap (λ cs. map body_of (choices_at c.args.bank.now cs)) (take_all c.loop-choice.choice-index c.args.choices.now c.loop-choice-test.false)
    ∙ ap (map body_of) (sym (choices_at-grown c.args.bank.now c.loop-choice.bank c.loop-choice.invariant.grown c.args.choices.now c.requires.choices))

pub loop-choice-init : goal.loop-choice-init
loop-choice-init c = record { grown = IsGrown-refl c.args.bank.now; has_formulas = subst (HasFormulas c.args.bank.now) (sym c.new-formulas.ensures.items) tt; formulas = ap (formulas_at c.args.bank.now) c.new-formulas.ensures.items; has_bodies = subst (HasFormulas c.args.bank.now) (sym c.new-bodies.ensures.items) tt; bodies = ap (formulas_at c.args.bank.now) c.new-bodies.ensures.items }

pub say-requires-clause-bank : goal.say-requires-clause-bank
say-requires-clause-bank c = IsBankOf-grown (view.classes c.args.classes.now) c.args.bank.now c.loop-choice.bank c.loop-choice.invariant.grown c.requires.bank

pub say-requires-clause-whole : goal.say-requires-clause-whole
say-requires-clause-whole c =
    let a = c.args.bank.now in
    let cs = c.args.choices.now in
    let at = slice_get_read cs _ c.loop-choice.choice-index c.choice-item.result refl c.loop-choice-test.true c.choice-item.is in
    HasFormula-grown a c.loop-choice.bank c.loop-choice.invariant.grown c.choice-item.result.whole (has_choice a cs c.loop-choice.choice-index c.choice-item.result at c.requires.choices).0

pub say-requires-clause-constants : goal.say-requires-clause-constants
say-requires-clause-constants c =
    let a = c.args.bank.now in
    let cs = c.args.choices.now in
    let at = slice_get_read cs _ c.loop-choice.choice-index c.choice-item.result refl c.loop-choice-test.true c.choice-item.is in
    subst (HasTerms c.loop-choice.bank) (sym c.deref.ensures.value)
    (HasTerms-grown a c.loop-choice.bank c.loop-choice.invariant.grown c.choice-item.result.constants.items (has_choice a cs c.loop-choice.choice-index c.choice-item.result at c.requires.choices).1)

pub loop-choice-preserved : goal.loop-choice-preserved
loop-choice-preserved c =
    let a = c.args.bank.now in
    let m = c.loop-choice.bank in
    let b = c.say.new.bank in
    let cs = c.args.choices.now in
    let i = c.loop-choice.choice-index in
    let x = c.choice-item.result in
    let at = slice_get_read cs _ i x refl c.loop-choice-test.true c.choice-item.is in
    let has = has_choice a cs i x at c.requires.choices in
    let said = c.in_ok-said.ensures.said in
    let same = choice_at-grown a m c.loop-choice.invariant.grown x has.0 has.1 in
    let constants = ap (λ ts. choice_of (formula_at m x.whole) (terms_at m ts)) c.deref.ensures.value in
    record {
      grown = IsGrown-then a m b c.loop-choice.invariant.grown c.say.ensures.grown;
      has_formulas = subst (HasFormulas b) (sym c.in_ok-push.ensures.items) (AreBelow-push _ c.loop-choice.formulas.items c.in_ok-said.said.formula (HasFormulas-grown m b c.say.ensures.grown c.loop-choice.formulas.items c.loop-choice.invariant.has_formulas) said.has_formula);
      formulas = said_more a m b c.say.ensures.grown cs i x at chosen_by c.loop-choice.formulas.items _ c.in_ok-said.said.formula c.loop-choice.invariant.has_formulas c.loop-choice.invariant.formulas c.in_ok-push.ensures.items (said.formula ∙ ap chosen_by constants) same;
      has_bodies = subst (HasFormulas b) (sym c.in_ok-push-2.ensures.items) (AreBelow-push _ c.loop-choice.bodies.items c.in_ok-said.said.body (HasFormulas-grown m b c.say.ensures.grown c.loop-choice.bodies.items c.loop-choice.invariant.has_bodies) said.has_body);
      bodies = said_more a m b c.say.ensures.grown cs i x at body_of c.loop-choice.bodies.items _ c.in_ok-said.said.body c.loop-choice.invariant.has_bodies c.loop-choice.invariant.bodies c.in_ok-push-2.ensures.items (said.body ∙ ap body_of constants) same;
    }
