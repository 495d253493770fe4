use Rattle.std.proofs.Common.{◌≡◌, ◌∙◌, ap, subst, map}
use Rattle.std.specs.Prelude.{IfOk}
use Rattle.ss_logic.specs.Formulas.{Or, formulas_from}
use Rattle.ss_terms.specs.Forms.{HasFormula, formula_at, formulas_at}
use Rattle.ss_rules_basic.specs.Facts.{denied_at}
use Rattle.ss_rules_basic.proofs.Made.{made_there, sentence_made, some_length}
use Rattle.ss_rules_basic.proofs.sentences.Sentence.make.Goals as goal

pub formula-requires : goal.formula-requires
formula-requires c = made_there c.negations.new.b c.make-2.new.b c.in_ok-parts.parts.items _ c.in_ok-conclusion.conclusion c.make-2.ensures.grown c.in_ok-parts.ensures.there c.in_ok-conclusion.ensures.at.0 c.in_ok-push.ensures.items

pub returns-clause-at : goal.returns-clause-at
returns-clause-at c =
    let s = c.args.self.now in
    let made = c.in_ok-parts.ensures.at ∙ ap (map (denied_at c.args.b.now)) c.deref.ensures.value in
    let some = some_length _ s.premises.items c.deref.result.now c.if-is_empty.ensures c.deref.ensures.len c.deref.ensures.value in
    subst (λ x. IfOk c.formula.result (λ f. HasFormula c.formula.new.self f × (formula_at c.formula.new.self f ≡ x)))
    (ap (λ fs. Or (formulas_from (formulas_at c.make-2.new.b fs))) c.in_ok-push.ensures.items
    ∙ sentence_made c.args.b.now c.negations.new.b c.make-2.new.b s c.in_ok-parts.parts.items c.in_ok-conclusion.conclusion
    c.in_ok-parts.ensures.grown c.make-2.ensures.grown c.requires c.in_ok-parts.ensures.there some made c.in_ok-conclusion.ensures.at.1)
    c.formula.ensures.at
