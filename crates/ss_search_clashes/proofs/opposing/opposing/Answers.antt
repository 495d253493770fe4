use Rattle.std.proofs.Common.{◌≡◌, ◌∷◌, ◌++◌, [], sym, ◌∙◌, ap}
use Rattle.std.proofs.lemmas.Result.{IfOk-weaker}
use Rattle.ss_logic.specs.Equal.{same_formula, equal_formulas}
use Rattle.ss_terms.specs.Forms.{formula_at}
use Rattle.ss_deriv.specs.declared.line.Line.TheVariants.{Clash}
use Rattle.ss_search_clashes.specs.Numbered.{class_of}
use Rattle.ss_search_clashes.specs.Cases.{IsAt, CloseCase}
use Rattle.ss_search_clashes.proofs.Saying.{either_way, one_basic, not_negations}
use Rattle.ss_search_clashes.proofs.Swapping.{is_swap}
use Rattle.ss_search_clashes.proofs.ClashingEnding.{negations_close, swapped_close}
use Rattle.ss_search_clashes.proofs.opposing.opposing.Goals as goal

pub returns-then-is_same_formula : goal.returns-then-is_same_formula
returns-then-is_same_formula c =
    let b = c.args.context.now.bank.now in
    let f = formula_at b c.args.left.formula in
    let g = formula_at b c.args.right.formula in
    let d = c.requires.opposed in
    IfOk-weaker c.end_at_once.result (λ v. v.items ≡ Clash c.args.left.place c.args.right.place ∷ []) (λ v. CloseCase b c.args.context.now.congruence.now.merges c.args.context.now.count (λ cs fs. IsAt cs b fs c.args.left × IsAt cs b fs c.args.right) v.items)
    (λ v e. negations_close b c.args.context.now.congruence.now.merges c.args.context.now.count c.args.left c.args.right (one_basic (class_of b d.classes) f g (either_way (class_of b d.classes) f g d.holds))
    (equal_formulas f (formula_at b c.negation-denied.result) (sym c.is_same_formula.ensures ∙ c.if-is_same_formula.true) ∙ c.negation-denied.ensures.negation)
    v.items e)
    c.end_at_once.ensures

pub swap-requires-clause-equal : goal.swap-requires-clause-equal
swap-requires-clause-equal c =
    let b = c.args.context.now.bank.now in
    let f = formula_at b c.args.left.formula in
    let g = formula_at b c.args.right.formula in
    let d = c.requires.opposed in
    (is_swap b c.numbers_are_apart.ensures c.args.context.now.congruence.now c.requires.forms d.classes d.are f g c.arguments-xs.result.now c.arguments-ys.result.now c.arguments-xs.ensures.there c.arguments-ys.ensures.there c.arguments-xs.ensures.arguments c.arguments-ys.ensures.arguments
    (not_negations (class_of b d.classes) f g (either_way (class_of b d.classes) f g d.holds) (ap (same_formula f) (sym c.negation-denied.ensures.negation) ∙ sym c.is_same_formula.ensures ∙ c.if-is_same_formula.false))).equal

pub returns : goal.returns
returns c =
    let b = c.args.context.now.bank.now in
    let f = formula_at b c.args.left.formula in
    let g = formula_at b c.args.right.formula in
    let d = c.requires.opposed in
    let s = is_swap b c.numbers_are_apart.ensures c.args.context.now.congruence.now c.requires.forms d.classes d.are f g c.arguments-xs.result.now c.arguments-ys.result.now c.arguments-xs.ensures.there c.arguments-ys.ensures.there c.arguments-xs.ensures.arguments c.arguments-ys.ensures.arguments
    (not_negations (class_of b d.classes) f g (either_way (class_of b d.classes) f g d.holds) (ap (same_formula f) (sym c.negation-denied.ensures.negation) ∙ sym c.is_same_formula.ensures ∙ c.if-is_same_formula.false)) in
    IfOk-weaker c.end.result (λ v. v.items ≡ c.in_ok-shown.shown.lines.items ++ Clash c.in_ok-shown.shown.place c.args.right.place ∷ []) (λ v. CloseCase b c.args.context.now.congruence.now.merges c.args.context.now.count (λ cs fs. IsAt cs b fs c.args.left × IsAt cs b fs c.args.right) v.items)
    (λ v e. swapped_close b c.args.context.now.congruence.now.merges c.args.context.now.count c.args.left c.args.right s.sign s.predicate c.arguments-xs.result.now c.arguments-ys.result.now c.negation-denied.result
    s.left (c.negation-denied.ensures.negation ∙ s.right) c.negation-denied.ensures.negation
    c.in_ok-shown.shown.lines.items c.in_ok-shown.shown.place c.in_ok-shown.ensures v.items e)
    c.end.ensures
