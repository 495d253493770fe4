use Rattle.std.proofs.Common.{◌∷◌, [], map, ap, ◌∙◌}
use Rattle.ss_logic.specs.Express as spec
use Rattle.ss_terms.specs.Forms.{Forms, term_at, formulas_at}
use Rattle.ss_terms.proofs.Grown.{IsGrown-then}
use Rattle.ss_vcgen_express.specs.Numbers.{meant_at, choice_at}
use Rattle.ss_vcgen_express.specs.Sayings.{said_so}
use Rattle.ss_vcgen_express.proofs.Grown.{formula_so}
use Rattle.ss_vcgen_express.proofs.truths.over_choices.Goals as goal

pub returns-clause-at : goal.returns-clause-at
returns-clause-at c =
    let d = c.any.new.bank in
    let one = λ (b : Forms) (x : spec.Choice). spec.and_of (x.condition ∷ said_so (term_at b) c.args.saying x.value ∷ []) in
    formula_so c.any.result d (λ b. spec.or_of (formulas_at b c.deref-2.result.now)) (λ b. spec.or_of (map (one b) (spec.choices (meant_at b c.args.m.now))))
    (λ b k.
    let k2 = IsGrown-then c.each_chosen.new.bank d b c.any.ensures.grown k in
    let k1 = IsGrown-then c.choices.new.bank c.each_chosen.new.bank b c.in_ok-made.ensures.grown k2 in
    ap (λ fs. spec.or_of (formulas_at b fs)) c.deref-2.ensures.value
    ∙ ap (λ fs. spec.or_of fs) (c.in_ok-made.ensures.at.are b k2
    ∙ ap (λ cs. map (one b) (map (choice_at b) cs)) c.deref.ensures.value
    ∙ ap (map (one b)) (c.in_ok-list.ensures.at.are b k1)))
    c.any.ensures.at
