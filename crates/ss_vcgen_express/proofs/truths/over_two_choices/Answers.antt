use Rattle.std.proofs.Common.{◌∷◌, [], map, ap, ◌∙◌}
use Rattle.ss_logic.specs.Express as spec
use Rattle.ss_terms.specs.Forms.{Forms, term_at, formulas_at}
use Rattle.ss_terms.proofs.Grown.{IsGrown-then}
use Rattle.ss_vcgen_express.specs.Numbers.{meant_at, choice_at}
use Rattle.ss_vcgen_express.specs.Sayings.{related}
use Rattle.ss_vcgen_express.proofs.Grown.{HasMeant-grown, HasRelation-grown, formula_so}
use Rattle.ss_vcgen_express.proofs.truths.over_two_choices.Goals as goal

pub each_chosen_two-requires-clause-second : goal.each_chosen_two-requires-clause-second
each_chosen_two-requires-clause-second c = HasMeant-grown c.in_ok-list.ensures.grown c.args.y.now c.requires.second

pub each_chosen_two-requires-clause-relation : goal.each_chosen_two-requires-clause-relation
each_chosen_two-requires-clause-relation c = HasRelation-grown c.in_ok-list.ensures.grown c.args.relation c.requires.relation

pub returns-clause-at : goal.returns-clause-at
returns-clause-at c =
    let d = c.any.new.bank in
    let one = λ (b : Forms) (x : spec.Choice). spec.and_of (x.condition ∷ spec.over (meant_at b c.args.y.now) (related (term_at b) c.args.relation x.value) ∷ []) in
    formula_so c.any.result d (λ b. spec.or_of (formulas_at b c.deref-2.result.now)) (λ b. spec.or_of (map (one b) (spec.choices (meant_at b c.args.x.now))))
    (λ b k.
    let k2 = IsGrown-then c.each_chosen_two.new.bank d b c.any.ensures.grown k in
    let k1 = IsGrown-then c.choices.new.bank c.each_chosen_two.new.bank b c.in_ok-made.ensures.grown k2 in
    ap (λ fs. spec.or_of (formulas_at b fs)) c.deref-2.ensures.value
    ∙ ap (λ fs. spec.or_of fs) (c.in_ok-made.ensures.at.are b k2
    ∙ ap (λ cs. map (one b) (map (choice_at b) cs)) c.deref.ensures.value
    ∙ ap (map (one b)) (c.in_ok-list.ensures.at.are b k1)))
    c.any.ensures.at
