use Rattle.std.proofs.Common.{ap}
use Rattle.ss_logic.specs.Express as spec
use Rattle.ss_terms.specs.Forms.{formula_at, formulas_at}
use Rattle.ss_terms.proofs.Grown.{IsGrown-then}
use Rattle.ss_vcgen_express.proofs.Grown.{choices_so}
use Rattle.ss_vcgen_express.proofs.meant.any_choices.Goals as goal

pub returns-clause-at : goal.returns-clause-at
returns-clause-at c =
    let d = c.two_choices.new.bank in
    choices_so c.two_choices.result d (λ b. spec.choices (spec.Says (formula_at b c.in_ok-f.f))) (λ b. spec.choices (spec.Says (spec.or_of (formulas_at b c.args.fs.now))))
    (λ b k. ap (λ f. spec.choices (spec.Says f)) (c.in_ok-f.ensures.at.is b (IsGrown-then c.any.new.bank d b c.two_choices.ensures.grown k)))
    c.two_choices.ensures.at
