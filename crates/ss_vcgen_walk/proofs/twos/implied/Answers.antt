use Rattle.std.proofs.Common.{[], ◌∷◌, ◌∙◌, ap}
use Rattle.ss_logic.specs.Formulas.{neg}
use Rattle.ss_logic.specs.Express as spec
use Rattle.ss_terms.specs.Forms.{formula_at}
use Rattle.ss_terms.proofs.Grown.{IsGrown-then}
use Rattle.ss_vcgen_express.specs.Numbers.{meant_at}
use Rattle.ss_vcgen_express.proofs.Grown.{HasMeant-grown}
use Rattle.ss_vcgen_walk.proofs.twos.implied.Goals as goal

pub said-requires-2 : goal.said-requires-2
said-requires-2 c = HasMeant-grown c.said.ensures.grown c.args.y.now c.requires.second

pub returns-clause-at : goal.returns-clause-at
returns-clause-at c = record {
  has = c.in_ok-h.ensures.at.has;
  is = λ b k.
      let k2 = IsGrown-then c.said-2.new.bank c.implies.new.bank b c.implies.ensures.grown k in
      let k1 = IsGrown-then c.said.new.bank c.said-2.new.bank b c.said-2.ensures.grown k2 in
      ap spec.Says (c.in_ok-h.ensures.at.is b k
      ∙ ap (λ f. spec.or_of (neg f ∷ formula_at b c.in_ok-g.g ∷ [])) (c.in_ok-f.ensures.at.is b k1)
      ∙ ap (λ g. spec.or_of (neg (spec.said (meant_at b c.args.x.now)) ∷ g ∷ [])) (c.in_ok-g.ensures.at.is b k2));
}
