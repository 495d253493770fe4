use Rattle.std.proofs.Common.{[], ◌∷◌, ap}
use Rattle.ss_logic.specs.Express as spec
use Rattle.ss_logic.specs.Formulas.{Formula}
use Rattle.ss_terms.specs.Forms.{term_at, formula_at}
use Rattle.ss_terms.proofs.Grown.{IsGrown-then, HasFormula-grown}
use Rattle.ss_vcgen_defaults.specs.Defaults.{no_peer}
use Rattle.ss_vcgen_express.specs.Contexts.{context_at}
use Rattle.ss_vcgen_express.proofs.Grown.{formula_so}
use Rattle.ss_vcgen_defaults.proofs.defaults.and_apart.Goals as goal

pub all-requires : goal.all-requires
all-requires c =
    let g = c.in_ok-h.ensures.grown in
    (HasFormula-grown c.args.bank.now c.this_apart.new.bank g c.args.f c.requires.first, (HasFormula-grown c.args.bank.now c.this_apart.new.bank g c.args.g c.requires.second, (c.in_ok-h.ensures.at.has, tt)))

pub returns-clause-at : goal.returns-clause-at
returns-clause-at c =
    let e = c.args.context.now in
    formula_so c.all.result c.all.new.bank (λ b. spec.and_of (formula_at b c.args.f ∷ formula_at b c.args.g ∷ formula_at b c.in_ok-h.h ∷ []))
    (λ b. spec.and_of (formula_at b c.args.f ∷ formula_at b c.args.g ∷ spec.over (spec.local_meant (context_at b e) 0) (λ y. no_peer (term_at b e.now) y (term_at b c.args.x)) ∷ []))
    (λ b k. ap (λ (m : Formula). spec.and_of (formula_at b c.args.f ∷ formula_at b c.args.g ∷ m ∷ [])) (c.in_ok-h.ensures.at.is b (IsGrown-then c.this_apart.new.bank c.all.new.bank b c.all.ensures.grown k)))
    c.all.ensures.at
