use Rattle.std.proofs.Common.{[], ◌∷◌, ap, ◌∙◌}
use Rattle.ss_core.specs.View.{default_tree}
use Rattle.ss_logic.specs.Express as spec
use Rattle.ss_logic.specs.Shapes.{null_term, equal}
use Rattle.ss_logic.specs.Formulas.{Formula}
use Rattle.ss_terms.specs.Forms.{term_at, formula_at}
use Rattle.ss_terms.proofs.Grown.{IsGrown-then, HasTerm-grown}
use Rattle.ss_vcgen_express.specs.Contexts.{context_at}
use Rattle.ss_vcgen_express.proofs.Grown.{formula_so}
use Rattle.ss_vcgen_express.proofs.Contexts.{HasContext-grown}
use Rattle.ss_vcgen_defaults.proofs.defaults.default_said.Goals as goal

pub met_by-requires : goal.met_by-requires
met_by-requires c = record {
  context = HasContext-grown c.in_ok-x.ensures.grown c.args.context.now c.requires;
  object = c.in_ok-x.ensures.at.has;
}

pub unless_null-requires : goal.unless_null-requires
unless_null-requires c = record {
  object = HasTerm-grown c.local_term.new.bank c.met_by.new.bank c.in_ok-f.ensures.grown c.in_ok-x.x c.in_ok-x.ensures.at.has;
  formula = c.in_ok-f.ensures.at.has;
}

pub returns-clause-at : goal.returns-clause-at
returns-clause-at c =
    let e = c.args.context.now in
    let d = default_tree c.args.condition in
    formula_so c.unless_null.result c.unless_null.new.bank (λ b. spec.or_of (equal (term_at b c.in_ok-x.x) null_term ∷ formula_at b c.in_ok-f.f ∷ [])) (λ b. spec.default_said (context_at b e) d)
    (λ b k.
    let kf = IsGrown-then c.met_by.new.bank c.unless_null.new.bank b c.unless_null.ensures.grown k in
    let kx = IsGrown-then c.local_term.new.bank c.met_by.new.bank b c.in_ok-f.ensures.grown kf in
    ap (λ (g : Formula). spec.or_of (equal (term_at b c.in_ok-x.x) null_term ∷ g ∷ [])) (c.in_ok-f.ensures.at.is b kf)
    ∙ ap (λ (m : spec.Meant). spec.over m (λ y. spec.or_of (equal y null_term ∷ spec.met_by (context_at b e) d y ∷ []))) (c.in_ok-x.ensures.at.is b kx ∙ ap (spec.local_meant (context_at b e)) c.subject.ensures))
    c.unless_null.ensures.at
