use Rattle.std.proofs.Common.{[], ◌∷◌, ap, ◌∙◌}
use Rattle.ss_core.specs.View.{classes}
use Rattle.ss_logic.specs.Express as spec
use Rattle.ss_logic.specs.Shapes.{allocated}
use Rattle.ss_logic.specs.declared.Sort.TheVariants as sort
use Rattle.ss_logic.specs.Terms.{Term}
use Rattle.ss_logic.specs.Formulas.{Formula, Forall, neg}
use Rattle.ss_terms.specs.Forms.{term_at, formula_at}
use Rattle.ss_terms.proofs.Grown.{IsGrown-then, HasTerm-grown}
use Rattle.ss_vcgen_defaults.specs.Defaults.{owned_is_full}
use Rattle.ss_vcgen_express.specs.Contexts.{context_at}
use Rattle.ss_vcgen_express.proofs.Grown.{formula_so}
use Rattle.ss_vcgen_express.proofs.Contexts.{HasContext-grown}
use Rattle.ss_vcgen_defaults.proofs.defaults.owned_full.Goals as goal

pub owned_is_full-requires : goal.owned_is_full-requires
owned_is_full-requires c = record {
  context = HasContext-grown c.in_ok-v.ensures.grown c.args.context.now c.requires.context;
  object = c.in_ok-v.ensures.at.has;
  owner = HasTerm-grown c.args.bank.now c.bound_name.new.bank c.in_ok-v.ensures.grown c.args.x c.requires.object;
}

pub of_each-requires : goal.of_each-requires
of_each-requires c =
    let g = IsGrown-then c.args.bank.now c.bound_name.new.bank c.owned_is_full.new.bank c.in_ok-v.ensures.grown c.in_ok-f.ensures.grown in
    record {
      store = HasTerm-grown c.args.bank.now c.owned_is_full.new.bank g c.args.context.now.now c.requires.context.now;
      object = HasTerm-grown c.bound_name.new.bank c.owned_is_full.new.bank c.in_ok-f.ensures.grown c.in_ok-v.v c.in_ok-v.ensures.at.has;
      formula = c.in_ok-f.ensures.at.has;
    }

pub returns-clause-at : goal.returns-clause-at
returns-clause-at c =
    let e = c.args.context.now in
    formula_so c.of_each.result c.of_each.new.bank (λ b. Forall (sort.Rest ∷ []) (spec.or_of (neg (allocated (term_at b e.now) (term_at b c.in_ok-v.v)) ∷ formula_at b c.in_ok-f.f ∷ [])))
    (λ b. spec.owned_full (context_at b e) c.args.class.0 (term_at b c.args.x))
    (λ b k.
    let kf = IsGrown-then c.owned_is_full.new.bank c.of_each.new.bank b c.of_each.ensures.grown k in
    let kv = IsGrown-then c.bound_name.new.bank c.owned_is_full.new.bank b c.in_ok-f.ensures.grown kf in
    ap (λ (g : Formula). Forall (sort.Rest ∷ []) (spec.or_of (neg (allocated (term_at b e.now) (term_at b c.in_ok-v.v)) ∷ g ∷ []))) (c.in_ok-f.ensures.at.is b kf)
    ∙ ap (λ (v : Term). Forall (sort.Rest ∷ []) (spec.or_of (neg (allocated (term_at b e.now) v) ∷ owned_is_full (classes e.classes.now) c.args.class.0 (term_at b e.now) v (term_at b c.args.x) ∷ []))) (c.in_ok-v.ensures.at.is b kv))
    c.of_each.ensures.at
