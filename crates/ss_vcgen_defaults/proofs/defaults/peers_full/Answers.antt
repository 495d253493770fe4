use Rattle.std.proofs.Common.{[], ◌∷◌, ap, ◌∙◌}
use Rattle.ss_logic.specs.declared.Sort.TheVariants as sort
use Rattle.ss_logic.specs.Terms.{Term, Bound}
use Rattle.ss_logic.specs.Formulas.{Formula, Forall}
use Rattle.ss_terms.specs.Forms.{term_at, formula_at}
use Rattle.ss_terms.proofs.Grown.{IsGrown-then, HasTerm-grown}
use Rattle.ss_vcgen_defaults.specs.Defaults.{full_if_peer}
use Rattle.ss_vcgen_express.proofs.Grown.{formula_so}
use Rattle.ss_vcgen_defaults.proofs.defaults.peers_full.Goals as goal

pub is_full_if_peer-requires : goal.is_full_if_peer-requires
is_full_if_peer-requires c = record {
  store = HasTerm-grown c.args.bank.now c.bound_name.new.bank c.in_ok-v.ensures.grown c.args.context.now.now c.requires.context.now;
  object = c.in_ok-v.ensures.at.has;
  peer = HasTerm-grown c.args.bank.now c.bound_name.new.bank c.in_ok-v.ensures.grown c.args.x c.requires.object;
}

pub returns-clause-at : goal.returns-clause-at
returns-clause-at c =
    let e = c.args.context.now in
    formula_so c.for_all.result c.for_all.new.bank (λ b. Forall (sort.Rest ∷ []) (formula_at b c.in_ok-f.f)) (λ b. Forall (sort.Rest ∷ []) (full_if_peer (term_at b e.now) (Bound e.bound) (term_at b c.args.x)))
    (λ b k.
    let kf = IsGrown-then c.is_full_if_peer.new.bank c.for_all.new.bank b c.for_all.ensures.grown k in
    let kv = IsGrown-then c.bound_name.new.bank c.is_full_if_peer.new.bank b c.in_ok-f.ensures.grown kf in
    ap (λ (g : Formula). Forall (sort.Rest ∷ []) g) (c.in_ok-f.ensures.at.is b kf)
    ∙ ap (λ (v : Term). Forall (sort.Rest ∷ []) (full_if_peer (term_at b e.now) v (term_at b c.args.x))) (c.in_ok-v.ensures.at.is b kv))
    c.for_all.ensures.at
