use Rattle.std.proofs.Common.{ap}
use Rattle.ss_logic.specs.Express as spec
use Rattle.ss_terms.specs.Forms.{term_at}
use Rattle.ss_terms.proofs.Grown.{IsGrown-then, HasTerm-grown}
use Rattle.ss_vcgen_defaults.specs.Defaults.{no_peer}
use Rattle.ss_vcgen_express.specs.Contexts.{context_at}
use Rattle.ss_vcgen_express.proofs.Grown.{formula_so}
use Rattle.ss_vcgen_defaults.proofs.defaults.this_apart.Goals as goal

pub is_no_peer-requires : goal.is_no_peer-requires
is_no_peer-requires c = record {
  store = HasTerm-grown c.args.bank.now c.local_term.new.bank c.in_ok-this.ensures.grown c.args.context.now.now c.requires.context.now;
  object = c.in_ok-this.ensures.at.has;
  other = HasTerm-grown c.args.bank.now c.local_term.new.bank c.in_ok-this.ensures.grown c.args.x c.requires.object;
}

pub returns-clause-at : goal.returns-clause-at
returns-clause-at c =
    let e = c.args.context.now in
    formula_so c.is_no_peer.result c.is_no_peer.new.bank (λ b. no_peer (term_at b e.now) (term_at b c.in_ok-this.this) (term_at b c.args.x))
    (λ b. spec.over (spec.local_meant (context_at b e) 0) (λ y. no_peer (term_at b e.now) y (term_at b c.args.x)))
    (λ b k. ap (λ (m : spec.Meant). spec.over m (λ y. no_peer (term_at b e.now) y (term_at b c.args.x))) (c.in_ok-this.ensures.at.is b (IsGrown-then c.local_term.new.bank c.is_no_peer.new.bank b c.is_no_peer.ensures.grown k)))
    c.is_no_peer.ensures.at
