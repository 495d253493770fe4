use Rattle.ss_core.specs.Tree.{ExprTree}
use Rattle.ss_logic.specs.Express as spec
use Rattle.ss_terms.specs.Forms.{Forms}
use Rattle.ss_terms.proofs.Grown.{IsGrown-then}
use Rattle.ss_vcgen_express.specs.Contexts.{context_at}
use Rattle.ss_vcgen_express.proofs.Contexts.{HasContext-grown}
use Rattle.ss_vcgen_walk.proofs.Holding.{conditions_more, at_item}
use Rattle.ss_vcgen_walk.proofs.contracts.conditions.Goals as goal

pub holds-requires : goal.holds-requires
holds-requires c = HasContext-grown c.loop-e.invariant.grown c.args.context.now c.requires

pub loop-e-preserved : goal.loop-e-preserved
loop-e-preserved c = record {
  grown = IsGrown-then c.args.bank.now c.loop-e.bank c.holds.new.bank c.loop-e.invariant.grown c.holds.ensures.grown;
  done = conditions_more (λ (b : Forms) (t : ExprTree). spec.holds_formula t (context_at b c.args.context.now)) c.loop-e.bank c.holds.new.bank c.args.es.now c.loop-e.e-index c.e-item.result c.loop-e.list.items c.push.new.self.items c.in_ok-f.f
      c.holds.ensures.grown c.loop-e-test.true c.in_ok-push.ensures.items c.loop-e.invariant.done (at_item (λ (b : Forms) (t : ExprTree). spec.holds_formula t (context_at b c.args.context.now)) c.holds.new.bank c.args.es.now c.loop-e.e-index c.e-item.result c.in_ok-f.f c.e-item.is c.in_ok-f.ensures.at);
}
