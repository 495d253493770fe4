use Rattle.std.proofs.Common.{ap}
use Rattle.ss_core.specs.View as view
use Rattle.ss_terms.proofs.Grown.{IsGrown-then}
use Rattle.ss_vcgen_contracts.specs.Views.{ones_at}
use Rattle.ss_vcgen_contracts.proofs.Listing.{ones_next}
use Rattle.ss_vcgen_contracts.proofs.contexts.add_defaults.Goals as goal

pub loop-local-preserved : goal.loop-local-preserved
loop-local-preserved c = record {
  grown = IsGrown-then c.args.bank.now c.loop-local.bank c.add_default.new.bank c.loop-local.invariant.grown c.add_default.ensures.grown;
  done = ones_next (λ b. ones_at b c.args.terms.now.items) c.loop-local.bank c.add_default.new.bank c.args.locals.now c.loop-local.local-index c.local-item.result c.local-item.result.ty c.loop-local.terms.items c.add_default.new.terms.items
      c.add_default.ensures.grown c.loop-local-test.true (ap (λ l. (view.local_of l).ty) c.local-item.is) c.loop-local.invariant.done c.in_ok-add_default.ensures.at;
}
