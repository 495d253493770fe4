use Rattle.std.proofs.Common.{◌++◌, map, subst}
use Rattle.ss_core.specs.View as view
use Rattle.ss_terms.proofs.Grown.{IsGrown-then}
use Rattle.ss_frames.specs.Calls.{named_at}
use Rattle.ss_vcgen_express.specs.Contexts.{context_at}
use Rattle.ss_vcgen_express.proofs.Contexts.{HasContext-grown}
use Rattle.ss_vcgen_contracts.specs.Names.{name_seen, names_of}
use Rattle.ss_vcgen_contracts.specs.Views.{AreNames}
use Rattle.ss_vcgen_contracts.proofs.Listing.{names_flat}
use Rattle.ss_vcgen_contracts.proofs.names.named_terms.Goals as goal

pub add_name-requires-clause-context : goal.add_name-requires-clause-context
add_name-requires-clause-context c = HasContext-grown c.loop-name.invariant.grown c.args.context.now c.requires

pub loop-name-preserved : goal.loop-name-preserved
loop-name-preserved c =
    let s = c.args.context.now in
    record {
      grown = IsGrown-then c.args.bank.now c.loop-name.bank c.add_name.new.bank c.loop-name.invariant.grown c.add_name.ensures.grown;
      done = names_flat view.named_of (name_seen c.args.seen) (λ b. names_of (context_at b s)) c.loop-name.bank c.add_name.new.bank c.args.list.now c.loop-name.name-index c.name-item.result c.loop-name.names.items c.add_name.new.names.items
          c.add_name.ensures.grown c.loop-name-test.true c.loop-name.invariant.done
          (subst (λ n. AreNames c.add_name.new.bank c.add_name.new.names.items (λ b. map (named_at b) c.loop-name.names.items ++ names_of (context_at b s) (name_seen c.args.seen (view.named_of n)))) c.name-item.is c.in_ok-add_name.ensures.at);
    }
