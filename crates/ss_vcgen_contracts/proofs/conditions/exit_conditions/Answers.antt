use Rattle.std.proofs.Common.{map, ap, ◌∙◌}
use Rattle.ss_core.specs.View as view
use Rattle.ss_terms.specs.Forms.{term_at}
use Rattle.ss_terms.proofs.Grown.{IsGrown-then}
use Rattle.ss_vcgen_express.specs.Contexts.{context_at}
use Rattle.ss_vcgen_heaps.specs.Contracts as heaps
use Rattle.ss_vcgen_contracts.specs.Seen.{condition_of}
use Rattle.ss_vcgen_contracts.specs.Views.{contract_of, ones_at}
use Rattle.ss_vcgen_contracts.proofs.Framing.{exit_is}
use Rattle.ss_vcgen_contracts.proofs.conditions.exit_conditions.Goals as goal

pub returns-clause-at : goal.returns-clause-at
returns-clause-at c =
    let seen = c.args.contract.seen in
    let context = c.in_ok-context.context in
    record {
      has = c.in_ok-made.ensures.at.has;
      are = λ b k.
          let h = IsGrown-then c.contract_context.new.bank c.all_conditions.new.bank b c.in_ok-made.ensures.grown k in
          c.in_ok-made.ensures.at.are b k
          ∙ ap (λ es. heaps.conditions (map (condition_of seen) (view.exprs es)) (context_at b context)) c.deref.ensures.value
          ∙ ap (heaps.conditions (map (condition_of seen) (view.exprs c.args.contract.body.now.exit.items))) (c.in_ok-context.ensures.at.is b h)
          ∙ exit_is seen (view.body c.args.contract.body.now)
          (heaps.contract_context (view.classes c.args.classes.now) (contract_of c.args.contract) (term_at b c.args.run.after) (term_at b c.args.run.before) (ones_at b c.args.run.arguments.now) (ones_at b c.args.results.now));
    }
