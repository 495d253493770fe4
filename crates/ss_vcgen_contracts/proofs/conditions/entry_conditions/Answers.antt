use Rattle.std.proofs.Common.{map, ap, ◌∙◌}
use Rattle.ss_core.specs.View as view
use Rattle.ss_terms.specs.Forms.{term_at}
use Rattle.ss_terms.proofs.Grown.{IsGrown-then, HasTerms-grown}
use Rattle.ss_vcgen_express.specs.Contexts.{context_at}
use Rattle.ss_vcgen_heaps.specs.Contracts as heaps
use Rattle.ss_vcgen_contracts.specs.Seen.{condition_of}
use Rattle.ss_vcgen_contracts.specs.Views.{ones_at}
use Rattle.ss_vcgen_contracts.proofs.Framing.{entry_is}
use Rattle.ss_vcgen_contracts.proofs.conditions.entry_conditions.Goals as goal

pub contract_context-requires-clause-arguments : goal.contract_context-requires-clause-arguments
contract_context-requires-clause-arguments c = HasTerms-grown c.args.bank.now c.no_result.new.bank c.no_result.ensures.grown c.args.arguments.now c.requires.arguments

pub returns-clause-at : goal.returns-clause-at
returns-clause-at c =
    let seen = c.args.contract.seen in
    let cs = view.classes c.args.classes.now in
    let context = c.in_ok-context.context in
    record {
      has = c.in_ok-made.ensures.at.has;
      are = λ b k.
          let h = IsGrown-then c.contract_context.new.bank c.all_conditions.new.bank b c.in_ok-made.ensures.grown k in
          let g = IsGrown-then c.no_result.new.bank c.contract_context.new.bank b c.in_ok-context.ensures.grown h in
          let rs = ones_at b c.deref.result.now in
          c.in_ok-made.ensures.at.are b k
          ∙ ap (λ es. heaps.conditions (map (condition_of seen) (view.exprs es)) (context_at b context)) c.deref-2.ensures.value
          ∙ ap (heaps.conditions (map (condition_of seen) (view.exprs c.args.contract.body.now.entry.items))) (c.in_ok-context.ensures.at.is b h)
          ∙ entry_is cs seen (view.body c.args.contract.body.now) (term_at b c.args.store) (ones_at b c.args.arguments.now) rs (ap (ones_at b) c.deref.ensures.value ∙ c.in_ok-results.ensures.at.are b g);
    }
