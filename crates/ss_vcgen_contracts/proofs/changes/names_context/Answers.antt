use Rattle.std.proofs.Common.{ap, ◌∙◌}
use Rattle.ss_core.specs.View as view
use Rattle.ss_logic.specs.Express.{at_entry}
use Rattle.ss_terms.specs.Forms.{term_at}
use Rattle.ss_terms.proofs.Grown.{IsGrown-then, HasTerms-grown}
use Rattle.ss_vcgen_contracts.specs.Views.{ones_at}
use Rattle.ss_vcgen_contracts.proofs.Framing.{names_context_is}
use Rattle.ss_vcgen_contracts.proofs.changes.names_context.Goals as goal

pub contract_context-requires-clause-arguments : goal.contract_context-requires-clause-arguments
contract_context-requires-clause-arguments c = HasTerms-grown c.args.bank.now c.no_result.new.bank c.no_result.ensures.grown c.args.arguments.now c.requires.arguments

pub returns-clause-at : goal.returns-clause-at
returns-clause-at c =
    let was = c.in_ok-context.ensures.at in
    record {
      has = record { now = was.has.now; entry = was.has.entry; locals = was.has.locals; classes = was.has.classes };
      is = λ b k.
          let g = IsGrown-then c.no_result.new.bank c.contract_context.new.bank b c.in_ok-context.ensures.grown k in
          ap at_entry (was.is b k)
          ∙ names_context_is (view.classes c.args.classes.now) c.args.contract.seen (view.body c.args.contract.body.now) (term_at b c.args.before) (ones_at b c.args.arguments.now) (ones_at b c.deref.result.now)
          (ap (ones_at b) c.deref.ensures.value ∙ c.in_ok-results.ensures.at.are b g);
    }
