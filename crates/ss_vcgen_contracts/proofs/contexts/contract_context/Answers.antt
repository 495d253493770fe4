use Rattle.ss_core.specs.View as view
use Rattle.ss_terms.specs.Forms.{term_at}
use Rattle.ss_terms.proofs.Grown.{HasTerm-grown}
use Rattle.ss_vcgen_contracts.specs.Views.{ones_at}
use Rattle.ss_vcgen_contracts.proofs.Framing.{context_is}
use Rattle.ss_vcgen_contracts.proofs.contexts.contract_context.Goals as goal

pub returns-clause-at : goal.returns-clause-at
returns-clause-at c =
    let g = c.in_ok-locals.ensures.grown in
    record {
      has = record {
        now = HasTerm-grown c.args.bank.now c.locals_of.new.bank g c.args.run.after c.requires.after;
        entry = HasTerm-grown c.args.bank.now c.locals_of.new.bank g c.args.run.before c.requires.before;
        locals = c.in_ok-locals.ensures.at.has;
        classes = c.requires.limit;
      };
      is = λ b k.
          context_is (view.classes c.args.classes.now) c.args.contract.seen (view.body c.args.contract.body.now) (term_at b c.args.run.after) (term_at b c.args.run.before) (ones_at b c.args.run.arguments.now) (ones_at b c.args.results.now)
          c.in_ok-types.types.items (ones_at b c.in_ok-locals.locals.items) c.in_ok-types.ensures (c.in_ok-locals.ensures.at.are b k);
    }
