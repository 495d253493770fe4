use Rattle.std.proofs.Common.{map, length, sym, ap, ◌∙◌, subst}
use Rattle.ss_core.specs.View as view
use Rattle.ss_store_rules.specs.Locals.{this_types}
use Rattle.ss_terms.specs.Forms.{term_at, terms_at, HasTerms}
use Rattle.ss_terms.proofs.Grown.{HasTerm-grown, HasTerms-grown}
use Rattle.ss_frames.specs.Calls.{named_at, owner_at, HasOwned}
use Rattle.ss_vcgen_heaps.specs.Contracts as heaps
use Rattle.ss_vcgen_contracts.specs.Names.{names_context}
use Rattle.ss_vcgen_contracts.specs.Views.{contract_of, ones_at}
use Rattle.ss_vcgen_contracts.proofs.Framing.{frame_is}
use Rattle.ss_vcgen_contracts.proofs.Owning.{captured_of_body, has_captured_after, owned_at, has_owned}
use Rattle.ss_vcgen_contracts.proofs.changes.frame_terms.Goals as goal

pub returns-clause-at : goal.returns-clause-at
returns-clause-at c =
    let a = c.args.bank.now in
    let d = c.names_and_object.new.bank in
    let g = c.in_ok-found.ensures.grown in
    let cs = view.classes c.args.classes.now in
    let body = view.body c.args.contract.body.now in
    let n = length (this_types body) in
    let ts = c.args.run.arguments.now in
    let object = c.in_ok-found.found.1 in
    record {
      has = record {
        before = HasTerm-grown a d g c.args.run.before c.requires.before;
        after = HasTerm-grown a d g c.args.run.after c.requires.after;
        named = c.in_ok-found.ensures.names.has;
        captured = subst (HasTerms d) (sym c.in_ok-captured.ensures) (has_captured_after d n body.params ts (HasTerms-grown a d g ts c.requires.arguments));
        owned = subst (HasOwned d) (sym c.in_ok-owned.ensures) (has_owned d cs body object c.in_ok-found.ensures.object.has);
        outside = subst (HasTerms d) (sym c.in_ok-outside.ensures.items) (HasTerms-grown a d g c.args.outside.now c.requires.outside);
      };
      is = λ b k.
          frame_is cs c.args.contract.seen body (term_at b c.args.run.before) (term_at b c.args.run.after) (ones_at b ts) (map (named_at b) c.in_ok-found.found.0.items) (terms_at b c.in_ok-captured.captured.items)
          (map (owner_at b) c.in_ok-owned.owned.items) (terms_at b c.in_ok-outside.outside.items) (c.in_ok-found.ensures.names.are b k) (ap (terms_at b) c.in_ok-captured.ensures ∙ captured_of_body b n body.params ts)
          (ap (map (owner_at b)) c.in_ok-owned.ensures ∙ owned_at b cs body (names_context cs (contract_of c.args.contract) (term_at b c.args.run.before) (ones_at b ts)) object (sym (c.in_ok-found.ensures.object.is b k)))
          ∙ ap (λ os. heaps.frame_terms cs (contract_of c.args.contract) (term_at b c.args.run.before) (term_at b c.args.run.after) (ones_at b ts) (terms_at b os)) c.in_ok-outside.ensures.items;
    }
