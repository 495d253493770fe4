use Rattle.std.proofs.Common.{map, ap, ◌∙◌}
use Rattle.ss_core.specs.View as view
use Rattle.ss_logic.specs.Express.{local_meant}
use Rattle.ss_terms.proofs.Grown.{IsGrown-then}
use Rattle.ss_vcgen_express.specs.Contexts.{context_at}
use Rattle.ss_vcgen_express.proofs.Contexts.{HasContext-grown}
use Rattle.ss_vcgen_heaps.specs.Contracts as heaps
use Rattle.ss_vcgen_contracts.specs.Names.{name_seen}
use Rattle.ss_vcgen_contracts.proofs.Listing.{HasAllNamed-grown}
use Rattle.ss_vcgen_contracts.proofs.changes.names_and_object.Goals as goal

pub local_term-requires : goal.local_term-requires
local_term-requires c = HasContext-grown c.in_ok-names.ensures.grown c.in_ok-context.context c.in_ok-context.ensures.at.has

pub returns-clause-names : goal.returns-clause-names
returns-clause-names c =
    let context = c.in_ok-context.context in
    let seen = c.args.contract.seen in
    record {
      has = HasAllNamed-grown c.named_terms.new.bank c.local_term.new.bank c.in_ok-object.ensures.grown c.in_ok-names.names.items c.in_ok-names.ensures.at.has;
      are = λ b k.
          let h = IsGrown-then c.named_terms.new.bank c.local_term.new.bank b c.in_ok-object.ensures.grown k in
          let g = IsGrown-then c.names_context.new.bank c.named_terms.new.bank b c.in_ok-names.ensures.grown h in
          c.in_ok-names.ensures.at.are b h
          ∙ ap (λ ns. heaps.named_terms (map (name_seen seen) (map view.named_of ns)) (context_at b context)) c.deref.ensures.value
          ∙ ap (heaps.named_terms (map (name_seen seen) (map view.named_of c.args.contract.body.now.named.items))) (c.in_ok-context.ensures.at.is b g);
    }

pub returns-clause-object : goal.returns-clause-object
returns-clause-object c = record {
  has = c.in_ok-object.ensures.at.has;
  is = λ b k.
      let h = IsGrown-then c.named_terms.new.bank c.local_term.new.bank b c.in_ok-object.ensures.grown k in
      let g = IsGrown-then c.names_context.new.bank c.named_terms.new.bank b c.in_ok-names.ensures.grown h in
      c.in_ok-object.ensures.at.is b k ∙ ap (λ s. local_meant s 0) (c.in_ok-context.ensures.at.is b g);
}
