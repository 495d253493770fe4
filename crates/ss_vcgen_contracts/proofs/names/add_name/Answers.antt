use Rattle.std.proofs.Common.{◌++◌, map, ap, ◌∙◌}
use Rattle.ss_core.specs.View as view
use Rattle.ss_logic.specs.Express.{meant}
use Rattle.ss_machine_rules.specs.Frame.{subject_of}
use Rattle.ss_terms.specs.Forms.{formulas_at}
use Rattle.ss_terms.proofs.Grown.{IsGrown-then}
use Rattle.ss_frames.specs.Calls.{named_at}
use Rattle.ss_vcgen_express.specs.Numbers.{meant_at}
use Rattle.ss_vcgen_express.specs.Contexts.{context_at}
use Rattle.ss_vcgen_heaps.specs.Contracts as heaps
use Rattle.ss_vcgen_contracts.specs.Names.{named_as}
use Rattle.ss_vcgen_contracts.proofs.Listing.{HasAllNamed-grown}
use Rattle.ss_vcgen_contracts.proofs.Naming.{names_by_kind}
use Rattle.ss_vcgen_contracts.proofs.names.add_name.Goals as goal

pub add_meant-requires-clause-names : goal.add_meant-requires-clause-names
add_meant-requires-clause-names c = HasAllNamed-grown c.args.bank.now c.naming.new.bank c.in_ok-named.ensures.grown c.args.names.now.items c.requires.names

pub returns-clause-at : goal.returns-clause-at
returns-clause-at c =
    let s = c.args.context.now in
    let n = view.named_of c.args.name.now in
    let kind = c.kind_of-kind.result in
    let m = c.in_ok-named.named.1 in
    record {
      has = c.in_ok-add_meant.ensures.at.has;
      are = λ b k.
          let h = IsGrown-then c.naming.new.bank c.add_meant.new.bank b c.in_ok-add_meant.ensures.grown k in
          let e = view.expr c.subject_of.result.now in
          c.in_ok-add_meant.ensures.at.are b k
          ∙ ap (λ l. map (named_at b) c.args.names.now.items ++ l)
          (ap (λ fs. named_as kind (formulas_at b fs) (meant_at b m)) c.deref.ensures.value
          ∙ ap (λ gs. named_as kind gs (meant_at b m)) (c.in_ok-named.ensures.parts.are b h)
          ∙ ap (named_as kind (heaps.naming_parts e (context_at b s))) (c.in_ok-named.ensures.meant.is b h)
          ∙ ap (λ u. named_as kind (heaps.naming_parts u (context_at b s)) (meant u (context_at b s))) c.subject_of.ensures
          ∙ ap (λ i. named_as i (heaps.naming_parts (subject_of n) (context_at b s)) (meant (subject_of n) (context_at b s))) c.kind_of-kind.ensures
          ∙ names_by_kind c.args.seen n (context_at b s));
    }
