use Rattle.std.proofs.Common.{ℕ, List, length, map, take, ap, sym, ◌∙◌}
use Rattle.std.proofs.lemmas.List.{take-map}
use Rattle.ss_core.specs.View.{body}
use Rattle.ss_logic.specs.Express.{Context}
use Rattle.ss_store_rules.specs.Locals.{argument_count}
use Rattle.ss_terms.specs.declared.forms.TermId.{TermId}
use Rattle.ss_vcgen_heaps.specs.Positions.{meant_of}
use Rattle.ss_vcgen_express.specs.Contexts.{local_at}
use Rattle.ss_vcgen_builder.specs.Builder.{position_at}
use Rattle.ss_vcgen_bodies.proofs.Making.{HasTerms-take}
use Rattle.ss_vcgen_bodies.proofs.frames.arguments_now.Goals as goal

pub returns-clause-at : goal.returns-clause-at
returns-clause-at c =
    let s = c.args.builder.now in
    let t = c.context.new.builder in
    let ls = c.in_ok-context.context.locals.items in
    let n = argument_count (body c.args.walk.now.body.now) in
    let is = c.in_ok-terms.ensures ∙ ap (λ (ts : List TermId). take c.len.result ts) c.deref.ensures.value ∙ ap (λ (m : ℕ). take m ls) (c.len.ensures ∙ c.in_ok-types.types.ok.0 ∙ ap length c.in_ok-types.ensures) in
    record {
      has = rw is (HasTerms-take t.bank n ls c.in_ok-context.ensures.at.has.locals);
      are = λ b k.
          ap (λ (ts : List TermId). map (local_at b) ts) is
          ∙ sym (take-map (local_at b) n ls)
          ∙ ap (λ (c : Context). take n c.locals) (c.in_ok-context.ensures.at.is b k)
          ∙ take-map meant_of n (position_at b s).locals;
    }
