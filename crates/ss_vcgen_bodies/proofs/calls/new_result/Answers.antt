use Rattle.std.proofs.Common.{[], ◌∷◌, ap, ◌∙◌}
use Rattle.ss_terms.specs.Forms.{terms_at}
use Rattle.ss_vcgen_heaps.specs.Positions.{new_term, with_new}
use Rattle.ss_vcgen_builder.specs.Builder.{position_at}
use Rattle.ss_vcgen_statements.proofs.Steps.{so}
use Rattle.ss_vcgen_bodies.proofs.calls.new_result.Goals as goal

pub returns-clause-at : goal.returns-clause-at
returns-clause-at c = record {
  has = rw c.in_ok-results.ensures.items (c.in_ok-t.ensures.at.has, tt);
  are = λ b k.
      ap (terms_at b) c.in_ok-results.ensures.items
      ∙ ap (λ x. x ∷ []) (c.in_ok-t.ensures.at.is b k ∙ ap (λ r. new_term r (position_at b c.args.builder.now)) c.element_sort.ensures);
}

pub returns-clause-becomes : goal.returns-clause-becomes
returns-clause-becomes c =
    let s = c.args.builder.now in
    so s c.new_term.new.self (λ b. with_new c.element_sort.result (position_at b s)) _ (λ b k. ap (λ r. with_new r (position_at b s)) c.element_sort.ensures) c.in_ok-t.ensures.becomes
