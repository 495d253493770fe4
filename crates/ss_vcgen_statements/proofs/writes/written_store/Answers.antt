use Rattle.std.proofs.Common.{[], ◌∷◌, ap, ◌∙◌}
use Rattle.ss_terms.specs.Forms.{Forms, term_at}
use Rattle.ss_terms.proofs.Grown.{IsGrown-then}
use Rattle.ss_vcgen_builder.specs.Builder.{position_at}
use Rattle.ss_vcgen_statements.proofs.Steps.{then}
use Rattle.ss_logic.specs.Terms.{Set, app}
use Rattle.ss_vcgen_statements.proofs.writes.written_store.Goals as goal

pub returns-clause-stays : goal.returns-clause-stays
returns-clause-stays c =
    let s = c.args.builder.now in
    let F0 = λ (b : Forms). position_at b s in
    let t1 = c.owned_store.new.builder in
    let e1 = c.in_ok-owned.ensures.stays in
    let g1 = e1.grown in
    let p1 = e1 in
    let t2 = c.applied.new.builder in
    let e2 = c.in_ok-written.ensures.stays in
    let g2 = e2.grown in
    let p2 = then s t1 t2 F0 (λ b k. k) p1 e2 in
    p2

pub returns-clause-at : goal.returns-clause-at
returns-clause-at c =
    let s = c.args.builder.now in
    let F0 = λ (b : Forms). position_at b s in
    let t1 = c.owned_store.new.builder in
    let e1 = c.in_ok-owned.ensures.stays in
    let g1 = e1.grown in
    let p1 = e1 in
    let t2 = c.applied.new.builder in
    let e2 = c.in_ok-written.ensures.stays in
    let g2 = e2.grown in
    let p2 = then s t1 t2 F0 (λ b k. k) p1 e2 in
    record {
      has = c.in_ok-written.ensures.at.has;
      is = λ b k. c.in_ok-written.ensures.at.is b k ∙ ap (λ x. app (Set c.args.field.0) (x ∷ (term_at b c.args.o) ∷ (term_at b c.args.v) ∷ [])) (c.in_ok-owned.ensures.at.is b (IsGrown-then t1.bank t2.bank b g2 k));
    }
