use Rattle.std.proofs.Common.{[], ◌∷◌, ap, ◌∙◌}
use Rattle.ss_terms.specs.Forms.{Forms, term_at, symbol_of}
use Rattle.ss_terms.proofs.Grown.{IsGrown-then}
use Rattle.ss_vcgen_builder.specs.Builder.{position_at}
use Rattle.ss_vcgen_statements.proofs.Steps.{then}
use Rattle.ss_logic.specs.Terms.{app}
use Rattle.ss_vcgen_statements.proofs.said.applied_local.Goals as goal

pub returns-clause-stays : goal.returns-clause-stays
returns-clause-stays c =
    let s = c.args.builder.now in
    let F0 = λ (b : Forms). position_at b s in
    let t1 = c.local_term.new.self in
    let e1 = c.local_term.ensures.stays in
    let g1 = e1.grown in
    let p1 = e1 in
    let t2 = c.applied.new.builder in
    let e2 = c.in_ok-t.ensures.stays in
    let g2 = e2.grown in
    let p2 = then s t1 t2 F0 (λ b k. k) p1 e2 in
    p2

pub returns-clause-at : goal.returns-clause-at
returns-clause-at c =
    let s = c.args.builder.now in
    let F0 = λ (b : Forms). position_at b s in
    let t1 = c.local_term.new.self in
    let e1 = c.local_term.ensures.stays in
    let g1 = e1.grown in
    let p1 = e1 in
    let t2 = c.applied.new.builder in
    let e2 = c.in_ok-t.ensures.stays in
    let g2 = e2.grown in
    let p2 = then s t1 t2 F0 (λ b k. k) p1 e2 in
    record {
      has = c.in_ok-t.ensures.at.has;
      is = λ b k. c.in_ok-t.ensures.at.is b k ∙ ap (λ o. app (symbol_of c.args.symbol) ((term_at b s.store) ∷ o ∷ [])) (c.in_ok-o.ensures.at.is b (IsGrown-then t1.bank t2.bank b g2 k));
    }
