use Rattle.std.proofs.Common.{[], ◌∷◌, ap, ◌∙◌}
use Rattle.ss_terms.specs.Forms.{Forms, term_at}
use Rattle.ss_terms.proofs.Grown.{IsGrown-then}
use Rattle.ss_vcgen_builder.specs.Builder.{position_at}
use Rattle.ss_vcgen_statements.proofs.Steps.{then}
use Rattle.ss_logic.specs.Formulas.{Forall}
use Rattle.ss_logic.specs.declared.Sort.TheVariants as sort
use Rattle.ss_vcgen_statements.specs.Words.{full_where_owned}
use Rattle.ss_logic.specs.Terms.{Bound}
use Rattle.ss_vcgen_statements.proofs.levels.owned_are_full.Goals as goal

pub returns-clause-stays : goal.returns-clause-stays
returns-clause-stays c =
    let s = c.args.builder.now in
    let F0 = λ (b : Forms). position_at b s in
    let t1 = c.bound_name.new.builder in
    let e1 = c.in_ok-v.ensures.stays in
    let g1 = e1.grown in
    let p1 = e1 in
    let t2 = c.is_full_where_owned.new.builder in
    let e2 = c.in_ok-body.ensures.stays in
    let g2 = e2.grown in
    let p2 = then s t1 t2 F0 (λ b k. k) p1 e2 in
    let t3 = c.each_object.new.builder in
    let e3 = c.in_ok-f.ensures.stays in
    let g3 = e3.grown in
    let p3 = then s t2 t3 F0 (λ b k. k) p2 e3 in
    let g1_3 = IsGrown-then t1.bank t2.bank t3.bank g2 g3 in
    p3

pub returns-clause-at : goal.returns-clause-at
returns-clause-at c =
    let s = c.args.builder.now in
    let F0 = λ (b : Forms). position_at b s in
    let t1 = c.bound_name.new.builder in
    let e1 = c.in_ok-v.ensures.stays in
    let g1 = e1.grown in
    let p1 = e1 in
    let t2 = c.is_full_where_owned.new.builder in
    let e2 = c.in_ok-body.ensures.stays in
    let g2 = e2.grown in
    let p2 = then s t1 t2 F0 (λ b k. k) p1 e2 in
    let t3 = c.each_object.new.builder in
    let e3 = c.in_ok-f.ensures.stays in
    let g3 = e3.grown in
    let p3 = then s t2 t3 F0 (λ b k. k) p2 e3 in
    let g1_3 = IsGrown-then t1.bank t2.bank t3.bank g2 g3 in
    record {
      has = c.in_ok-f.ensures.at.has;
      is = λ b k.
          c.in_ok-f.ensures.at.is b k
          ∙ ap (Forall (sort.Rest ∷ [])) (c.in_ok-body.ensures.at.is b (IsGrown-then t2.bank t3.bank b g3 k)
          ∙ ap (full_where_owned (term_at b c.args.store) (term_at b c.args.o) c.args.class.0) (c.in_ok-v.ensures.at.is b (IsGrown-then t1.bank t3.bank b g1_3 k)));
    }
