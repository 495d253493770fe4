use Rattle.std.proofs.Common.{[], ◌∷◌, Some, ap, ◌∙◌, sym}
use Rattle.ss_core.specs.View.{expr}
use Rattle.ss_logic.specs.declared.Sort.{Sort}
use Rattle.ss_logic.specs.Express.{Meant, One}
use Rattle.ss_terms.specs.Forms.{Forms}
use Rattle.ss_terms.proofs.Grown.{IsGrown-then}
use Rattle.ss_vcgen_contracts.specs.Views.{ones_at}
use Rattle.ss_vcgen_heaps.specs.Positions.{Position, evaluate, meant_at, term_for, with_term}
use Rattle.ss_vcgen_express.specs.Numbers.{meant_at as value_at}
use Rattle.ss_vcgen_builder.specs.Builder.{position_at, walk_at}
use Rattle.ss_vcgen_statements.proofs.InContexts.{evaluate_alike, meant_alike}
use Rattle.ss_vcgen_statements.proofs.Steps.{then, so}
use Rattle.ss_vcgen_bodies.specs.Words.{reached_result}
use Rattle.ss_vcgen_bodies.proofs.returns.settle_there.Goals as goal

pub returns-clause-becomes : goal.returns-clause-becomes
returns-clause-becomes c =
    let s = c.args.builder.now in
    let w = λ (b : Forms). walk_at b c.args.walk.now in
    let e = expr c.args.e.now in
    let F0 = λ (b : Forms). position_at b s in
    let t1 = c.evaluate.new.builder in
    let t2 = c.settle.new.self in
    let e2 = c.in_ok-t.ensures.becomes in
    let F1 = λ (b : Forms). evaluate (w b) e (F0 b) in
    let o = c.element_sort.result in
    let m = c.in_ok-meant.meant in
    so s t2 (λ b. with_term o (value_at b m) (F1 b)) (λ b. reached_result (w b) (Some e) (F0 b))
    (λ b k.
    ap (λ (n : Meant). with_term o n (F1 b)) (c.in_ok-meant.ensures.at.is b (IsGrown-then t1.bank t2.bank b e2.grown k) ∙ sym (meant_alike (w b) e (F1 b) (F0 b) (evaluate_alike (w b) e (F0 b))))
    ∙ ap (λ (o : Sort). with_term o (meant_at (w b) e (F1 b)) (F1 b)) c.element_sort.ensures)
    (then s t1 t2 F1 (λ b k. with_term o (value_at b m) k) c.in_ok-meant.ensures.becomes e2)

pub returns-clause-at : goal.returns-clause-at
returns-clause-at c =
    let s = c.args.builder.now in
    let w = λ (b : Forms). walk_at b c.args.walk.now in
    let e = expr c.args.e.now in
    let F0 = λ (b : Forms). position_at b s in
    let t1 = c.evaluate.new.builder in
    let t2 = c.settle.new.self in
    let F1 = λ (b : Forms). evaluate (w b) e (F0 b) in
    let o = c.element_sort.result in
    let m = c.in_ok-meant.meant in
    record {
      has = rw c.in_ok-terms.ensures.items (c.in_ok-t.ensures.at.has, tt);
      are = λ b k.
          let here = IsGrown-then t1.bank t2.bank b c.in_ok-t.ensures.becomes.grown k in
          ap (ones_at b) c.in_ok-terms.ensures.items
          ∙ ap (λ x. One x ∷ [])
          (c.in_ok-t.ensures.at.is b k
          ∙ ap (λ (k : Position). term_for o (value_at b m) k) (c.in_ok-meant.ensures.becomes.is b here)
          ∙ ap (λ (n : Meant). term_for o n (F1 b)) (c.in_ok-meant.ensures.at.is b here ∙ sym (meant_alike (w b) e (F1 b) (F0 b) (evaluate_alike (w b) e (F0 b))))
          ∙ ap (λ (o : Sort). term_for o (meant_at (w b) e (F1 b)) (F1 b)) c.element_sort.ensures);
    }
