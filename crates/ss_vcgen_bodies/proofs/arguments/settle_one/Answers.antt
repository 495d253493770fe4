use Rattle.std.proofs.Common.{ap, ◌∙◌}
use Rattle.ss_core.specs.View.{expr}
use Rattle.ss_terms.specs.Forms.{Forms}
use Rattle.ss_terms.proofs.Grown.{IsGrown-then}
use Rattle.ss_vcgen_heaps.specs.Positions as spec
use Rattle.ss_vcgen_heaps.specs.Positions.{with_term, term_for}
use Rattle.ss_vcgen_express.specs.Numbers.{meant_at}
use Rattle.ss_vcgen_builder.specs.Builder.{position_at, walk_at}
use Rattle.ss_vcgen_bodies.specs.CallWords.{argument_sort}
use Rattle.ss_vcgen_statements.proofs.Steps.{then, so}
use Rattle.ss_vcgen_bodies.proofs.arguments.settle_one.Goals as goal

pub returns-clause-becomes : goal.returns-clause-becomes
returns-clause-becomes c =
    let s = c.args.builder.now in
    let t1 = c.meaning.new.builder in
    let t2 = c.settle.new.self in
    let m = c.in_ok-meant.meant in
    let sort = c.sort_in_code-sort.result in
    let says = λ (b : Forms). spec.meant_at (walk_at b c.args.walk.now) (expr c.args.e.now) (position_at b s) in
    let e2 = c.in_ok-t.ensures.becomes in
    so s t2 (λ b. with_term sort (meant_at b m) (position_at b s)) (λ b. with_term (argument_sort (walk_at b c.args.walk.now) (expr c.args.e.now)) (says b) (position_at b s))
    (λ b k. ap (λ x. with_term sort x (position_at b s)) (c.in_ok-meant.ensures.at.is b (IsGrown-then t1.bank t2.bank b e2.grown k)) ∙ ap (λ r. with_term r (says b) (position_at b s)) c.sort_in_code-sort.ensures)
    (then s t1 t2 (λ b. position_at b s) (λ b k. with_term sort (meant_at b m) k) c.in_ok-meant.ensures.stays e2)

pub returns-clause-at : goal.returns-clause-at
returns-clause-at c =
    let s = c.args.builder.now in
    let t1 = c.meaning.new.builder in
    let t2 = c.settle.new.self in
    let m = c.in_ok-meant.meant in
    let sort = c.sort_in_code-sort.result in
    let says = λ (b : Forms). spec.meant_at (walk_at b c.args.walk.now) (expr c.args.e.now) (position_at b s) in
    let e2 = c.in_ok-t.ensures.becomes in
    record {
      has = c.in_ok-t.ensures.at.has;
      is = λ b k.
          let k1 = IsGrown-then t1.bank t2.bank b e2.grown k in
          c.in_ok-t.ensures.at.is b k
          ∙ ap (term_for sort (meant_at b m)) (c.in_ok-meant.ensures.stays.is b k1)
          ∙ ap (λ x. term_for sort x (position_at b s)) (c.in_ok-meant.ensures.at.is b k1)
          ∙ ap (λ r. term_for r (says b) (position_at b s)) c.sort_in_code-sort.ensures;
    }
