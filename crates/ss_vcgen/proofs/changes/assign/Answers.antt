use Rattle.std.proofs.Common.{ap, ◌∙◌}
use Rattle.ss_core.specs.View.{expr}
use Rattle.ss_logic.specs.declared.Sort.{Sort}
use Rattle.ss_logic.specs.Express.{Meant}
use Rattle.ss_terms.specs.Forms.{Forms}
use Rattle.ss_terms.proofs.Grown.{IsGrown-then}
use Rattle.ss_vcgen_heaps.specs.Positions.{define, evaluate, meant_at, new_term, set_local}
use Rattle.ss_vcgen_heaps.specs.Obligations.{local_sort}
use Rattle.ss_vcgen_express.specs.Numbers.{meant_at as value_at}
use Rattle.ss_vcgen_builder.specs.Builder.{position_at, walk_at}
use Rattle.ss_vcgen_statements.proofs.Steps.{then, so, then_term, term_is}
use Rattle.ss_vcgen.specs.Behind.{assigned}
use Rattle.ss_vcgen.proofs.changes.assign.Goals as goal

pub returns : goal.returns
returns c =
    let s = c.args.builder.now in
    let w = λ (b : Forms). walk_at b c.args.walk.now in
    let e = expr c.args.e.now in
    let x = c.args.x in
    let o = c.local_sort-sort.result in
    let m = c.in_ok-meant.meant in
    let F0 = λ (b : Forms). position_at b s in
    let t1 = c.evaluate.new.builder in
    let e1 = c.in_ok-meant.ensures.becomes in
    let F1 = λ (b : Forms). evaluate (w b) e (F0 b) in
    let t2 = c.define.new.self in
    let e2 = c.in_ok-t.ensures.becomes in
    let F2 = λ (b : Forms). define o (value_at b m) (F1 b) in
    let p2 = then s t1 t2 F1 (λ b k. define o (value_at b m) k) e1 e2 in
    let t3 = c.set_local.new.self in
    let e3 = c.set_local.ensures in
    let at = term_is t2.bank c.in_ok-t.t (λ b. new_term o (position_at b t1)) (λ b. new_term o (F1 b)) (λ b k. ap (new_term o) (e1.is b (IsGrown-then t1.bank t2.bank b e2.grown k))) c.in_ok-t.ensures.at in
    so s t3 (λ b. set_local x (new_term o (F1 b)) (F2 b)) (λ b. assigned (w b) x e (F0 b))
    (λ b k.
    ap (λ (n : Meant). set_local x (new_term o (F1 b)) (define o n (F1 b))) (c.in_ok-meant.ensures.at.is b (IsGrown-then t1.bank t2.bank b e2.grown (IsGrown-then t2.bank t3.bank b e3.grown k)))
    ∙ ap (λ (r : Sort). set_local x (new_term r (F1 b)) (define r (meant_at (w b) e (F0 b)) (F1 b))) (c.local_sort-sort.ensures b))
    (then_term s t2 t3 F2 p2 c.in_ok-t.t (λ b. new_term o (F1 b)) (λ b y k. set_local x y k) at e3)
