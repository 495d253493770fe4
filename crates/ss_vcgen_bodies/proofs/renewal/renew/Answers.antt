use Rattle.std.proofs.Common.{List, ap}
use Rattle.ss_core.specs.declared.names.Ty.{Ty}
use Rattle.ss_core.specs.View.{stmt_of}
use Rattle.ss_logic.specs.declared.Sort.TheVariants as sort
use Rattle.ss_terms.specs.Forms.{Forms}
use Rattle.ss_terms.proofs.Grown.{IsGrown-then}
use Rattle.ss_vcgen_heaps.specs.Positions.{new_term, set_store, with_new}
use Rattle.ss_vcgen_heaps.specs.Obligations as spec
use Rattle.ss_vcgen_builder.specs.Builder.{position_at, walk_at}
use Rattle.ss_vcgen_statements.proofs.Steps.{then, so, then_term, term_is}
use Rattle.ss_vcgen_bodies.proofs.renewal.renew.Goals as goal

pub returns : goal.returns
returns c =
    let s = c.args.builder.now in
    let st = stmt_of c.args.stmt.now in
    let F0 = λ (b : Forms). position_at b s in
    let t1 = c.renew_locals.new.builder in
    let e1 = c.in_ok-renew_locals.ensures in
    let F1 = λ (b : Forms). spec.renew_from st 0 c.args.walk.now.types.now (F0 b) in
    let t2 = c.new_term.new.self in
    let e2 = c.in_ok-store.ensures.becomes in
    let F2 = λ (b : Forms). with_new sort.Store (F1 b) in
    let p2 = then s t1 t2 F1 (λ b k. with_new sort.Store k) e1 e2 in
    let t3 = c.set_store.new.self in
    let at = term_is t2.bank c.in_ok-store.store (λ b. new_term sort.Store (position_at b t1)) (λ b. new_term sort.Store (F1 b)) (λ b k. ap (new_term sort.Store) (e1.is b (IsGrown-then t1.bank t2.bank b e2.grown k))) c.in_ok-store.ensures.at in
    let p3 = then_term s t2 t3 F2 p2 c.in_ok-store.store (λ b. new_term sort.Store (F1 b)) (λ b x k. set_store x k) at c.set_store.ensures in
    so s t3 (λ b. set_store (new_term sort.Store (F1 b)) (F2 b)) (λ b. spec.renewed (walk_at b c.args.walk.now) st (F0 b))
    (λ b k. ap (λ (ts : List Ty). set_store (new_term sort.Store (spec.renew_from st 0 ts (F0 b))) (with_new sort.Store (spec.renew_from st 0 ts (F0 b)))) c.requires.walk.types) p3
