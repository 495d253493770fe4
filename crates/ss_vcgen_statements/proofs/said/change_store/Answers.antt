use Rattle.ss_terms.specs.Forms.{Forms, terms_at, symbol_of}
use Rattle.ss_vcgen_builder.specs.Builder.{position_at}
use Rattle.ss_vcgen_statements.proofs.Steps.{then_term}
use Rattle.ss_logic.specs.Terms.{app}
use Rattle.ss_vcgen_heaps.specs.Positions.{with_store}
use Rattle.ss_vcgen_statements.proofs.said.change_store.Goals as goal

pub returns : goal.returns
returns c =
    let s = c.args.builder.now in
    let F0 = λ (b : Forms). position_at b s in
    let t1 = c.applied.new.builder in
    let e1 = c.in_ok-store.ensures.stays in
    let g1 = e1.grown in
    let p1 = e1 in
    let t2 = c.with_store.new.self in
    let e2 = c.in_ok-with_store.ensures in
    let g2 = e2.grown in
    let F2 = λ (b : Forms). with_store (app (symbol_of c.args.symbol) (terms_at b c.args.arguments.now)) (F0 b) in
    let p2 = then_term s t1 t2 F0 p1 c.in_ok-store.store (λ b. app (symbol_of c.args.symbol) (terms_at b c.args.arguments.now)) (λ b f k. with_store f k) c.in_ok-store.ensures.at e2 in
    p2
