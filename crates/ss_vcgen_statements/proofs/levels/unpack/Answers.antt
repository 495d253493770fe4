use Rattle.std.proofs.Common.{[], ◌∷◌}
use Rattle.ss_terms.specs.Forms.{Forms, term_at}
use Rattle.ss_vcgen_builder.specs.Builder.{position_at, walk_at}
use Rattle.ss_vcgen_builder.proofs.Builds.{IsWalk-grown}
use Rattle.ss_vcgen_statements.proofs.Steps.{then, then_term, term_later}
use Rattle.ss_logic.specs.Terms.{Unpack, app}
use Rattle.ss_vcgen_heaps.specs.Positions.{local_term, with_store}
use Rattle.ss_vcgen_statements.specs.Words.{checked_unpack}
use Rattle.ss_vcgen_statements.proofs.levels.unpack.Goals as goal

pub check_unpack-requires-clause-walk : goal.check_unpack-requires-clause-walk
check_unpack-requires-clause-walk c =
    let s = c.args.builder.now in
    let w = λ (b : Forms). walk_at b c.args.walk.now in
    let F0 = λ (b : Forms). position_at b s in
    let t1 = c.applied_local.new.builder in
    let e1 = c.in_ok-unpacked.ensures.stays in
    let g1 = e1.grown in
    let p1 = e1 in
    IsWalk-grown s.bank t1.bank g1 c.args.walk.now c.requires.walk

pub returns : goal.returns
returns c =
    let s = c.args.builder.now in
    let w = λ (b : Forms). walk_at b c.args.walk.now in
    let F0 = λ (b : Forms). position_at b s in
    let t1 = c.applied_local.new.builder in
    let e1 = c.in_ok-unpacked.ensures.stays in
    let g1 = e1.grown in
    let p1 = e1 in
    let t2 = c.check_unpack.new.builder in
    let e2 = c.in_ok-check_unpack.ensures in
    let g2 = e2.grown in
    let F2 = λ (b : Forms). checked_unpack (w b) c.args.at c.args.x c.args.class.0 (F0 b) in
    let p2 = then s t1 t2 F0 (λ b k. checked_unpack (w b) c.args.at c.args.x c.args.class.0 k) p1 e2 in
    let t3 = c.with_store.new.self in
    let e3 = c.in_ok-with_store.ensures in
    let g3 = e3.grown in
    let F3 = λ (b : Forms). with_store (app (Unpack c.args.class.0) ((term_at b s.store) ∷ local_term c.args.x (F0 b) ∷ [])) (F2 b) in
    let p3 = then_term s t2 t3 F2 p2 c.in_ok-unpacked.unpacked (λ b. app (Unpack c.args.class.0) ((term_at b s.store) ∷ local_term c.args.x (F0 b) ∷ [])) (λ b f k. with_store f k) (term_later t1.bank t2.bank g2 c.in_ok-unpacked.unpacked (λ b. app (Unpack c.args.class.0) ((term_at b s.store) ∷ local_term c.args.x (F0 b) ∷ [])) c.in_ok-unpacked.ensures.at) e3 in
    p3
