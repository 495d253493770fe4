use Rattle.std.proofs.Common.{[], ◌∷◌}
use Rattle.ss_terms.specs.Forms.{Forms, term_at}
use Rattle.ss_terms.proofs.Grown.{IsGrown-then}
use Rattle.ss_vcgen_builder.specs.Builder.{position_at, walk_at}
use Rattle.ss_vcgen_builder.proofs.Builds.{IsWalk-grown}
use Rattle.ss_vcgen_statements.proofs.Steps.{then, so, then_term, term_later}
use Rattle.ss_logic.specs.Terms.{Pack, app}
use Rattle.ss_vcgen_heaps.specs.Positions.{local_term, with_store}
use Rattle.ss_vcgen_heaps.specs.Obligations.{pack}
use Rattle.ss_vcgen_statements.specs.Words.{checked_level, checked_invariants}
use Rattle.ss_vcgen_statements.proofs.InContexts.{packed_at}
use Rattle.ss_vcgen_statements.proofs.levels.pack.Goals as goal

pub check_level-requires-clause-walk : goal.check_level-requires-clause-walk
check_level-requires-clause-walk c =
    let s = c.args.builder.now in
    let w = λ (b : Forms). walk_at b c.args.walk.now in
    let F0 = λ (b : Forms). position_at b s in
    let t1 = c.applied_local.new.builder in
    let e1 = c.in_ok-packed.ensures.stays in
    let g1 = e1.grown in
    let p1 = e1 in
    IsWalk-grown s.bank t1.bank g1 c.args.walk.now c.requires.walk

pub check_invariants-requires-clause-walk : goal.check_invariants-requires-clause-walk
check_invariants-requires-clause-walk c =
    let s = c.args.builder.now in
    let w = λ (b : Forms). walk_at b c.args.walk.now in
    let F0 = λ (b : Forms). position_at b s in
    let t1 = c.applied_local.new.builder in
    let e1 = c.in_ok-packed.ensures.stays in
    let g1 = e1.grown in
    let p1 = e1 in
    let t2 = c.check_level.new.builder in
    let e2 = c.in_ok-check_level.ensures in
    let g2 = e2.grown in
    let F2 = λ (b : Forms). checked_level (w b) c.args.at c.args.x c.args.class.0 (F0 b) in
    let p2 = then s t1 t2 F0 (λ b k. checked_level (w b) c.args.at c.args.x c.args.class.0 k) p1 e2 in
    let g0_2 = IsGrown-then s.bank t1.bank t2.bank g1 g2 in
    IsWalk-grown s.bank t2.bank g0_2 c.args.walk.now c.requires.walk

pub returns : goal.returns
returns c =
    let s = c.args.builder.now in
    let w = λ (b : Forms). walk_at b c.args.walk.now in
    let F0 = λ (b : Forms). position_at b s in
    let t1 = c.applied_local.new.builder in
    let e1 = c.in_ok-packed.ensures.stays in
    let g1 = e1.grown in
    let p1 = e1 in
    let t2 = c.check_level.new.builder in
    let e2 = c.in_ok-check_level.ensures in
    let g2 = e2.grown in
    let F2 = λ (b : Forms). checked_level (w b) c.args.at c.args.x c.args.class.0 (F0 b) in
    let p2 = then s t1 t2 F0 (λ b k. checked_level (w b) c.args.at c.args.x c.args.class.0 k) p1 e2 in
    let g0_2 = IsGrown-then s.bank t1.bank t2.bank g1 g2 in
    let t3 = c.check_invariants.new.builder in
    let e3 = c.in_ok-check_invariants.ensures in
    let g3 = e3.grown in
    let F3 = λ (b : Forms). checked_invariants (w b) c.args.at c.args.x c.args.class.0 (F2 b) in
    let p3 = then s t2 t3 F2 (λ b k. checked_invariants (w b) c.args.at c.args.x c.args.class.0 k) p2 e3 in
    let g1_3 = IsGrown-then t1.bank t2.bank t3.bank g2 g3 in
    let t4 = c.with_store.new.self in
    let e4 = c.in_ok-with_store.ensures in
    let g4 = e4.grown in
    let F4 = λ (b : Forms). with_store (app (Pack c.args.class.0) ((term_at b s.store) ∷ local_term c.args.x (F0 b) ∷ [])) (F3 b) in
    let p4 = then_term s t3 t4 F3 p3 c.in_ok-packed.packed (λ b. app (Pack c.args.class.0) ((term_at b s.store) ∷ local_term c.args.x (F0 b) ∷ [])) (λ b f k. with_store f k) (term_later t1.bank t3.bank g1_3 c.in_ok-packed.packed (λ b. app (Pack c.args.class.0) ((term_at b s.store) ∷ local_term c.args.x (F0 b) ∷ [])) c.in_ok-packed.ensures.at) e4 in
    so s t4 F4 (λ b. pack (w b) c.args.at c.args.x c.args.class.0 (F0 b))
    (λ b k. packed_at (w b) c.args.at c.args.x c.args.class.0 (F0 b)) p4
