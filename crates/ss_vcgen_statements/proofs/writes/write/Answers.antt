use Rattle.ss_terms.specs.Forms.{Forms, term_at}
use Rattle.ss_vcgen_builder.specs.Builder.{position_at, walk_at}
use Rattle.ss_vcgen_builder.proofs.Builds.{IsWalk-grown}
use Rattle.ss_vcgen_statements.proofs.Steps.{then, then_term, term_later}
use Rattle.ss_core.specs.View.{expr}
use Rattle.ss_vcgen_heaps.specs.Positions.{with_store}
use Rattle.ss_vcgen_statements.specs.Words.{checked_write, written_store}
use Rattle.ss_vcgen_statements.proofs.writes.write.Goals as goal

pub check_write-requires-clause-walk : goal.check_write-requires-clause-walk
check_write-requires-clause-walk c =
    let s = c.args.builder.now in
    let w = λ (b : Forms). walk_at b c.args.walk.now in
    let F0 = λ (b : Forms). position_at b s in
    let t1 = c.written_store.new.builder in
    let e1 = c.in_ok-written.ensures.stays in
    let g1 = e1.grown in
    let p1 = e1 in
    IsWalk-grown s.bank t1.bank g1 c.args.walk.now c.requires.walk

pub returns : goal.returns
returns c =
    let s = c.args.builder.now in
    let w = λ (b : Forms). walk_at b c.args.walk.now in
    let F0 = λ (b : Forms). position_at b s in
    let t1 = c.written_store.new.builder in
    let e1 = c.in_ok-written.ensures.stays in
    let g1 = e1.grown in
    let p1 = e1 in
    let t2 = c.check_write.new.builder in
    let e2 = c.in_ok-check_write.ensures in
    let g2 = e2.grown in
    let F2 = λ (b : Forms). checked_write (w b) c.args.target.now.place (expr c.args.target.now.object.now) c.args.target.now.mark c.args.target.now.class.0 (term_at b c.args.o) (term_at b c.args.v) (F0 b) in
    let p2 = then s t1 t2 F0 (λ b k. checked_write (w b) c.args.target.now.place (expr c.args.target.now.object.now) c.args.target.now.mark c.args.target.now.class.0 (term_at b c.args.o) (term_at b c.args.v) k) p1 e2 in
    let t3 = c.with_store.new.self in
    let e3 = c.in_ok-with_store.ensures in
    let g3 = e3.grown in
    let F3 = λ (b : Forms). with_store (written_store c.args.target.now.field.0 c.args.target.now.mark c.args.target.now.class.0 (term_at b c.args.o) (term_at b c.args.v) (F0 b)) (F2 b) in
    let p3 = then_term s t2 t3 F2 p2 c.in_ok-written.written (λ b. written_store c.args.target.now.field.0 c.args.target.now.mark c.args.target.now.class.0 (term_at b c.args.o) (term_at b c.args.v) (F0 b)) (λ b f k. with_store f k) (term_later t1.bank t2.bank g2 c.in_ok-written.written (λ b. written_store c.args.target.now.field.0 c.args.target.now.mark c.args.target.now.class.0 (term_at b c.args.o) (term_at b c.args.v) (F0 b)) c.in_ok-written.ensures.at) e3 in
    p3
